-- Typing stays where the questions that it asks do.
use Rattle.std.proofs.Common.{Bool, List, [], ◌∷◌}
use Rattle.cx_base.specs.declared.limit.Limit.{Limit}
use Rattle.cx_base.specs.declared.numbers.DeclId.{DeclId}
use Rattle.cx_base.specs.declared.place.Place.{Place}
use Rattle.cx_base.specs.declared.value.Scalar.{Scalar}
use Rattle.cx_term.specs.Term.{Term}
use Rattle.cx_questions.specs.Environments.{Environment, Typed, Choice, Winner, best_is, none_viable, ambiguous}
use Rattle.cx_questions.specs.Forms.{Name, Expression, Expressions, literal, local_name, position_name, field_name, constant_name, functions_name, other_name, parentheses, unary, binary, conditional, dot, scope, call, list, cast, is_same, out, concept_id, requires, requires_with, no_expression, and_expression}
use Rattle.cx_questions.specs.Program.{Program, Limits, with_limits}
use Rattle.cx_questions.specs.Questions.{Questions}
use Rattle.cx_questions.specs.Members.{own_field_typed, constant_typed, member_typed, qualifier, qualified_type, scope_typed}
use Rattle.cx_questions.specs.Lists.{not_narrowed, to_scalar, to_field, to_fields, struct_listed, scalar_listed, list_typed, cast_to_struct, cast_typed}
use Rattle.cx_questions.specs.Typing.{complete, all_complete, winner_typed, choice_typed, type_expression, type_expressions}
use Rattle.cx_question_laws.specs.Staying.{Stays, AllStay}
use Rattle.cx_question_laws.proofs.LimitTests.{Larger, made_stays}
use Rattle.cx_question_laws.proofs.Combining.{staying, same_stays}
use Rattle.cx_question_laws.proofs.SubstitutionStays.{type_stays, arguments_stay}

module _ (kind : Limit → Bool) (u : Program) (l : Limits) (larger : Larger kind u.limits l) (b c : Questions) (below : AllStay kind b c) where
  -- ---- members

  pub own_field_stays : (env : Environment) (at : Place) (d : DeclId) → Stays kind (own_field_typed u b env at d) (own_field_typed (with_limits u l) c env at d)
  own_field_stays env at d = search (staying, made_stays kind u l larger, type_stays kind u l larger b c below) depth 12

  pub constant_typed_stays : (ts : List Term) (at : Place) (d : DeclId) → Stays kind (constant_typed u b ts at d) (constant_typed (with_limits u l) c ts at d)
  constant_typed_stays ts at d = search (staying, made_stays kind u l larger, type_stays kind u l larger b c below) depth 12

  pub member_typed_stays : (at : Place) (e : Typed) (name : Name) → Stays kind (member_typed u b at e name) (member_typed (with_limits u l) c at e name)
  member_typed_stays at e name = search (staying, made_stays kind u l larger, below.class) depth 12

  pub qualifier_stays : (at head : Place) (t : Term) → Stays kind (qualifier u b at head t) (qualifier (with_limits u l) c at head t)
  qualifier_stays at head t = search (staying, below.class) depth 12

  pub qualified_type_stays : (at head : Place) (t : Term) (name : Name) → Stays kind (qualified_type u b at head t name) (qualified_type (with_limits u l) c at head t name)
  qualified_type_stays at head t name = search (staying, qualifier_stays) depth 12

  pub scope_typed_stays : (at head : Place) (t : Term) (names : List Name) (name : Name) → Stays kind (scope_typed u b at head t names name) (scope_typed (with_limits u l) c at head t names name)
  scope_typed_stays at head t names name = search (staying, qualified_type_stays, qualifier_stays, constant_typed_stays) depth 12

  -- ---- lists and casts

  module _ (env : Environment) (at : Place) where
    pub not_narrowed_stays : (to : Scalar) (e : Expression) (from : Scalar) → Stays kind (not_narrowed b env at to e from) (not_narrowed c env at to e from)
    not_narrowed_stays to e from = search (staying, below.constant) depth 12

    pub to_scalar_stays : (to : Scalar) (e : Expression) (x : Typed) → Stays kind (to_scalar b env at to e x) (to_scalar c env at to e x)
    to_scalar_stays to e x = search (staying, not_narrowed_stays) depth 12

    pub to_field_stays : (t : Term) (e : Expression) (x : Typed) → Stays kind (to_field b env at t e x) (to_field c env at t e x)
    to_field_stays t e x = search (staying, to_scalar_stays) depth 12

    pub to_fields_stay : (ts : List Term) (es : List Expression) (xs : List Typed) → Stays kind (to_fields b env at ts es xs) (to_fields c env at ts es xs)
    to_fields_stay ts [] xs = same_stays _
    to_fields_stay ts (e ∷ es) [] = same_stays _
    to_fields_stay [] (e ∷ es) (x ∷ xs) = same_stays _
    to_fields_stay (t ∷ ts) (e ∷ es) (x ∷ xs) = search (staying, to_field_stays, to_fields_stay ts es xs) depth 12

    pub struct_listed_stays : (t : Term) (es : List Expression) (xs : List Typed) → Stays kind (struct_listed b env at t es xs) (struct_listed c env at t es xs)
    struct_listed_stays t es xs = search (staying, below.class, to_fields_stay) depth 12

    pub scalar_listed_stays : (s : Scalar) (es : List Expression) (xs : List Typed) → Stays kind (scalar_listed b env at s es xs) (scalar_listed c env at s es xs)
    scalar_listed_stays s (e ∷ []) (x ∷ []) = to_scalar_stays s e x
    scalar_listed_stays s (e ∷ []) (x ∷ y ∷ xs) = same_stays _
    scalar_listed_stays s (e ∷ []) [] = same_stays _
    scalar_listed_stays s (e ∷ f ∷ es) [] = same_stays _
    scalar_listed_stays s (e ∷ f ∷ es) (x ∷ xs) = same_stays _
    scalar_listed_stays s [] [] = same_stays _
    scalar_listed_stays s [] (x ∷ xs) = same_stays _

    pub list_typed_stays : (t : Term) (es : List Expression) (xs : List Typed) → Stays kind (list_typed b env at t es xs) (list_typed c env at t es xs)
    list_typed_stays t es xs = search (staying, scalar_listed_stays, struct_listed_stays) depth 12

  pub cast_to_struct_stays : (at place : Place) (t : Term) (e : Typed) → Stays kind (cast_to_struct b at place t e) (cast_to_struct c at place t e)
  cast_to_struct_stays at place t e = search (staying, below.class) depth 12

  pub cast_typed_stays : (at place : Place) (t : Term) (e : Typed) → Stays kind (cast_typed b at place t e) (cast_typed c at place t e)
  cast_typed_stays at place t e = search (staying, cast_to_struct_stays) depth 12

  -- ---- calls

  pub complete_stays : (at : Place) (t : Term) → Stays kind (complete u b at t) (complete (with_limits u l) c at t)
  complete_stays at t = search (staying, below.class) depth 12

  pub all_complete_stay : (at : Place) (ts : List Term) → Stays kind (all_complete u b at ts) (all_complete (with_limits u l) c at ts)
  all_complete_stay at ts = search (staying, complete_stays) depth 12

  pub winner_typed_stays : (at : Place) (w : Winner) → Stays kind (winner_typed u b at w) (winner_typed (with_limits u l) c at w)
  winner_typed_stays at w = search (staying, complete_stays, all_complete_stay) depth 12

  pub choice_typed_stays : (at : Place) (o : Choice) → Stays kind (choice_typed u b at o) (choice_typed (with_limits u l) c at o)
  choice_typed_stays at (best_is w) = winner_typed_stays at w
  choice_typed_stays at none_viable = same_stays _
  choice_typed_stays at (ambiguous ds) = same_stays _

  -- ---- the table

  mutual
    pub expression_typed_stays : (env : Environment) (e : Expression) → Stays kind (type_expression u b env e) (type_expression (with_limits u l) c env e)
    expression_typed_stays env (literal m s n) = search (staying) depth 12
    expression_typed_stays env (local_name m k) = search (staying) depth 12
    expression_typed_stays env (position_name m i) = search (staying) depth 12
    expression_typed_stays env (field_name m k d) = search (staying, own_field_stays) depth 12
    expression_typed_stays env (constant_name m d) = search (staying, constant_typed_stays) depth 12
    expression_typed_stays env (functions_name m name visible) = search (staying) depth 12
    expression_typed_stays env (other_name m d) = search (staying) depth 12
    expression_typed_stays env (parentheses m e) = search (staying, expression_typed_stays env e) depth 12
    expression_typed_stays env (unary m w e) = search (staying, expression_typed_stays env e) depth 12
    expression_typed_stays env (binary m w a z) = search (staying, expression_typed_stays env a, expression_typed_stays env z) depth 12
    expression_typed_stays env (conditional m q a z) = search (staying, expression_typed_stays env q, expression_typed_stays env a, expression_typed_stays env z) depth 12
    expression_typed_stays env (dot m e name) = search (staying, expression_typed_stays env e, member_typed_stays) depth 12
    expression_typed_stays env (scope m t names name) = search (staying, type_stays kind u l larger b c below env t, scope_typed_stays) depth 12
    expression_typed_stays env (call m f xs) = search (staying, below.resolve, choice_typed_stays) depth 12
    expression_typed_stays env (list m t xs) = search (staying, type_stays kind u l larger b c below env t, expressions_typed_stay env xs, list_typed_stays) depth 12
    expression_typed_stays env (cast m t e) = search (staying, type_stays kind u l larger b c below env t, expression_typed_stays env e, cast_typed_stays) depth 12
    expression_typed_stays env (is_same m t v) = search (staying, type_stays kind u l larger b c below env t, type_stays kind u l larger b c below env v) depth 12
    expression_typed_stays env (out m e) = search (staying, expression_typed_stays env e) depth 12
    expression_typed_stays env (concept_id m d xs) = search (staying, arguments_stay kind u l larger b c below env) depth 12
    expression_typed_stays env (requires m ps rs) = search (staying) depth 12
    expression_typed_stays env (requires_with m xs) = search (staying) depth 12

    pub expressions_typed_stay : (env : Environment) (xs : Expressions) → Stays kind (type_expressions u b env xs) (type_expressions (with_limits u l) c env xs)
    expressions_typed_stay env no_expression = same_stays _
    expressions_typed_stay env (and_expression e rest) = search (staying, expression_typed_stays env e, expressions_typed_stay env rest) depth 12
