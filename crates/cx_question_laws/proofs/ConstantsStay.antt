-- Constants stay where the questions that they ask do.
use Rattle.std.proofs.Common.{Bool, true, false, List}
use Rattle.cx_base.specs.declared.limit.Limit.{Limit}
use Rattle.cx_base.specs.declared.numbers.DeclId.{DeclId}
use Rattle.cx_base.specs.declared.place.Place.{Place}
use Rattle.cx_machine.specs.Values.{Val, Number}
use Rattle.cx_machine.specs.Values.{Struct as fields}
use Rattle.cx_term.specs.Term.{Term}
use Rattle.cx_term.specs.declared.word.Word.{Word}
use Rattle.cx_term.specs.declared.word.Word.TheVariants as word
use Rattle.cx_questions.specs.Answers.{Answer}
use Rattle.cx_questions.specs.Constants.{Evaluated, with_value, changes, by_truth, as_truth, binary_evaluated, unary_evaluated, evaluated_in, used_at, initialiser_value, constant_value, scope_value, field_value, takes, takes_all, takes_in_callee, evaluated, evaluated_all, constant_of_expression}
use Rattle.cx_questions.specs.Environments.{Environment, Typed}
use Rattle.cx_questions.specs.Forms.{Name, Expression, Expressions, Callee, literal, local_name, position_name, field_name, constant_name, functions_name, other_name, parentheses, unary, binary, conditional, dot, scope, call, list, cast, is_same, out, concept_id, requires, requires_with, no_expression, and_expression, functions, functions_with, own_functions, object_functions, no_function}
use Rattle.cx_questions.specs.Program.{Program, Limits, with_limits}
use Rattle.cx_questions.specs.Questions.{Questions}
use Rattle.cx_question_laws.specs.Staying.{Stays, AllStay}
use Rattle.cx_question_laws.proofs.LimitTests.{Larger}
use Rattle.cx_question_laws.proofs.Combining.{staying, same_stays, then_stays, in_case_stays, either_stays}
use Rattle.cx_question_laws.proofs.SubstitutionStays.{type_stays}
use Rattle.cx_question_laws.proofs.TypingStays.{expression_typed_stays, qualifier_stays, qualified_type_stays}

pub with_value_stays : {kind : Limit → Bool} {a a' : Evaluated} {f f' : Val → Evaluated} → Stays kind a a' → ((v : Val) → Stays kind (f v) (f' v)) → Stays kind (with_value a f) (with_value a' f')
unfolding with_value
with_value_stays s k = then_stays s (λ v. in_case_stays v k (λ _. same_stays _))

pub by_truth_stays : {kind : Limit → Bool} {a a' : Evaluated} {f f' g g' : Unit {0} → Evaluated} → Stays kind a a' → ((x : Unit {0}) → Stays kind (f x) (f' x)) → ((x : Unit {0}) → Stays kind (g x) (g' x)) → Stays kind (by_truth a f g) (by_truth a' f' g')
by_truth_stays s k l = search (staying, with_value_stays, s, k, l) depth 12

pub as_truth_stays : {kind : Limit → Bool} {a a' : Evaluated} → Stays kind a a' → Stays kind (as_truth a) (as_truth a')
as_truth_stays s = search (staying, with_value_stays, s) depth 12

pub evaluated_in_stays : {kind : Limit → Bool} (t : Term) {a a' : Evaluated} → Stays kind a a' → Stays kind (evaluated_in t a) (evaluated_in t a')
evaluated_in_stays t s = search (staying, with_value_stays, s) depth 12

pub changes_stays : {kind : Limit → Bool} (at : Place) {a a' : Evaluated} → Stays kind a a' → Stays kind (changes at a) (changes at a')
changes_stays at s = search (staying, with_value_stays, s) depth 12

pub used_at_stays : {kind : Limit → Bool} (c : Bool) (at : Place) {a a' : Answer Val} → Stays kind a a' → Stays kind (used_at c at a) (used_at c at a')
used_at_stays true at s = search (staying, s) depth 12
used_at_stays false at s = s

pub unary_stays : {kind : Limit → Bool} (at : Place) (w : Word) {a a' : Evaluated} → Stays kind a a' → Stays kind (unary_evaluated at w a) (unary_evaluated at w a')
unary_stays at word.PreIncrement s = changes_stays at s
unary_stays at word.PreDecrement s = changes_stays at s
unary_stays at word.PostIncrement s = changes_stays at s
unary_stays at word.PostDecrement s = changes_stays at s
unary_stays at w s = with_value_stays s (λ v. same_stays _)

pub binary_stays : {kind : Limit → Bool} (at : Place) (w : Word) {a a' e e' : Unit {0} → Evaluated} → ((x : Unit {0}) → Stays kind (a x) (a' x)) → ((x : Unit {0}) → Stays kind (e x) (e' x)) → Stays kind (binary_evaluated at w a e) (binary_evaluated at w a' e')
binary_stays at word.LogicalAnd s k = by_truth_stays (s tt) (λ _. as_truth_stays (k tt)) (λ _. same_stays _)
binary_stays at word.LogicalOr s k = by_truth_stays (s tt) (λ _. same_stays _) (λ _. as_truth_stays (k tt))
binary_stays at w s k = either_stays _ (λ _. with_value_stays (k tt) (λ v. changes_stays at (s tt))) (λ _. with_value_stays (s tt) (λ v. with_value_stays (k tt) (λ x. same_stays _)))

module _ (kind : Limit → Bool) (u : Program) (l : Limits) (larger : Larger kind u.limits l) (b c : Questions) (below : AllStay kind b c) (holds holds' needs needs' : Environment → Expression → Answer Bool)
    (concepts_stay : (env : Environment) (e : Expression) → Stays kind (holds env e) (holds' env e)) (requirements_stay : (env : Environment) (e : Expression) → Stays kind (needs env e) (needs' env e)) where
  pub initialiser_stays : (env : Environment) (d : DeclId) → Stays kind (initialiser_value u b holds needs env d) (initialiser_value (with_limits u l) c holds' needs' env d)
  initialiser_stays env d = search (staying, below.constant, expression_typed_stays kind u l larger b c below, type_stays kind u l larger b c below) depth 12

  pub constant_value_stays : (ts : List Term) (at : Place) (d : DeclId) → Stays kind (constant_value u b holds needs ts at d) (constant_value (with_limits u l) c holds' needs' ts at d)
  constant_value_stays ts at d = search (used_at_stays, initialiser_stays) depth 12

  pub scope_value_stays : (at head : Place) (t : Term) (names : List Name) (name : Name) → Stays kind (scope_value u b holds needs at head t names name) (scope_value (with_limits u l) c holds' needs' at head t names name)
  scope_value_stays at head t names name = search (staying, qualified_type_stays kind u l larger b c below, qualifier_stays kind u l larger b c below, constant_value_stays) depth 12

  pub field_value_stays : (env : Environment) (at : Place) (x : Typed) (name : Name) (v : Val) → Stays kind (field_value u b holds needs env at x name v) (field_value (with_limits u l) c holds' needs' env at x name v)
  field_value_stays env at x name (Number s n) = same_stays _
  field_value_stays env at x name (fields vs) = search (staying, below.class) depth 12

  mutual
    pub takes_stays : (env : Environment) (e : Expression) → Stays kind (takes u b holds needs env e) (takes (with_limits u l) c holds' needs' env e)
    takes_stays env (literal m s n) = search (staying) depth 12
    takes_stays env (local_name m k) = search (staying) depth 12
    takes_stays env (position_name m i) = search (staying) depth 12
    takes_stays env (field_name m k d) = search (staying) depth 12
    takes_stays env (constant_name m d) = search (staying, constant_value_stays) depth 12
    takes_stays env (functions_name m name visible) = search (staying) depth 12
    takes_stays env (other_name m d) = search (staying) depth 12
    takes_stays env (parentheses m e) = search (staying, takes_stays env e) depth 12
    takes_stays env (unary m w e) = search (staying, takes_stays env e) depth 12
    takes_stays env (binary m w a z) = search (staying, takes_stays env a, takes_stays env z) depth 12
    takes_stays env (conditional m q a z) = search (staying, takes_stays env q, takes_stays env a, takes_stays env z) depth 12
    takes_stays env (dot m e name) = search (staying, takes_stays env e) depth 12
    takes_stays env (scope m t names name) = search (staying, type_stays kind u l larger b c below, scope_value_stays) depth 12
    takes_stays env (call m f xs) = search (staying, takes_callee_stays env f, takes_all_stays env xs) depth 12
    takes_stays env (list m t xs) = search (staying, takes_all_stays env xs) depth 12
    takes_stays env (cast m t e) = search (staying, takes_stays env e) depth 12
    takes_stays env (is_same m t v) = search (staying) depth 12
    takes_stays env (out m e) = search (staying, takes_stays env e) depth 12
    takes_stays env (concept_id m d xs) = search (staying, concepts_stay) depth 12
    takes_stays env (requires m ps rs) = search (staying, requirements_stay) depth 12
    takes_stays env (requires_with m xs) = search (staying, requirements_stay) depth 12

    pub takes_all_stays : (env : Environment) (xs : Expressions) → Stays kind (takes_all u b holds needs env xs) (takes_all (with_limits u l) c holds' needs' env xs)
    takes_all_stays env no_expression = same_stays _
    takes_all_stays env (and_expression e rest) = search (staying, takes_stays env e, takes_all_stays env rest) depth 12

    pub takes_callee_stays : (env : Environment) (f : Callee) → Stays kind (takes_in_callee u b holds needs env f) (takes_in_callee (with_limits u l) c holds' needs' env f)
    takes_callee_stays env (functions m name visible) = search (staying) depth 12
    takes_callee_stays env (functions_with m name visible xs) = search (staying) depth 12
    takes_callee_stays env (own_functions m name) = search (staying) depth 12
    takes_callee_stays env (object_functions m e name) = search (staying, takes_stays env e) depth 12
    takes_callee_stays env (no_function e) = search (staying) depth 12

  mutual
    pub evaluated_stays : (env : Environment) (e : Expression) → Stays kind (evaluated u b holds needs env e) (evaluated (with_limits u l) c holds' needs' env e)
    evaluated_stays env (literal m s n) = search (staying) depth 12
    evaluated_stays env (local_name m k) = search (staying) depth 12
    evaluated_stays env (position_name m i) = search (staying) depth 12
    evaluated_stays env (field_name m k d) = search (staying) depth 12
    evaluated_stays env (constant_name m d) = search (staying, constant_value_stays) depth 12
    evaluated_stays env (functions_name m name visible) = search (staying) depth 12
    evaluated_stays env (other_name m d) = search (staying) depth 12
    evaluated_stays env (parentheses m e) = search (staying, evaluated_stays env e) depth 12
    evaluated_stays env (unary m w e) = search (staying, evaluated_stays env e, unary_stays) depth 12
    evaluated_stays env (binary m w a z) = search (staying, evaluated_stays env a, evaluated_stays env z, binary_stays) depth 12
    evaluated_stays env (conditional m q a z) = search (staying, evaluated_stays env q, evaluated_stays env a, evaluated_stays env z, expression_typed_stays kind u l larger b c below, evaluated_in_stays, by_truth_stays) depth 12
    evaluated_stays env (dot m e name) = search (staying, evaluated_stays env e, with_value_stays, expression_typed_stays kind u l larger b c below, field_value_stays) depth 12
    evaluated_stays env (scope m t names name) = search (staying, type_stays kind u l larger b c below, scope_value_stays) depth 12
    evaluated_stays env (call m f xs) = search (staying) depth 12
    evaluated_stays env (list m t xs) = search (staying, evaluated_all_stay env xs, type_stays kind u l larger b c below) depth 12
    evaluated_stays env (cast m t e) = search (staying, evaluated_stays env e, type_stays kind u l larger b c below, evaluated_in_stays) depth 12
    evaluated_stays env (is_same m t v) = search (staying, type_stays kind u l larger b c below) depth 12
    evaluated_stays env (out m e) = search (staying) depth 12
    evaluated_stays env (concept_id m d xs) = search (staying, concepts_stay) depth 12
    evaluated_stays env (requires m ps rs) = search (staying, requirements_stay) depth 12
    evaluated_stays env (requires_with m xs) = search (staying, requirements_stay) depth 12

    pub evaluated_all_stay : (env : Environment) (xs : Expressions) → Stays kind (evaluated_all u b holds needs env xs) (evaluated_all (with_limits u l) c holds' needs' env xs)
    evaluated_all_stay env no_expression = same_stays _
    evaluated_all_stay env (and_expression e rest) = search (staying, evaluated_stays env e, evaluated_all_stay env rest) depth 12

  pub constant_stays : (env : Environment) (e : Expression) → Stays kind (constant_of_expression u b holds needs env e) (constant_of_expression (with_limits u l) c holds' needs' env e)
  constant_stays env e = search (staying, expression_typed_stays kind u l larger b c below, takes_stays, evaluated_stays) depth 12
