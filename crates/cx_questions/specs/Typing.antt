-- Type and category of an expression ([expr]): a row for each form, its operands first, from left to right.
use Rattle.std.specs.Prelude.{List, [], ◌∷◌, map}
use Rattle.cx_base.specs.declared.kind.Kind.TheVariants as kind
use Rattle.cx_base.specs.declared.place.Place.{Place}
use Rattle.cx_base.specs.declared.value.Scalar.TheVariants as scalars
use Rattle.cx_term.specs.Term.{Term, void}
use Rattle.cx_term.specs.declared.typed.Cat.TheVariants as cat
use Rattle.cx_questions.specs.Answers.{Answer, given, invalid, soft, hard, fault_about, ◌>>=◌, ◌>>◌, either, in_turn}
use Rattle.cx_questions.specs.Forms.{Expression, Expressions, expressions, type_place, class_place, literal, local_name, position_name, field_name, constant_name, functions_name, other_name, parentheses, unary, binary, conditional, dot, scope, call, list, cast, is_same, out, concept_id, requires, requires_with, no_expression, and_expression}
use Rattle.cx_questions.specs.Program.{Program, concept_of, kinds, place_of_declaration}
use Rattle.cx_questions.specs.Environments.{Environment, Typed, Choice, Winner, best_is, none_viable, ambiguous}
use Rattle.cx_questions.specs.Questions.{Questions}
use Rattle.cx_questions.specs.TermTests.{is_class, is_ref, without_const, without_ref, argument_of}
use Rattle.cx_questions.specs.Substitution.{substitute_type, substitute_arguments}
use Rattle.cx_questions.specs.Operators.{typed, lvalue, value_of, prvalue, scalar_operand, unary_row, binary_row, conditional_row}
use Rattle.cx_questions.specs.Members.{variable_typed, value_typed, own_field_typed, constant_typed, member_typed, scope_typed}
use Rattle.cx_questions.specs.Lists.{list_typed, cast_typed}

-- what decltype would not take for the name alone
abbrev pub undeclared : Typed → Typed
undeclared e = typed e.category e.of

-- the arguments of the struct or template that a name is read in
abbrev pub own_arguments : Environment → List Term
own_arguments env = env.arguments

module _ (u : Program) (b : Questions) where
  -- ---- a call ([expr.call])

  -- a struct by value is needed complete
  abbrev pub complete : Place → Term → Answer (Unit {0})
  complete at t = either (is_class t) (λ _. b.class at (without_const t) >>= λ c. given tt) (λ _. given tt)

  abbrev pub all_complete : Place → List Term → Answer (Unit {0})
  all_complete at ts = in_turn (λ done t. complete at t) tt ts

  -- the result: an lvalue for a reference, else a prvalue
  abbrev pub result_typed : Place → Term → Answer Typed
  result_typed at t = either (is_ref t) (λ _. given (lvalue (without_ref t))) (λ _. prvalue at t)

  abbrev pub winner_typed : Place → Winner → Answer Typed
  winner_typed at w = do
    all_complete at w.parameters
    complete at w.result
    result_typed at w.result

  abbrev pub choice_typed : Place → Choice → Answer Typed
  choice_typed at (best_is w) = winner_typed at w
  choice_typed at none_viable = soft kind.NoViable at
  choice_typed at (ambiguous ds) = invalid (fault_about kind.Ambiguous at (map (place_of_declaration u) ds))

  module _ (env : Environment) where
    abbrev mutual
      pub type_expression : Expression → Answer Typed
      type_expression (literal m s n) = given (value_of s)
      type_expression (local_name m k) = variable_typed u b env m.at k
      type_expression (position_name m i) = value_typed u b m.at (argument_of env.arguments i)
      type_expression (field_name m k d) = own_field_typed u b env m.at d
      type_expression (constant_name m d) = constant_typed u b (own_arguments env) m.at d
      type_expression (functions_name m name visible) = hard kind.Unsupported m.at
      type_expression (other_name m d) = soft kind.InvalidExpr m.at
      type_expression (parentheses m e) = type_expression e >>= λ x. given (undeclared x)
      type_expression (unary m w e) = type_expression e >>= unary_row m.at w
      type_expression (binary m w e f) = do
        x ← type_expression e
        y ← type_expression f
        binary_row m.at w x y
      type_expression (conditional m c e f) = do
        z ← type_expression c
        x ← type_expression e
        y ← type_expression f
        conditional_row m.at z x y
      type_expression (dot m e name) = type_expression e >>= λ x. member_typed u b m.at x name
      type_expression (scope m t names name) = substitute_type u b env t >>= λ s. scope_typed u b m.at (type_place t) s names name
      type_expression (call m f xs) = b.resolve (call m f xs) env >>= choice_typed m.at
      type_expression (list m t es) = do
        s ← substitute_type u b env t
        xs ← type_expressions es
        list_typed b env m.at s (expressions es) xs
      type_expression (cast m t e) = do
        s ← substitute_type u b env t
        x ← type_expression e
        cast_typed b m.at (class_place t) s x
      type_expression (is_same m t v) = substitute_type u b env t >> substitute_type u b env v >> given (value_of scalars.Bool)
      type_expression (out m e) = do
        x ← type_expression e
        scalar_operand m.at x
        given (typed cat.Prvalue void)
      type_expression (concept_id m d xs) = substitute_arguments u b env (kinds (concept_of u d).template_parameters) xs >>= λ ts. given (value_of scalars.Bool)
      type_expression (requires m ps rs) = given (value_of scalars.Bool)
      type_expression (requires_with m xs) = given (value_of scalars.Bool)

      pub type_expressions : Expressions → Answer (List Typed)
      type_expressions no_expression = given []
      type_expressions (and_expression e rest) = do
        x ← type_expression e
        xs ← type_expressions rest
        given (x ∷ xs)
