-- Substitution stays where the questions that it asks do.
use Rattle.std.proofs.Common.{Bool, List}
use Rattle.std.specs.Prelude.{Some, None}
use Rattle.cx_base.specs.declared.limit.Limit.{Limit}
use Rattle.cx_base.specs.declared.numbers.DeclId.{DeclId}
use Rattle.cx_base.specs.declared.place.Place.{Place}
use Rattle.cx_base.specs.declared.value.Scalar.{Scalar}
use Rattle.cx_term.specs.Term.{Term}
use Rattle.cx_questions.specs.Answers.{Answer}
use Rattle.cx_questions.specs.Environments.{Environment}
use Rattle.cx_questions.specs.Forms.{Name, Mark, Expression, Expressions, Callee, TypeForm, ArgumentForm, ArgumentForms, of_type, of_value, literal, local_name, position_name, field_name, constant_name, functions_name, other_name, parentheses, unary, binary, conditional, dot, scope, call, list, cast, is_same, out, concept_id, requires, requires_with, no_expression, and_expression, functions, functions_with, own_functions, object_functions, no_function, position_type, scalar_type, void_type, struct_type, template_id, const_type, reference_type, member_type, decltype_type, no_type, no_argument, and_type, and_value}
use Rattle.cx_questions.specs.Program.{Program, Limits, with_limits, Parametric}
use Rattle.cx_questions.specs.Questions.{Questions}
use Rattle.cx_questions.specs.Substitution.{satisfies, instance_allowed, member_in, members_in, settled_value, value_argument, substitute_type, substitute_arguments, substitute_expression, substitute_expressions, substitute_callee, substitute_argument}
use Rattle.cx_question_laws.specs.Staying.{Stays, AllStay}
use Rattle.cx_question_laws.proofs.LimitTests.{Larger, made_stays}
use Rattle.cx_question_laws.proofs.Combining.{staying}

module _ (kind : Limit → Bool) (u : Program) (l : Limits) (larger : Larger kind u.limits l) (b c : Questions) (below : AllStay kind b c) where
  pub satisfies_stays : (d : DeclId) (es : List Expression) (at : Place) (env : Environment) → Stays kind (satisfies u b d es at env) (satisfies (with_limits u l) c d es at env)
  satisfies_stays d es at env = search (staying, made_stays kind u l larger, below.normal, below.satisfied) depth 12

  pub instance_allowed_stays : (m : Mark) (at : Place) (d : DeclId) (ts : List Term) → Stays kind (instance_allowed u b m at d ts) (instance_allowed (with_limits u l) c m at d ts)
  instance_allowed_stays m at d ts = search (staying, made_stays kind u l larger, satisfies_stays) depth 12

  pub member_in_stays : (m : Mark) (at : Place) (t : Term) (name : Name) → Stays kind (member_in u b m at t name) (member_in (with_limits u l) c m at t name)
  member_in_stays m at t name = search (staying, made_stays kind u l larger, below.class) depth 12

  pub members_in_stays : (m : Mark) (at : Place) (t : Term) (names : List Name) → Stays kind (members_in u b m at t names) (members_in (with_limits u l) c m at t names)
  members_in_stays m at t names = search (staying, made_stays kind u l larger, member_in_stays) depth 12

  pub settled_value_stays : (env : Environment) (s : Scalar) (e : Expression) → Stays kind (settled_value u b env s e) (settled_value (with_limits u l) c env s e)
  settled_value_stays env s e = search (staying, made_stays kind u l larger, below.constant) depth 12

  pub value_argument_stays : (env : Environment) (k : Parametric) (e : Expression) (f g : Unit {0} → Answer Term) → ((x : Unit {0}) → Stays kind (f x) (g x)) → Stays kind (value_argument u b env k e f) (value_argument (with_limits u l) c env k e g)
  value_argument_stays env None e f g h = h tt
  value_argument_stays env (Some s) e f g h = search (staying, made_stays kind u l larger, settled_value_stays, h) depth 12

  mutual
    pub type_stays : (env : Environment) (t : TypeForm) → Stays kind (substitute_type u b env t) (substitute_type (with_limits u l) c env t)
    type_stays env (position_type m i) = search (staying, made_stays kind u l larger) depth 12
    type_stays env (scalar_type m s) = search (staying, made_stays kind u l larger) depth 12
    type_stays env (void_type m) = search (staying, made_stays kind u l larger) depth 12
    type_stays env (struct_type m d) = search (staying, made_stays kind u l larger) depth 12
    type_stays env (template_id m at' d xs) = search (staying, made_stays kind u l larger, (λ (ks : List Parametric). arguments_stay env ks xs), instance_allowed_stays) depth 12
    type_stays env (const_type m t) = search (staying, made_stays kind u l larger, type_stays env t) depth 12
    type_stays env (reference_type m t) = search (staying, made_stays kind u l larger, type_stays env t) depth 12
    type_stays env (member_type m t names) = search (staying, made_stays kind u l larger, type_stays env t, members_in_stays) depth 12
    type_stays env (decltype_type m e) = search (staying, made_stays kind u l larger, (λ (at : Place). expression_stays env at e), below.type_of) depth 12
    type_stays env (no_type m) = search (staying, made_stays kind u l larger) depth 12

    pub arguments_stay : (env : Environment) (ks : List Parametric) (xs : ArgumentForms) → Stays kind (substitute_arguments u b env ks xs) (substitute_arguments (with_limits u l) c env ks xs)
    arguments_stay env ks no_argument = search (staying, made_stays kind u l larger) depth 12
    arguments_stay env ks (and_type t rest) = search (staying, made_stays kind u l larger, type_stays env t, (λ (ks : List Parametric). arguments_stay env ks rest)) depth 12
    arguments_stay env ks (and_value e rest) = search (staying, made_stays kind u l larger, (λ (at : Place). expression_stays env at e), (λ (ks : List Parametric). arguments_stay env ks rest), value_argument_stays) depth 12

    pub expression_stays : (env : Environment) (at : Place) (e : Expression) → Stays kind (substitute_expression u b env at e) (substitute_expression (with_limits u l) c env at e)
    expression_stays env at (literal m s n) = search (staying, made_stays kind u l larger) depth 12
    expression_stays env at (local_name m k) = search (staying, made_stays kind u l larger) depth 12
    expression_stays env at (position_name m i) = search (staying, made_stays kind u l larger) depth 12
    expression_stays env at (field_name m k d) = search (staying, made_stays kind u l larger) depth 12
    expression_stays env at (constant_name m d) = search (staying, made_stays kind u l larger) depth 12
    expression_stays env at (functions_name m name visible) = search (staying, made_stays kind u l larger) depth 12
    expression_stays env at (other_name m d) = search (staying, made_stays kind u l larger) depth 12
    expression_stays env at (parentheses m e) = search (staying, made_stays kind u l larger, expression_stays env at e) depth 12
    expression_stays env at (unary m w e) = search (staying, made_stays kind u l larger, expression_stays env at e) depth 12
    expression_stays env at (binary m w a z) = search (staying, made_stays kind u l larger, expression_stays env at a, expression_stays env at z) depth 12
    expression_stays env at (conditional m q a z) = search (staying, made_stays kind u l larger, expression_stays env at q, expression_stays env at a, expression_stays env at z) depth 12
    expression_stays env at (dot m e name) = search (staying, made_stays kind u l larger, expression_stays env at e) depth 12
    expression_stays env at (scope m t names name) = search (staying, made_stays kind u l larger, type_stays env t, members_in_stays) depth 12
    expression_stays env at (call m f xs) = search (staying, made_stays kind u l larger, callee_stays env at f, expressions_stay env at xs) depth 12
    expression_stays env at (list m t xs) = search (staying, made_stays kind u l larger, type_stays env t, expressions_stay env at xs) depth 12
    expression_stays env at (cast m t e) = search (staying, made_stays kind u l larger, type_stays env t, expression_stays env at e) depth 12
    expression_stays env at (is_same m t v) = search (staying, made_stays kind u l larger, type_stays env t, type_stays env v) depth 12
    expression_stays env at (out m e) = search (staying, made_stays kind u l larger, expression_stays env at e) depth 12
    expression_stays env at (concept_id m d xs) = search (staying, made_stays kind u l larger, (λ (ks : List Parametric). arguments_stay env ks xs)) depth 12
    expression_stays env at (requires m ps rs) = search (staying, made_stays kind u l larger) depth 12
    expression_stays env at (requires_with m xs) = search (staying, made_stays kind u l larger, (λ (ks : List Parametric). arguments_stay env ks xs)) depth 12

    pub expressions_stay : (env : Environment) (at : Place) (xs : Expressions) → Stays kind (substitute_expressions u b env at xs) (substitute_expressions (with_limits u l) c env at xs)
    expressions_stay env at no_expression = search (staying, made_stays kind u l larger) depth 12
    expressions_stay env at (and_expression e rest) = search (staying, made_stays kind u l larger, expression_stays env at e, expressions_stay env at rest) depth 12

    pub callee_stays : (env : Environment) (at : Place) (f : Callee) → Stays kind (substitute_callee u b env at f) (substitute_callee (with_limits u l) c env at f)
    callee_stays env at (functions m name visible) = search (staying, made_stays kind u l larger) depth 12
    callee_stays env at (functions_with m name visible xs) = search (staying, made_stays kind u l larger, (λ (ks : List Parametric). arguments_stay env ks xs)) depth 12
    callee_stays env at (own_functions m name) = search (staying, made_stays kind u l larger) depth 12
    callee_stays env at (object_functions m e name) = search (staying, made_stays kind u l larger, expression_stays env at e) depth 12
    callee_stays env at (no_function e) = search (staying, made_stays kind u l larger, expression_stays env at e) depth 12

  pub argument_stays : (env : Environment) (k : Parametric) (a : ArgumentForm) → Stays kind (substitute_argument u b env k a) (substitute_argument (with_limits u l) c env k a)
  argument_stays env k (of_type t) = type_stays env t
  argument_stays env k (of_value e) = search (staying, made_stays kind u l larger, value_argument_stays, expression_stays) depth 12
