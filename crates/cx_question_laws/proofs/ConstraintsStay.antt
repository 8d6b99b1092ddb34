-- Normal forms, satisfaction and requires-expressions stay where the questions that they ask do.
use Rattle.std.proofs.Common.{Bool, List, [], ◌∷◌}
use Rattle.std.specs.Prelude.{ℕ, zero, suc}
use Rattle.cx_base.specs.declared.limit.Limit.{Limit}
use Rattle.cx_base.specs.declared.numbers.DeclId.{DeclId}
use Rattle.cx_base.specs.declared.place.Place.{Place}
use Rattle.cx_prop.specs.Formula.{Atomic, Atom, And, Or}
use Rattle.cx_term.specs.Term.{Term}
use Rattle.cx_questions.specs.Answers.{Answer}
use Rattle.cx_questions.specs.Environments.{Environment, Form}
use Rattle.cx_questions.specs.Forms.{Mark, Expression, ArgumentForms, TypeForm, RequiresParameters, no_parameter, and_parameter, Requirements, no_requirement, and_simple, and_type_requirement, and_compound, and_constrained, and_nested, literal, local_name, position_name, field_name, constant_name, functions_name, other_name, parentheses, unary, binary, conditional, dot, scope, call, list, cast, is_same, out, concept_id, requires, requires_with}
use Rattle.cx_questions.specs.NormalForms.{mapping_in, with_arguments, of_concept_id, form_of, form_within, form_of_concept, form_of_expression, form_of_all, form_of_declaration, normal}
use Rattle.cx_questions.specs.Parameters.{parameter_type}
use Rattle.cx_questions.specs.Program.{Program, Limits, with_limits, Parametric, Declaration, a_function, a_struct, a_concept, a_constant, a_field, concept_of}
use Rattle.cx_questions.specs.Questions.{Questions, Rule, of_declaration, of_expression}
use Rattle.cx_questions.specs.Requirements.{with_each, fulfilled, in_template, written_value, requires_value}
use Rattle.cx_questions.specs.Satisfaction.{environment_of, truth_of, atom_satisfied, satisfied, rule_satisfied, meets}
use Rattle.cx_question_laws.specs.Staying.{Stays, AllStay}
use Rattle.cx_question_laws.proofs.LimitTests.{Larger, joined_stays}
use Rattle.cx_question_laws.proofs.Combining.{staying, same_stays}
use Rattle.cx_question_laws.proofs.SubstitutionStays.{type_stays, arguments_stay, argument_stays}
use Rattle.cx_question_laws.proofs.TypingStays.{expression_typed_stays}

module _ (kind : Limit → Bool) (u : Program) (l : Limits) (larger : Larger kind u.limits l) (b c : Questions) (below : AllStay kind b c) where
  -- ---- normal forms

  pub mapping_stays : (ks : List Parametric) (env : Environment) (a : Atomic Term) → Stays kind (mapping_in u b ks env a) (mapping_in (with_limits u l) c ks env a)
  mapping_stays ks env a = search (staying, argument_stays kind u l larger b c below) depth 12

  pub with_arguments_stays : (ks : List Parametric) (id : Place) (ts : List Term) (p : Form) → Stays kind (with_arguments u b ks id ts p) (with_arguments (with_limits u l) c ks id ts p)
  with_arguments_stays ks id ts (Atom a) = search (staying, mapping_stays) depth 12
  with_arguments_stays ks id ts (And p q) = search (staying, with_arguments_stays ks id ts p, with_arguments_stays ks id ts q) depth 12
  with_arguments_stays ks id ts (Or p q) = search (staying, with_arguments_stays ks id ts p, with_arguments_stays ks id ts q) depth 12

  pub of_concept_id_stays : (m : Mark) (d : DeclId) (xs : ArgumentForms) (p : Form) → Stays kind (of_concept_id u b m d xs p) (of_concept_id (with_limits u l) c m d xs p)
  of_concept_id_stays m d xs p = search (staying, arguments_stay kind u l larger b c below, with_arguments_stays) depth 12

  module _ (at : Place) where
    pub form_stays : (x y : DeclId → Answer Form) → ((d : DeclId) → Stays kind (x d) (y d)) → (e : Expression) → Stays kind (form_of u b at x e) (form_of (with_limits u l) c at y e)
    form_stays x y h (literal m s n) = same_stays _
    form_stays x y h (local_name m k) = same_stays _
    form_stays x y h (position_name m i) = same_stays _
    form_stays x y h (field_name m k d) = same_stays _
    form_stays x y h (constant_name m d) = same_stays _
    form_stays x y h (functions_name m name visible) = same_stays _
    form_stays x y h (other_name m d) = same_stays _
    form_stays x y h (parentheses m e) = form_stays x y h e
    form_stays x y h (unary m w e) = same_stays _
    form_stays x y h (binary m w a z) = search (staying, joined_stays kind u l larger, form_stays x y h a, form_stays x y h z) depth 12
    form_stays x y h (conditional m q a z) = same_stays _
    form_stays x y h (dot m e name) = same_stays _
    form_stays x y h (scope m t names name) = same_stays _
    form_stays x y h (call m f xs) = same_stays _
    form_stays x y h (list m t xs) = same_stays _
    form_stays x y h (cast m t e) = same_stays _
    form_stays x y h (is_same m t v) = same_stays _
    form_stays x y h (out m e) = same_stays _
    form_stays x y h (concept_id m d xs) = search (staying, h, of_concept_id_stays) depth 12
    form_stays x y h (requires m ps rs) = same_stays _
    form_stays x y h (requires_with m xs) = same_stays _

    pub form_within_stays : (n : ℕ) (d : DeclId) → Stays kind (form_within u b at n d) (form_within (with_limits u l) c at n d)
    form_within_stays zero d = same_stays _
    form_within_stays (suc n) d = form_stays (form_within u b at n) (form_within (with_limits u l) c at n) (λ x. form_within_stays n x) (concept_of u d).condition

    pub form_of_expression_stays : (e : Expression) → Stays kind (form_of_expression u b at e) (form_of_expression (with_limits u l) c at e)
    form_of_expression_stays e = form_stays (form_of_concept u b at) (form_of_concept (with_limits u l) c at) (λ d. form_within_stays (suc d.0) d) e

    pub form_of_all_stays : (es : List Expression) → Stays kind (form_of_all u b at es) (form_of_all (with_limits u l) c at es)
    form_of_all_stays [] = same_stays _
    form_of_all_stays (e ∷ es) = search (staying, joined_stays kind u l larger, form_of_expression_stays) depth 12

  pub form_of_declaration_stays : (d : DeclId) (x : Declaration) → Stays kind (form_of_declaration u b d x) (form_of_declaration (with_limits u l) c d x)
  form_of_declaration_stays d (a_concept x) = search (staying, form_within_stays) depth 12
  form_of_declaration_stays d (a_function x) = form_of_all_stays x.at x.constraints
  form_of_declaration_stays d (a_struct x) = form_of_all_stays x.at x.constraints
  form_of_declaration_stays d (a_constant x) = same_stays _
  form_of_declaration_stays d (a_field k t) = same_stays _

  pub normal_stays : (rule : Rule) → Stays kind (normal u b rule) (normal (with_limits u l) c rule)
  normal_stays (of_declaration d) = form_of_declaration_stays d (u.declaration d)
  normal_stays (of_expression e) = search (staying, form_of_expression_stays) depth 12

  -- ---- satisfaction

  pub environment_stays : (env : Environment) (a : Atomic Term) → Stays kind (environment_of u b env a) (environment_of (with_limits u l) c env a)
  environment_stays env a = search (staying, mapping_stays) depth 12

  pub truth_stays : (env : Environment) (e : Expression) (t : Term) → Stays kind (truth_of b env e t) (truth_of c env e t)
  truth_stays env e t = search (staying, below.constant) depth 12

  pub atom_satisfied_stays : (env : Environment) (a : Atomic Term) → Stays kind (atom_satisfied u b env a) (atom_satisfied (with_limits u l) c env a)
  atom_satisfied_stays env a = search (staying, environment_stays, expression_typed_stays kind u l larger b c below, truth_stays) depth 12

  pub satisfied_stays : (env : Environment) (p : Form) → Stays kind (satisfied u b env p) (satisfied (with_limits u l) c env p)
  satisfied_stays env (Atom a) = atom_satisfied_stays env a
  satisfied_stays env (And p q) = search (staying, satisfied_stays env p, satisfied_stays env q) depth 12
  satisfied_stays env (Or p q) = search (staying, satisfied_stays env p, satisfied_stays env q) depth 12

  pub rule_satisfied_stays : (at : Place) (rule : Rule) (env : Environment) → Stays kind (rule_satisfied b at rule env) (rule_satisfied c at rule env)
  rule_satisfied_stays at rule env = search (staying, below.normal, below.satisfied) depth 12

  pub meets_stays : (env : Environment) (m : Mark) (d : DeclId) (of : Term) (rest : ArgumentForms) → Stays kind (meets u b env m d of rest) (meets (with_limits u l) c env m d of rest)
  meets_stays env m d of rest = search (staying, arguments_stay kind u l larger b c below, rule_satisfied_stays) depth 12

  -- ---- requires-expressions

  pub parameter_type_stays : (env : Environment) (alone : Bool) (t : TypeForm) → Stays kind (parameter_type u b env alone t) (parameter_type (with_limits u l) c env alone t)
  parameter_type_stays env alone t = search (staying, type_stays kind u l larger b c below) depth 12

  pub with_each_stays : (alone : Bool) (env : Environment) (ps : RequiresParameters) → Stays kind (with_each u b alone env ps) (with_each (with_limits u l) c alone env ps)
  with_each_stays alone env no_parameter = same_stays _
  with_each_stays alone env (and_parameter m t k is_named rest) = search (staying, parameter_type_stays, λ (x : Environment). with_each_stays alone x rest) depth 12

  pub fulfilled_stays : (env : Environment) (rs : Requirements) → Stays kind (fulfilled u b env rs) (fulfilled (with_limits u l) c env rs)
  fulfilled_stays env no_requirement = same_stays _
  fulfilled_stays env (and_simple e rest) = search (staying, below.type_of, fulfilled_stays env rest) depth 12
  fulfilled_stays env (and_compound e rest) = search (staying, below.type_of, fulfilled_stays env rest) depth 12
  fulfilled_stays env (and_type_requirement t rest) = search (staying, type_stays kind u l larger b c below, fulfilled_stays env rest) depth 12
  fulfilled_stays env (and_constrained e m d xs rest) = search (staying, below.type_of, meets_stays, fulfilled_stays env rest) depth 12
  fulfilled_stays env (and_nested e rest) = search (staying, rule_satisfied_stays, fulfilled_stays env rest) depth 12

  pub in_template_stays : (t : Bool) {a a' : Answer Bool} → Stays kind a a' → Stays kind (in_template t a) (in_template t a')
  in_template_stays t s = search (staying, s) depth 12

  pub written_value_stays : (env : Environment) (e : Expression) → Stays kind (written_value u b env e) (written_value (with_limits u l) c env e)
  written_value_stays env (literal m s n) = same_stays _
  written_value_stays env (local_name m k) = same_stays _
  written_value_stays env (position_name m i) = same_stays _
  written_value_stays env (field_name m k d) = same_stays _
  written_value_stays env (constant_name m d) = same_stays _
  written_value_stays env (functions_name m name visible) = same_stays _
  written_value_stays env (other_name m d) = same_stays _
  written_value_stays env (parentheses m e) = same_stays _
  written_value_stays env (unary m w e) = same_stays _
  written_value_stays env (binary m w a z) = same_stays _
  written_value_stays env (conditional m q a z) = same_stays _
  written_value_stays env (dot m e name) = same_stays _
  written_value_stays env (scope m t names name) = same_stays _
  written_value_stays env (call m f xs) = same_stays _
  written_value_stays env (list m t xs) = same_stays _
  written_value_stays env (cast m t e) = same_stays _
  written_value_stays env (is_same m t v) = same_stays _
  written_value_stays env (out m e) = same_stays _
  written_value_stays env (concept_id m d xs) = same_stays _
  written_value_stays env (requires m ps rs) = search (staying, in_template_stays, with_each_stays, fulfilled_stays) depth 12
  written_value_stays env (requires_with m xs) = same_stays _

  pub requires_value_stays : (env : Environment) (e : Expression) → Stays kind (requires_value u b env e) (requires_value (with_limits u l) c env e)
  requires_value_stays env (literal m s n) = written_value_stays env (literal m s n)
  requires_value_stays env (local_name m k) = written_value_stays env (local_name m k)
  requires_value_stays env (position_name m i) = written_value_stays env (position_name m i)
  requires_value_stays env (field_name m k d) = written_value_stays env (field_name m k d)
  requires_value_stays env (constant_name m d) = written_value_stays env (constant_name m d)
  requires_value_stays env (functions_name m name visible) = written_value_stays env (functions_name m name visible)
  requires_value_stays env (other_name m d) = written_value_stays env (other_name m d)
  requires_value_stays env (parentheses m e) = written_value_stays env (parentheses m e)
  requires_value_stays env (unary m w e) = written_value_stays env (unary m w e)
  requires_value_stays env (binary m w a z) = written_value_stays env (binary m w a z)
  requires_value_stays env (conditional m q a z) = written_value_stays env (conditional m q a z)
  requires_value_stays env (dot m e name) = written_value_stays env (dot m e name)
  requires_value_stays env (scope m t names name) = written_value_stays env (scope m t names name)
  requires_value_stays env (call m f xs) = written_value_stays env (call m f xs)
  requires_value_stays env (list m t xs) = written_value_stays env (list m t xs)
  requires_value_stays env (cast m t e) = written_value_stays env (cast m t e)
  requires_value_stays env (is_same m t v) = written_value_stays env (is_same m t v)
  requires_value_stays env (out m e) = written_value_stays env (out m e)
  requires_value_stays env (concept_id m d xs) = written_value_stays env (concept_id m d xs)
  requires_value_stays env (requires m ps rs) = written_value_stays env (requires m ps rs)
  requires_value_stays env (requires_with m xs) = search (staying, arguments_stay kind u l larger b c below, written_value_stays) depth 12
