-- Bodies, reach and the stages stay where the questions that they ask do.
use Rattle.std.proofs.Common.{ℕ, Bool, true, false, List}
use Rattle.std.specs.Prelude.{Option, Some, None}
use Rattle.cx_base.specs.declared.limit.Limit.{Limit}
use Rattle.cx_base.specs.declared.place.Place.{Place}
use Rattle.cx_term.specs.Term.{Term}
use Rattle.cx_questions.specs.Answers.{Answer}
use Rattle.cx_questions.specs.Bodies.{Need, Around, in_a_loop, judged_expression, joined_needs, calls_in, calls_in_all, calls_in_callee, condition, constant_condition, asserted, completed, constant_initialiser, initialised, typed_variable, constrained, type_of_auto, auto_variable, declared_variable, returned, if_there, branches, judged, judged_all}
use Rattle.cx_questions.specs.Environments.{Environment, Typed}
use Rattle.cx_questions.specs.Forms.{Mark, Expression, Expressions, Callee, TypeForm, Constraint, Declared, as_type, as_auto, Initialiser, equals, braces, Statement, Statements, empty_statement, block, assertion, break_statement, continue_statement, return_statement, if_statement, while_statement, for_statement, variable, expression_statement, no_statement, and_statement, literal, local_name, position_name, field_name, constant_name, functions_name, other_name, parentheses, unary, binary, conditional, dot, scope, call, list, cast, is_same, out, concept_id, requires, requires_with, no_expression, and_expression, object_functions}
use Rattle.cx_questions.specs.Program.{Program, Limits, with_limits}
use Rattle.cx_questions.specs.Questions.{Questions}
use Rattle.cx_questions.specs.Requirements.{requires_value}
use Rattle.cx_questions.specs.Satisfaction.{concept_value}
use Rattle.cx_question_laws.specs.Staying.{Stays, AllStay}
use Rattle.cx_question_laws.proofs.Combining.{staying, same_stays, in_case_stays}
use Rattle.cx_question_laws.proofs.ConstantsStay.{takes_stays}
use Rattle.cx_question_laws.proofs.ConstraintsStay.{meets_stays, requires_value_stays}
use Rattle.cx_question_laws.proofs.HeightsLemmas.{concept_value_stays}
use Rattle.cx_question_laws.proofs.LimitTests.{Larger}
use Rattle.cx_question_laws.proofs.SubstitutionStays.{type_stays}
use Rattle.cx_question_laws.proofs.TypingStays.{expression_typed_stays}

module _ (kind : Limit → Bool) (u : Program) (l : Limits) (larger : Larger kind u.limits l) (b c : Questions) (below : AllStay kind b c) where
  -- ---- expressions

  pub judged_expression_stays : (env : Environment) (e : Expression) → Stays kind (judged_expression u b env e) (judged_expression (with_limits u l) c env e)
  judged_expression_stays env e = search (staying, expression_typed_stays kind u l larger b c below, takes_stays kind u l larger b c below (concept_value b) (concept_value c) (requires_value u b) (requires_value (with_limits u l) c) (concept_value_stays kind u l larger b c below) (requires_value_stays kind u l larger b c below)) depth 12

  joined_needs_stay : {p p' q q' : Answer (List Need)} → Stays kind p p' → Stays kind q q' → Stays kind (joined_needs u b p q) (joined_needs (with_limits u l) c p' q')
  joined_needs_stay s t = search (staying, s, t) depth 12

  mutual
    pub calls_stay : (env : Environment) (e : Expression) → Stays kind (calls_in u b env e) (calls_in (with_limits u l) c env e)
    calls_stay env (literal m s n) = same_stays _
    calls_stay env (local_name m k) = same_stays _
    calls_stay env (position_name m i) = same_stays _
    calls_stay env (field_name m k d) = same_stays _
    calls_stay env (constant_name m d) = same_stays _
    calls_stay env (functions_name m name visible) = same_stays _
    calls_stay env (other_name m d) = same_stays _
    calls_stay env (parentheses m e) = search (staying, calls_stay env e) depth 12
    calls_stay env (unary m w e) = search (staying, calls_stay env e) depth 12
    calls_stay env (binary m w a z) = search (staying, joined_needs_stay, calls_stay env a, calls_stay env z) depth 12
    calls_stay env (conditional m q a z) = search (staying, joined_needs_stay, calls_stay env q, calls_stay env a, calls_stay env z) depth 12
    calls_stay env (dot m e name) = search (staying, calls_stay env e) depth 12
    calls_stay env (scope m t names name) = same_stays _
    calls_stay env (call m f xs) = search (staying, joined_needs_stay, below.resolve, calls_callee_stay env f, calls_all_stay env xs) depth 12
    calls_stay env (list m t xs) = search (staying, calls_all_stay env xs) depth 12
    calls_stay env (cast m t e) = search (staying, calls_stay env e) depth 12
    calls_stay env (is_same m t v) = same_stays _
    calls_stay env (out m e) = search (staying, calls_stay env e) depth 12
    calls_stay env (concept_id m d xs) = same_stays _
    calls_stay env (requires m ps rs) = same_stays _
    calls_stay env (requires_with m xs) = same_stays _

    pub calls_all_stay : (env : Environment) (xs : Expressions) → Stays kind (calls_in_all u b env xs) (calls_in_all (with_limits u l) c env xs)
    calls_all_stay env no_expression = same_stays _
    calls_all_stay env (and_expression e rest) = search (staying, joined_needs_stay, calls_stay env e, calls_all_stay env rest) depth 12

    pub calls_callee_stay : (env : Environment) (f : Callee) → Stays kind (calls_in_callee u b env f) (calls_in_callee (with_limits u l) c env f)
    calls_callee_stay env (object_functions m e name) = calls_stay env e
    calls_callee_stay env f = same_stays _

  pub condition_stays : (env : Environment) (e : Expression) → Stays kind (condition u b env e) (condition (with_limits u l) c env e)
  condition_stays env e = search (staying, judged_expression_stays, calls_stay) depth 12

  pub constant_condition_stays : (env : Environment) (e : Expression) → Stays kind (constant_condition u b env e) (constant_condition (with_limits u l) c env e)
  constant_condition_stays env e = search (staying, below.constant) depth 12

  pub asserted_stays : (env : Environment) (m : Mark) (e : Expression) → Stays kind (asserted u b env m e) (asserted (with_limits u l) c env m e)
  asserted_stays env m e = search (staying, constant_condition_stays) depth 12

  pub completed_stays : (at : Place) (t : Term) → Stays kind (completed u b at t) (completed (with_limits u l) c at t)
  completed_stays at t = search (staying, below.class) depth 12

  -- ---- variables

  pub constant_initialiser_stays : (env : Environment) (e : Expression) (of : Term) → Stays kind (constant_initialiser u b env e of) (constant_initialiser (with_limits u l) c env e of)
  constant_initialiser_stays env e of = search (staying, below.constant, expression_typed_stays kind u l larger b c below) depth 12

  pub initialised_stays : (env : Environment) (k : ℕ) (is_constexpr : Bool) (of : Term) (e : Expression) → Stays kind (initialised u b env k is_constexpr of e) (initialised (with_limits u l) c env k is_constexpr of e)
  initialised_stays env k true of e = search (staying, constant_initialiser_stays) depth 12
  initialised_stays env k false of e = search (staying, judged_expression_stays, calls_stay) depth 12

  pub typed_variable_stays : (env : Environment) (is_constexpr : Bool) (t : TypeForm) (k : ℕ) (init : Initialiser) → Stays kind (typed_variable u b env is_constexpr t k init) (typed_variable (with_limits u l) c env is_constexpr t k init)
  typed_variable_stays env is_constexpr t k init = search (staying, type_stays kind u l larger b c below, completed_stays, initialised_stays) depth 16

  pub constrained_stays : (env : Environment) (x : Option Constraint) (of : Term) → Stays kind (constrained u b env x of) (constrained (with_limits u l) c env x of)
  constrained_stays env None of = same_stays _
  constrained_stays env (Some x) of = search (staying, meets_stays kind u l larger b c below) depth 12

  pub type_of_auto_stays : (env : Environment) (m : Mark) (x : Option Constraint) (is_const : Bool) (is_reference : Bool) (t : Typed) → Stays kind (type_of_auto u b env m x is_const is_reference t) (type_of_auto (with_limits u l) c env m x is_const is_reference t)
  type_of_auto_stays env m x is_const is_reference t = search (staying, constrained_stays) depth 12

  pub auto_variable_stays : (env : Environment) (is_constexpr : Bool) (m : Mark) (x : Option Constraint) (is_const is_reference : Bool) (k : ℕ) (e : Expression)
      → Stays kind (auto_variable u b env is_constexpr m x is_const is_reference k e) (auto_variable (with_limits u l) c env is_constexpr m x is_const is_reference k e)
  auto_variable_stays env true m x is_const is_reference k e = search (staying, below.constant, expression_typed_stays kind u l larger b c below, type_of_auto_stays, completed_stays) depth 16
  auto_variable_stays env false m x is_const is_reference k e = search (staying, judged_expression_stays, type_of_auto_stays, completed_stays, calls_stay) depth 16

  pub declared_variable_stays : (env : Environment) (is_constexpr : Bool) (of : Declared) (k : ℕ) (init : Initialiser) → Stays kind (declared_variable u b env is_constexpr of k init) (declared_variable (with_limits u l) c env is_constexpr of k init)
  declared_variable_stays env is_constexpr (as_type t) k init = typed_variable_stays env is_constexpr t k init
  declared_variable_stays env is_constexpr (as_auto m x is_const is_reference) k (equals e) = auto_variable_stays env is_constexpr m x is_const is_reference k e
  declared_variable_stays env is_constexpr (as_auto m x is_const is_reference) k (braces n xs) = same_stays _

  -- ---- statements

  pub returned_stays : (around : Around) (env : Environment) (m : Mark) (e : Option Expression) → Stays kind (returned u b around env m e) (returned (with_limits u l) c around env m e)
  returned_stays around env m None = same_stays _
  returned_stays around env m (Some e) = search (staying, judged_expression_stays, calls_stay) depth 12

  if_there_stays : {f f' : Expression → Answer (List Need)} → ((e : Expression) → Stays kind (f e) (f' e)) → (e : Option Expression) → Stays kind (if_there u b f e) (if_there (with_limits u l) c f' e)
  if_there_stays k e = in_case_stays e k (λ x. same_stays _)

  branches_stay : (is_templated holds : Bool) {f f' g g' : Unit {0} → Answer (List Need)} → ((x : Unit {0}) → Stays kind (f x) (f' x)) → ((x : Unit {0}) → Stays kind (g x) (g' x))
      → Stays kind (branches u b is_templated holds f g) (branches (with_limits u l) c is_templated holds f' g')
  branches_stay true true s t = s tt
  branches_stay true false s t = t tt
  branches_stay false true s t = search (staying, s, t) depth 12
  branches_stay false false s t = search (staying, s, t) depth 12

  mutual
    pub judged_stays : (around : Around) (env : Environment) (s : Statement) → Stays kind (judged u b around env s) (judged (with_limits u l) c around env s)
    judged_stays around env (empty_statement m) = same_stays _
    judged_stays around env (block m ss) = search (staying, judged_all_stay around env ss) depth 12
    judged_stays around env (assertion m e) = search (staying, asserted_stays) depth 12
    judged_stays around env (break_statement m) = same_stays _
    judged_stays around env (continue_statement m) = same_stays _
    judged_stays around env (return_statement m e) = search (staying, returned_stays) depth 12
    judged_stays around env (if_statement m false e s otherwise) = search (staying, condition_stays, judged_stays around env s, judged_all_stay around env otherwise) depth 12
    judged_stays around env (if_statement m true e s otherwise) = search (staying, constant_condition_stays, branches_stay, judged_stays around env s, judged_all_stay around env otherwise) depth 12
    judged_stays around env (while_statement m e s) = search (staying, condition_stays, judged_stays (in_a_loop around) env s) depth 12
    judged_stays around env (for_statement m first e step s) = search (staying, judged_stays around env first, if_there_stays, condition_stays, judged_expression_stays, calls_stay, λ (x : Environment). judged_stays (in_a_loop around) x s) depth 16
    judged_stays around env (variable m is_constexpr of k init) = declared_variable_stays env is_constexpr of k init
    judged_stays around env (expression_statement m e) = search (staying, judged_expression_stays, calls_stay) depth 12

    pub judged_all_stay : (around : Around) (env : Environment) (ss : Statements) → Stays kind (judged_all u b around env ss) (judged_all (with_limits u l) c around env ss)
    judged_all_stay around env no_statement = same_stays _
    judged_all_stay around env (and_statement s rest) = search (staying, judged_stays around env s, λ (x : Environment). judged_all_stay around x rest) depth 12
