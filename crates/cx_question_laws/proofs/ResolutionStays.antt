-- Overload resolution, specialisations and classes stay where the questions that they ask do.
use Rattle.std.proofs.Common.{ℕ, Bool, not, map, List, [], ◌∷◌}
use Rattle.std.specs.Prelude.{nat_le, Option, Some, None}
use Rattle.cx_base.specs.declared.limit.Limit.{Limit}
use Rattle.cx_base.specs.declared.limit.Limit.TheVariants as limit
use Rattle.cx_base.specs.declared.numbers.DeclId.{DeclId}
use Rattle.cx_base.specs.declared.place.Place.{Place}
use Rattle.cx_term.specs.Term.{Term, struct, inst}
use Rattle.cx_questions.specs.Answers.{Answer, given, passed, must, in_case}
use Rattle.cx_questions.specs.Classes.{field_type, scalars_in, signature, with_member, all_members, class_of, class}
use Rattle.cx_questions.specs.Constrained.{satisfied_form}
use Rattle.cx_questions.specs.Deduction.{Assignment}
use Rattle.cx_questions.specs.Environments.{Environment, Typed, Class, Chosen, Signature, best_is, ambiguous}
use Rattle.cx_questions.specs.Forms.{Name, Expression, Expressions, Callee, TypeForm, ArgumentForm, of_type, of_value, functions, functions_with, own_functions, object_functions, no_function, call}
use Rattle.cx_questions.specs.Program.{Program, Limits, with_limits, Parametric, TemplateParameter, Parameter, Function, Member, field, member_alias, static_constant, member_function}
use Rattle.cx_questions.specs.Questions.{Questions}
use Rattle.cx_questions.specs.Specialisations as specials
use Rattle.cx_questions.specs.Best.{best_of, unbeaten, some_pair}
use Rattle.cx_questions.specs.Better.{better, beyond_clauses, constraints_tell}
use Rattle.cx_questions.specs.ConstraintOrder.{too_many_clauses}
use Rattle.cx_questions.specs.PartialOrdering.{list_at_least, left_to_constraints}
use Rattle.cx_questions.specs.Resolution.{winner, chosen, choice_among, choice_of_members, resolve_call, resolve}
use Rattle.cx_questions.specs.Signatures.{with_parameter, parameter_types, result_type}
use Rattle.cx_questions.specs.Specialisations.{most_specialised, Matching, compared_matching, matching, all_matching, choose}
use Rattle.cx_questions.specs.TermTests.{without_const}
use Rattle.cx_questions.specs.Viability.{Candidate, Explicit, type_given, value_given, explicit, for_position, explicit_arguments, with_default, completed, template_arguments, viable_function, viable_member}
use Rattle.cx_question_laws.specs.Staying.{Stays, AllStay}
use Rattle.cx_question_laws.proofs.LimitTests.{Larger, by_limits, le_more, not_less, pair_less, left_and, clauses_less}
use Rattle.cx_question_laws.proofs.Combining.{limit_stays, then_stays, staying, same_stays}
use Rattle.cx_question_laws.proofs.SubstitutionStays.{type_stays, argument_stays}
use Rattle.cx_question_laws.proofs.TypingStays.{expression_typed_stays, expressions_typed_stay}
use Rattle.cx_question_laws.proofs.ConstraintsStay.{parameter_type_stays}

module _ (kind : Limit → Bool) (u : Program) (l : Limits) (larger : Larger kind u.limits l) (b c : Questions) (below : AllStay kind b c) where
  -- ---- the types of a function, its constraints

  pub with_parameter_stays : (alone : Bool) (read : Environment × List Term) (p : Parameter) → Stays kind (with_parameter u b alone read p) (with_parameter (with_limits u l) c alone read p)
  with_parameter_stays alone read p = search (staying, parameter_type_stays kind u l larger b c below) depth 12

  pub parameter_types_stay : (env : Environment) (ps : List Parameter) → Stays kind (parameter_types u b env ps) (parameter_types (with_limits u l) c env ps)
  parameter_types_stay env ps = search (staying, with_parameter_stays) depth 12

  pub result_type_stays : (env : Environment) (t : TypeForm) → Stays kind (result_type u b env t) (result_type (with_limits u l) c env t)
  result_type_stays env t = search (staying, type_stays kind u l larger b c below) depth 12

  pub satisfied_form_stays : (d : DeclId) (es : List Expression) (at : Place) (env : Environment) → Stays kind (satisfied_form b d es at env) (satisfied_form c d es at env)
  satisfied_form_stays d es at env = search (staying, below.normal, below.satisfied) depth 12

  -- ---- candidates

  pub explicit_stays : (env : Environment) (a : ArgumentForm) → Stays kind (explicit u b env a) (explicit (with_limits u l) c env a)
  explicit_stays env (of_type t) = search (staying, type_stays kind u l larger b c below) depth 12
  explicit_stays env (of_value e) = same_stays _

  module _ (env : Environment) (at : Place) where
    pub for_position_stays : (k : Parametric) (x : Explicit) → Stays kind (for_position u b env at k x) (for_position (with_limits u l) c env at k x)
    for_position_stays k (type_given t) = same_stays _
    for_position_stays None (value_given e) = same_stays _
    for_position_stays (Some s) (value_given e) = search (staying, argument_stays kind u l larger b c below) depth 12

    pub explicit_arguments_stay : (ks : List Parametric) (xs : List Explicit) → Stays kind (explicit_arguments u b env at ks xs) (explicit_arguments (with_limits u l) c env at ks xs)
    explicit_arguments_stay ks xs = search (staying, for_position_stays) depth 12

    pub with_default_stays : (done : List Term) (p : TemplateParameter × Option Term) → Stays kind (with_default u b env at done p) (with_default (with_limits u l) c env at done p)
    with_default_stays done (p, Some t) = same_stays _
    with_default_stays done (p, None) = search (staying, argument_stays kind u l larger b c below) depth 12

    pub completed_stays : (ps : List TemplateParameter) (s : Assignment) → Stays kind (completed u b env at ps s) (completed (with_limits u l) c env at ps s)
    completed_stays ps s = search (staying, with_default_stays) depth 12

    pub template_arguments_stay : (f : Function) (xs : List Explicit) (args : List Typed) → Stays kind (template_arguments u b env at f xs args) (template_arguments (with_limits u l) c env at f xs args)
    template_arguments_stay f xs args = search (staying, explicit_arguments_stay, completed_stays) depth 12

    pub viable_function_stays : (xs : List Explicit) (args : List Typed) (d : DeclId) → Stays kind (viable_function u b env at xs args d) (viable_function (with_limits u l) c env at xs args d)
    viable_function_stays xs args d = search (staying, template_arguments_stay, parameter_types_stay, result_type_stays, satisfied_form_stays) depth 16

    pub viable_member_stays : (x : Class) (object : Typed) (args : List Typed) (f : DeclId × Signature) → Stays kind (viable_member u b env at x object args f) (viable_member (with_limits u l) c env at x object args f)
    viable_member_stays x object args (d, s) = search (staying, satisfied_form_stays) depth 12

    -- ---- the choice

    pub chosen_stays : (fs : List Candidate) → Stays kind (chosen u at fs) (chosen (with_limits u l) at fs)
    chosen_stays [] = same_stays _
    chosen_stays (x ∷ fs) = by_limits kind u l larger (λ m. chosen (with_limits u m) at (x ∷ fs)) (λ all most.
        then_stays
        (limit_stays (not (some_pair (beyond_clauses u) (x ∷ fs))) (not (some_pair (beyond_clauses (with_limits u l)) (x ∷ fs))) limit.Clauses at (all limit.Clauses)
        (not_less (some_pair (beyond_clauses u) (x ∷ fs)) (some_pair (beyond_clauses (with_limits u l)) (x ∷ fs))
        (pair_less (beyond_clauses (with_limits u l)) (beyond_clauses u)
        (λ f g. left_and (constraints_tell u f g) (too_many_clauses l.clauses f.form g.form) (too_many_clauses u.limits.clauses f.form g.form) (clauses_less u.limits.clauses l.clauses most.clauses f.form g.form))
        (x ∷ fs))))
        (λ y. same_stays (in_case (best_of (better u) (x ∷ fs)) (λ p. given (best_is (winner u p))) (λ _. given (ambiguous (map (λ f. f.declaration) (unbeaten (better u) (x ∷ fs))))))))

    pub choice_among_stays : {A : Type 0} {f f' : A → Answer Candidate} → ((x : A) → Stays kind (f x) (f' x)) → (xs : List A) → Stays kind (choice_among u at f xs) (choice_among (with_limits u l) at f' xs)
    choice_among_stays k xs = search (staying, chosen_stays, k) depth 12

    pub choice_of_members_stays : (name : Name) (object : Typed) (args : List Typed) → Stays kind (choice_of_members u b env at name object args) (choice_of_members (with_limits u l) c env at name object args)
    choice_of_members_stays name object args = search (staying, below.class, choice_among_stays, viable_member_stays) depth 12

    pub resolve_call_stays : (f : Callee) (xs : Expressions) → Stays kind (resolve_call u b env at f xs) (resolve_call (with_limits u l) c env at f xs)
    resolve_call_stays (functions m name visible) xs = search (staying, expressions_typed_stay kind u l larger b c below, choice_among_stays, viable_function_stays) depth 12
    resolve_call_stays (functions_with m name visible ts) xs = search (staying, explicit_stays, expressions_typed_stay kind u l larger b c below, choice_among_stays, viable_function_stays) depth 12
    resolve_call_stays (own_functions m name) xs = search (staying, expressions_typed_stay kind u l larger b c below, choice_of_members_stays) depth 12
    resolve_call_stays (object_functions m e name) xs = search (staying, expression_typed_stays kind u l larger b c below, expressions_typed_stay kind u l larger b c below, choice_of_members_stays) depth 12
    resolve_call_stays (no_function e) xs = search (staying, expressions_typed_stay kind u l larger b c below) depth 12

  pub resolve_stays : (e : Expression) (env : Environment) → Stays kind (resolve u b e env) (resolve (with_limits u l) c e env)
  resolve_stays (call m f xs) env = resolve_call_stays env m.at f xs
  resolve_stays e env = same_stays _

  -- ---- specialisations

  module _ (at : Place) (ts : List Term) where
    pub matching_stays : (d : DeclId) → Stays kind (matching u b at ts d) (matching (with_limits u l) c at ts d)
    matching_stays d = search (staying, argument_stays kind u l larger b c below, satisfied_form_stays) depth 12

    pub all_matching_stay : (d : DeclId) → Stays kind (all_matching u b at ts d) (all_matching (with_limits u l) c at ts d)
    all_matching_stay d = search (staying, matching_stays) depth 12

    pub most_specialised_stays : (d : DeclId) (ms : List Matching) → Stays kind (most_specialised u b at ts d ms) (most_specialised (with_limits u l) c at ts d ms)
    most_specialised_stays d [] = same_stays _
    most_specialised_stays d (x ∷ ms) = by_limits kind u l larger (λ m. most_specialised (with_limits u m) b at ts d (x ∷ ms)) (λ all most.
        then_stays
        (limit_stays (not (some_pair (specials.beyond_clauses u) (x ∷ ms))) (not (some_pair (specials.beyond_clauses (with_limits u l)) (x ∷ ms))) limit.Clauses at (all limit.Clauses)
        (not_less (some_pair (specials.beyond_clauses u) (x ∷ ms)) (some_pair (specials.beyond_clauses (with_limits u l)) (x ∷ ms))
        (pair_less (specials.beyond_clauses (with_limits u l)) (specials.beyond_clauses u)
        (λ f g. left_and (left_to_constraints list_at_least (compared_matching u f) (compared_matching u g)) (too_many_clauses l.clauses f.form g.form) (too_many_clauses u.limits.clauses f.form g.form) (clauses_less u.limits.clauses l.clauses most.clauses f.form g.form))
        (x ∷ ms))))
        (λ y. same_stays _))

  pub choose_stays : (at : Place) (d : DeclId) (ts : List Term) → Stays kind (choose u b at d ts) (choose (with_limits u l) c at d ts)
  choose_stays at d ts = search (staying, all_matching_stay, most_specialised_stays) depth 12

  -- ---- classes

  pub field_type_stays : (env : Environment) (t : TypeForm) → Stays kind (field_type u b env t) (field_type (with_limits u l) c env t)
  field_type_stays env t = search (staying, type_stays kind u l larger b c below) depth 12

  pub scalars_in_stays : (at : Place) (t : Term) → Stays kind (scalars_in u b at t) (scalars_in (with_limits u l) c at t)
  scalars_in_stays at t = search (staying, below.class) depth 12

  pub signature_stays : (env : Environment) (d : DeclId) → Stays kind (signature u b env d) (signature (with_limits u l) c env d)
  signature_stays env d = search (staying, result_type_stays, parameter_types_stay) depth 12

  pub with_member_stays : (x : Chosen) (t : Term) (made : Class) (m : Member) → Stays kind (with_member u b x t made m) (with_member (with_limits u l) c x t made m)
  with_member_stays x t made (field name f) = search (staying, field_type_stays, scalars_in_stays) depth 12
  with_member_stays x t made (member_alias name f) = search (staying, type_stays kind u l larger b c below) depth 12
  with_member_stays x t made (static_constant name d) = same_stays _
  with_member_stays x t made (member_function name d) = search (staying, signature_stays) depth 12

  pub scalars_within : (n : ℕ) (at : Place) → Stays kind (must (nat_le n u.limits.scalars) (passed limit.Object at)) (must (nat_le n l.scalars) (passed limit.Object at))
  scalars_within n at =
      by_limits kind u l larger (λ m. must (nat_le n m.scalars) (passed limit.Object at)) (λ all most.
      limit_stays (nat_le n u.limits.scalars) (nat_le n l.scalars) limit.Object at (all limit.Object) (le_more n u.limits.scalars l.scalars most.scalars))

  pub all_members_stay : (x : Chosen) (t : Term) → Stays kind (all_members u b x t) (all_members (with_limits u l) c x t)
  all_members_stay x t = search (staying, scalars_within, with_member_stays) depth 12

  pub class_of_stays : (at : Place) (t : Term) → Stays kind (class_of u b at t) (class_of (with_limits u l) c at t)
  class_of_stays at (struct d) = all_members_stay (record { declaration = d; arguments = [] }) (struct d)
  class_of_stays at (inst d xs) = search (staying, choose_stays, all_members_stay) depth 12
  class_of_stays at t = same_stays _

  pub class_stays : (at : Place) (t : Term) → Stays kind (class u b at t) (class (with_limits u l) c at t)
  class_stays at t = class_of_stays at (without_const t)
