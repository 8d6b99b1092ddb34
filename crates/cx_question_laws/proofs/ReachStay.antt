-- Reach and the stages stay where the questions that they ask do, and no limit is smaller.
use Rattle.std.proofs.Common.{◌≡◌, ℕ, zero, suc, ◌≤◌, Bool, true, not, ◌&&◌, List, [], ◌∷◌, ◌++◌, inr, sym, ◌∙◌, true≢false, arith}
use Rattle.std.specs.Prelude.{Option, nat_lt}
use Rattle.cx_base.specs.declared.limit.Limit.{Limit}
use Rattle.cx_base.specs.declared.limit.Limit.TheVariants as limit
use Rattle.cx_base.specs.declared.numbers.DeclId.{DeclId}
use Rattle.cx_base.specs.declared.place.Place.{Place}
use Rattle.cx_term.specs.Term.{Term}
use Rattle.cx_questions.specs.Answers.{Answer, given, passed, must}
use Rattle.cx_questions.specs.Bodies.{Need}
use Rattle.cx_questions.specs.ConstraintOrder.{too_many_clauses}
use Rattle.cx_questions.specs.Environments.{Environment, Form}
use Rattle.cx_questions.specs.Forms.{Expression, TypeForm, Statement}
use Rattle.cx_questions.specs.PartialOrdering.{list_at_least, left_to_constraints}
use Rattle.cx_questions.specs.Program.{Program, Limits, with_limits, Parameter, Function, Struct, Constant, Declaration, a_function, a_struct, a_concept, a_constant, a_field, Member, static_constant, member_function, function_of, struct_of}
use Rattle.cx_questions.specs.Questions.{Questions}
use Rattle.cx_questions.specs.Reach.{Reached, Progress, through, in_first, head_type, with_parameter, object_of, body_needs, needs_of, newly_reached, reaches, reach_from, own, reach}
use Rattle.cx_questions.specs.Requirements.{requires_value}
use Rattle.cx_questions.specs.Satisfaction.{concept_value}
use Rattle.cx_questions.specs.Specialisations.{own_type, compared_specialisation, compared_primary}
use Rattle.cx_questions.specs.Stages.{Item, an_assertion, an_alias, a_declaration, in_order, list_allowed, form_of_template, more_than_primary, specialises, members_allowed, constant_allowed, types_of, types_judged, form_judged, member_form, forms_of, forms_judged, constant_judged, member_constant, constants_of, constants_judged, verdict_by}
use Rattle.cx_question_laws.specs.Staying.{Stays, it_stays, AllStay, AtMost}
use Rattle.cx_question_laws.proofs.BodiesStay.{judged_stays, completed_stays, asserted_stays}
use Rattle.cx_question_laws.proofs.Combining.{staying, same_stays, then_stays, within_stays, in_turn_stays, limit_stays}
use Rattle.cx_question_laws.proofs.ConstantsStay.{initialiser_stays}
use Rattle.cx_question_laws.proofs.ConstraintsStay.{requires_value_stays}
use Rattle.cx_question_laws.proofs.HeightsLemmas.{concept_value_stays}
use Rattle.cx_question_laws.proofs.LimitTests.{Larger, lt_more, not_less, left_and, clauses_less}
use Rattle.cx_question_laws.proofs.ResolutionStays.{signature_stays, all_members_stay}
use Rattle.cx_question_laws.proofs.SubstitutionStays.{type_stays, argument_stays}
use Rattle.cx_question_laws.proofs.TypingStays.{constant_typed_stays}

through_stays : {kind : Limit → Bool} {A : Type 0} (chain : List Place) {a a' : Answer A} → Stays kind a a' → Stays kind (through chain a) (through chain a')
through_stays [] s = s
through_stays (at ∷ chain) s = within_stays at (through_stays chain s)

in_first_stays : {kind : Limit → Bool} {A : Type 0} (rs : List Reached) {x x' : Answer A} {f f' : Reached → List Reached → Answer A} → Stays kind x x' → ((r : Reached) (rest : List Reached) → Stays kind (f r rest) (f' r rest)) → Stays kind (in_first rs x f) (in_first rs x' f')
in_first_stays [] s k = s
in_first_stays (r ∷ rest) s k = k r rest

none_below : (h : ℕ) → suc h ≤ 0 → ⊥
none_below h m = omega arith

one_below : (h k : ℕ) → suc h ≤ suc k → h ≤ k
one_below h k m = omega arith

module _ (kind : Limit → Bool) (u : Program) (l : Limits) (all : (x : Limit) → kind x ≡ true) (most : AtMost u.limits l) (b c : Questions) (below : AllStay kind b c) where
  larger : Larger kind u.limits l
  larger = record { larger = inr (all, most) }

  -- ---- bodies

  head_type_stays : (env : Environment) (t : TypeForm) → Stays kind (head_type u b env t) (head_type (with_limits u l) c env t)
  head_type_stays env t = search (staying, type_stays kind u l larger b c below, completed_stays kind u l larger b c below) depth 12

  with_parameter_stays : (env : Environment) (p : Parameter) → Stays kind (with_parameter u b env p) (with_parameter (with_limits u l) c env p)
  with_parameter_stays env p = search (staying, head_type_stays) depth 12

  own_type_stays : (d : DeclId) (s : Struct) (ts : List Term) → Stays kind (own_type u b d s ts) (own_type (with_limits u l) c d s ts)
  own_type_stays d s ts = search (staying, argument_stays kind u l larger b c below) depth 12

  object_of_stays : (f : Function) (ts : List Term) → Stays kind (object_of u b f ts) (object_of (with_limits u l) c f ts)
  object_of_stays f ts = search (staying, λ (d : DeclId). own_type_stays d (struct_of u d) ts) depth 12

  body_needs_stay : (f : Function) (ts : List Term) (s : Statement) → Stays kind (body_needs u b f ts s) (body_needs (with_limits u l) c f ts s)
  body_needs_stay f ts s = search (staying, object_of_stays, head_type_stays, with_parameter_stays, judged_stays kind u l larger b c below) depth 12

  needs_of_stay : (r : Reached) → Stays kind (needs_of u b r) (needs_of (with_limits u l) c r)
  needs_of_stay r = search (staying, through_stays, body_needs_stay) depth 12

  -- ---- the list

  functions_within : (n : ℕ) (at : Place) → Stays kind (must (nat_lt n u.limits.functions) (passed limit.Instances at)) (must (nat_lt n l.functions) (passed limit.Instances at))
  functions_within n at = limit_stays (nat_lt n u.limits.functions) (nat_lt n l.functions) limit.Instances at (all limit.Instances) (lt_more n u.limits.functions l.functions most.functions)

  newly_reached_stays : (from : Reached) (n : Need) (p : Progress) → Stays kind (newly_reached u b from n p) (newly_reached (with_limits u l) c from n p)
  newly_reached_stays from n p = search (staying, functions_within, through_stays) depth 12

  reaches_stays : (from : Reached) (p : Progress) (n : Need) → Stays kind (reaches u b from p n) (reaches (with_limits u l) c from p n)
  reaches_stays from p n = search (staying, newly_reached_stays) depth 12

  instances_stay : {A : Type 0} (at : Place) (a : Answer A) → Stays kind (passed limit.Instances at) a
  instances_stay at a = it_stays (λ h. absurd (true≢false (sym (all limit.Instances) ∙ h)))

  reach_from_stays : (n k : ℕ) → n ≤ k → (p : Progress) → Stays kind (reach_from u b n p) (reach_from (with_limits u l) c k p)
  reach_from_stays zero zero m p = in_first_stays p.coming (same_stays (given p.judged)) (λ r rest. same_stays _)
  reach_from_stays zero (suc k) m p = in_first_stays p.coming (same_stays (given p.judged)) (λ r rest. instances_stay _ _)
  reach_from_stays (suc n) zero m p = absurd (none_below n m)
  reach_from_stays (suc n) (suc k) m p = in_first_stays p.coming (same_stays (given p.judged)) (λ r rest.
      then_stays (needs_of_stay r) (λ needs.
      then_stays (in_turn_stays (reaches_stays r) (record { judged = p.judged ++ r ∷ []; coming = rest }) needs) (λ next. reach_from_stays n k (one_below n k m) next)))

  own_stays : (rs : List Reached) (d : DeclId) → Stays kind (own u b rs d) (own (with_limits u l) c rs d)
  own_stays rs d = search (staying, functions_within) depth 12

  reach_stays : (ds : List DeclId) → Stays kind (reach u b ds) (reach (with_limits u l) c ds)
  reach_stays ds = then_stays (in_turn_stays own_stays [] ds) (λ start. reach_from_stays u.limits.functions l.functions most.functions (record { judged = []; coming = start }))

  -- ---- the stages

  in_order_stays : {A : Type 0} {f f' : A → Answer (Unit {0})} → ((x : A) → Stays kind (f x) (f' x)) → (xs : List A) → Stays kind (in_order f xs) (in_order f' xs)
  in_order_stays k xs = in_turn_stays (λ done x. k x) tt xs

  list_allowed_stays : (s : Struct) → Stays kind (list_allowed u b s) (list_allowed (with_limits u l) c s)
  list_allowed_stays s = search (staying, in_order_stays, argument_stays kind u l larger b c below) depth 12

  form_of_template_stays : (d : DeclId) → Stays kind (form_of_template u b d) (form_of_template (with_limits u l) c d)
  form_of_template_stays d = search (staying, below.normal) depth 12

  clauses_within : (d primary : DeclId) (p q : Option Form) (at : Place)
      → Stays kind (must (not (left_to_constraints list_at_least (compared_specialisation u d p) (compared_primary u primary q) && too_many_clauses u.limits.clauses p q)) (passed limit.Clauses at))
      (must (not (left_to_constraints list_at_least (compared_specialisation u d p) (compared_primary u primary q) && too_many_clauses l.clauses p q)) (passed limit.Clauses at))
  clauses_within d primary p q at =
      limit_stays (not (left_to_constraints list_at_least (compared_specialisation u d p) (compared_primary u primary q) && too_many_clauses u.limits.clauses p q))
      (not (left_to_constraints list_at_least (compared_specialisation u d p) (compared_primary u primary q) && too_many_clauses l.clauses p q)) limit.Clauses at (all limit.Clauses)
      (not_less (left_to_constraints list_at_least (compared_specialisation u d p) (compared_primary u primary q) && too_many_clauses u.limits.clauses p q)
      (left_to_constraints list_at_least (compared_specialisation u d p) (compared_primary u primary q) && too_many_clauses l.clauses p q)
      (left_and (left_to_constraints list_at_least (compared_specialisation u d p) (compared_primary u primary q)) (too_many_clauses l.clauses p q) (too_many_clauses u.limits.clauses p q) (clauses_less u.limits.clauses l.clauses most.clauses p q)))

  more_than_primary_stays : (d primary : DeclId) (at : Place) → Stays kind (more_than_primary u b d primary at) (more_than_primary (with_limits u l) c d primary at)
  more_than_primary_stays d primary at =
      then_stays (form_of_template_stays d) (λ p. then_stays (form_of_template_stays primary) (λ q. then_stays (clauses_within d primary p q at) (λ x. same_stays _)))

  specialises_stays : (d : DeclId) (s : Struct) → Stays kind (specialises u b d s) (specialises (with_limits u l) c d s)
  specialises_stays d s = search (staying, list_allowed_stays, more_than_primary_stays) depth 12

  members_allowed_stays : (d : DeclId) (s : Struct) → Stays kind (members_allowed u b d s) (members_allowed (with_limits u l) c d s)
  members_allowed_stays d s = search (staying, own_type_stays, all_members_stay kind u l larger b c below) depth 12

  constant_allowed_stays : (d : DeclId) (x : Constant) → Stays kind (constant_allowed u b d x) (constant_allowed (with_limits u l) c d x)
  constant_allowed_stays d x = search (staying, constant_typed_stays kind u l larger b c below, completed_stays kind u l larger b c below) depth 12

  types_of_stay : (d : DeclId) (x : Declaration) → Stays kind (types_of u b d x) (types_of (with_limits u l) c d x)
  types_of_stay d (a_function f) = search (staying, signature_stays kind u l larger b c below) depth 12
  types_of_stay d (a_struct s) = search (staying, specialises_stays, members_allowed_stays) depth 12
  types_of_stay d (a_constant x) = constant_allowed_stays d x
  types_of_stay d (a_concept x) = same_stays _
  types_of_stay d (a_field k t) = same_stays _

  types_judged_stay : (i : Item) → Stays kind (types_judged u b i) (types_judged (with_limits u l) c i)
  types_judged_stay (an_assertion m e) = same_stays _
  types_judged_stay (an_alias t) = search (staying, type_stays kind u l larger b c below) depth 12
  types_judged_stay (a_declaration d) = types_of_stay d (u.declaration d)

  form_judged_stays : (d : DeclId) (es : List Expression) → Stays kind (form_judged u b d es) (form_judged (with_limits u l) c d es)
  form_judged_stays d [] = same_stays _
  form_judged_stays d (e ∷ es) = search (staying, below.normal) depth 12

  member_form_stays : (m : Member) → Stays kind (member_form u b m) (member_form (with_limits u l) c m)
  member_form_stays (member_function name d) = form_judged_stays d (function_of u d).constraints
  member_form_stays m = same_stays _

  forms_of_stay : (d : DeclId) (x : Declaration) → Stays kind (forms_of u b d x) (forms_of (with_limits u l) c d x)
  forms_of_stay d (a_concept x) = search (staying, below.normal) depth 12
  forms_of_stay d (a_function f) = form_judged_stays d f.constraints
  forms_of_stay d (a_struct s) = search (staying, form_judged_stays, in_order_stays, member_form_stays) depth 12
  forms_of_stay d x = same_stays _

  forms_judged_stay : (i : Item) → Stays kind (forms_judged u b i) (forms_judged (with_limits u l) c i)
  forms_judged_stay (a_declaration d) = forms_of_stay d (u.declaration d)
  forms_judged_stay i = same_stays _

  constant_judged_stays : (d : DeclId) → Stays kind (constant_judged u b d) (constant_judged (with_limits u l) c d)
  constant_judged_stays d = search (
    staying,
    constant_typed_stays kind u l larger b c below,
    initialiser_stays kind u l larger b c below (concept_value b) (concept_value c) (requires_value u b) (requires_value (with_limits u l) c) (concept_value_stays kind u l larger b c below) (requires_value_stays kind u l larger b c below),
  ) depth 12

  member_constant_stays : (m : Member) → Stays kind (member_constant u b m) (member_constant (with_limits u l) c m)
  member_constant_stays (static_constant name d) = constant_judged_stays d
  member_constant_stays m = same_stays _

  constants_of_stay : (d : DeclId) (x : Declaration) → Stays kind (constants_of u b d x) (constants_of (with_limits u l) c d x)
  constants_of_stay d (a_constant x) = constant_judged_stays d
  constants_of_stay d (a_struct s) = search (staying, in_order_stays, member_constant_stays) depth 12
  constants_of_stay d x = same_stays _

  constants_judged_stay : (i : Item) → Stays kind (constants_judged u b i) (constants_judged (with_limits u l) c i)
  constants_judged_stay (an_assertion m e) = asserted_stays kind u l larger b c below _ m e
  constants_judged_stay (an_alias t) = same_stays _
  constants_judged_stay (a_declaration d) = constants_of_stay d (u.declaration d)

  pub verdict_stays : (items : List Item) → Stays kind (verdict_by u b items) (verdict_by (with_limits u l) c items)
  verdict_stays items =
      then_stays (in_order_stays types_judged_stay items) (λ x. then_stays (in_order_stays forms_judged_stay items) (λ y. then_stays (in_order_stays constants_judged_stay items) (λ z. reach_stays _)))
