-- Which declaration an instance of a class template is made by: a specialisation, or the template itself
-- ([temp.class.spec.match], [temp.class.order]).
use Rattle.std.specs.Prelude.{Bool, not, ◌&&◌, List, [], ◌∷◌, length, map, zip, filter_map, Option, Some, None, option_map, option_and_then, if◌then◌else◌}
use Rattle.std.specs.List.{range_with_len}
use Rattle.cx_base.specs.declared.kind.Kind.TheVariants as kind
use Rattle.cx_base.specs.declared.limit.Limit.TheVariants as limit
use Rattle.cx_base.specs.declared.numbers.DeclId.{DeclId}
use Rattle.cx_base.specs.declared.place.Place.{Place}
use Rattle.cx_term.specs.Same.{same_terms}
use Rattle.cx_term.specs.Term.{Term, param, struct, inst, arguments}
use Rattle.cx_questions.specs.Answers.{Answer, given, soft, broken, passed, fault_about, ◌>>=◌, ◌>>◌, must, present, in_case, if_valid, each}
use Rattle.cx_questions.specs.Program.{Program, Parametric, Struct, struct_of, kinds, place_of_declaration}
use Rattle.cx_questions.specs.Environments.{only_arguments, Form, Chosen}
use Rattle.cx_questions.specs.Questions.{Questions}
use Rattle.cx_questions.specs.Terms.{argument_term}
use Rattle.cx_questions.specs.Substitution.{substitute_argument}
use Rattle.cx_questions.specs.ComparedTypes.{all_as_compared}
use Rattle.cx_questions.specs.Deduction.{Assignment, fitting}
use Rattle.cx_questions.specs.Constrained.{satisfied_form}
use Rattle.cx_questions.specs.ConstraintOrder.{too_many_clauses}
use Rattle.cx_questions.specs.PartialOrdering.{Compared, list_at_least, left_to_constraints, more_specialised}
use Rattle.cx_questions.specs.Best.{best, unbeaten, some_pair}

-- a specialisation that matches and is satisfied, with the arguments of its own positions
pub record Matching : Type 0 where
  pub declaration : DeclId
  pub arguments : List Term
  pub form : Option Form

-- the arguments of an assignment, where each position has one
abbrev pub all_assigned : Assignment → Option (List Term)
all_assigned [] = Some []
all_assigned (None ∷ s) = None
all_assigned (Some t ∷ s) = option_map (λ ts. t ∷ ts) (all_assigned s)

abbrev pub primary_of : Option DeclId → DeclId
primary_of None = record { 0 = 0 }
primary_of (Some d) = d

module _ (u : Program) where
  -- what the positions of a specialisation's template take
  abbrev pub primary_kinds : Struct → List Parametric
  primary_kinds s = kinds (struct_of u (primary_of s.primary)).template_parameters

  -- the argument list that a specialisation is for, as it is compared
  abbrev pub list_of : Struct → List Term
  list_of s = all_as_compared u (primary_kinds s) (map (argument_term u) s.specialised_for)

  -- a specialisation as it is compared, and a class template itself
  abbrev pub compared_specialisation : DeclId → Option Form → Compared
  compared_specialisation d form = record { kinds = kinds (struct_of u d).template_parameters; types = list_of (struct_of u d); form = form }

  abbrev pub compared_primary : DeclId → Option Form → Compared
  compared_primary d form = record { kinds = kinds (struct_of u d).template_parameters; types = map param (range_with_len 0 (length (struct_of u d).template_parameters)); form = form }

  abbrev pub compared_matching : Matching → Compared
  compared_matching m = compared_specialisation m.declaration m.form

  abbrev pub more_special : Matching → Matching → Bool
  more_special f g = more_specialised list_at_least (compared_matching f) (compared_matching g)

  -- the constraints are to tell the two apart, and have too many clauses to be compared
  abbrev pub beyond_clauses : Matching → Matching → Bool
  beyond_clauses f g = left_to_constraints list_at_least (compared_matching f) (compared_matching g) && too_many_clauses u.limits.clauses f.form g.form

  -- the argument list of a specialisation with arguments put in
  abbrev pub list_with : Questions → Struct → List Term → Answer (List Term)
  list_with b s xs = each (λ p. substitute_argument u b (only_arguments xs) p.0 p.1) (zip (primary_kinds s) s.specialised_for)

  -- the type that a struct, class template or specialisation has inside, with the arguments of its positions
  abbrev pub own_type : Questions → DeclId → Struct → List Term → Answer Term
  own_type b d s xs = in_case s.primary
      (λ primary. list_with b s xs >>= λ ts. given (inst primary (arguments ts)))
      (λ _. given (if s.is_template then inst d (arguments xs) else struct d))

  module _ (b : Questions) (at : Place) (ts : List Term) where
    abbrev pub no_match : {A : Type 0} → Answer A
    no_match = soft kind.NoViable at

    -- A specialisation matches an argument list where its own arguments are deduced from that list, all of them, and its
    -- list with these put in is that list. Then its constraints are asked.
    abbrev pub matching : DeclId → Answer Matching
    matching d = do
      xs ← present (option_and_then all_assigned (fitting (kinds (struct_of u d).template_parameters) (zip (list_of (struct_of u d)) ts))) no_match
      made ← list_with b (struct_of u d) xs
      must (same_terms made ts) no_match
      form ← satisfied_form b d (struct_of u d).constraints at (only_arguments xs)
      given (record { declaration = d; arguments = xs; form = form })

    -- the specialisations of a template that match, each tried in order of declaration
    abbrev pub all_matching : DeclId → Answer (List Matching)
    all_matching d = each (λ s. if_valid (matching s)) (u.specialisations d) >>= λ tried. given (filter_map (λ m. m) tried)

    abbrev pub not_ordered : List Matching → Answer Chosen
    not_ordered ms = broken (fault_about kind.Ambiguous at (map (λ m. place_of_declaration u m.declaration) (unbeaten more_special ms)))

    -- the one that is more specialised than every other; the template itself where none matches
    abbrev pub most_specialised : DeclId → List Matching → Answer Chosen
    most_specialised d [] = given (record { declaration = d; arguments = ts })
    most_specialised d ms = do
      must (not (some_pair beyond_clauses ms)) (passed limit.Clauses at)
      in_case (best more_special ms) (λ m. given (record { declaration = m.declaration; arguments = m.arguments })) (λ _. not_ordered ms)

  -- what an instance of a template with these arguments, asked for at a place, is made by
  abbrev pub choose : Questions → Place → DeclId → List Term → Answer Chosen
  choose b at d ts = all_matching b at ts d >>= most_specialised b at ts d
