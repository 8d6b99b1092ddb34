-- Partial ordering of function templates, and of the specialisations of a class template ([temp.func.order],
-- [temp.deduct.partial], [temp.class.order]).
use Rattle.std.specs.Prelude.{ℕ, ◌+◌, ◌^◌, pos, Bool, true, false, not, ◌&&◌, ◌||◌, List, [], ◌∷◌, map, zip, filter, Option, Some, None, is_some, slice_get, option_and_then}
use Rattle.std.specs.List.{list_all, list_any}
use Rattle.std.specs.Cmp.Lexicographic.{pointwise}
use Rattle.std.specs.Option.{option_map_or}
use Rattle.cx_term.specs.Same.{same_terms}
use Rattle.cx_term.specs.Term.{Term, param, val}
use Rattle.cx_questions.specs.ConstraintOrder.{more_constrained}
use Rattle.cx_questions.specs.Deduction.{fitting, participates}
use Rattle.cx_questions.specs.Environments.{Form}
use Rattle.cx_questions.specs.Program.{Parametric}
use Rattle.cx_questions.specs.Scalars.{same_scalar}
use Rattle.cx_questions.specs.TermTests.{is_ref, without_ref, is_const, without_const, replaced, each_position}

-- A template as it is compared: what its positions take; its parameter types that have arguments in the call, or the
-- arguments that a specialisation is for; its normal form.
pub record Compared : Type 0 where
  pub kinds : List Parametric
  pub types : List Term
  pub form : Option Form

-- the unique type or value that stands for a position of a template ([temp.func.order]/3)
abbrev pub unique_of : ℕ → Parametric → Term
unique_of i None = param i
unique_of i (Some s) = val s (pos (2 ^ 100 + i))

abbrev pub unique : List Parametric → ℕ → Term
unique kinds i = option_map_or (unique_of i) (slice_get kinds i) (param i)

-- the types of a template, made with the unique types and values
abbrev pub made_unique : Compared → List Term
made_unique f = map (replaced (unique f.kinds)) f.types

-- what an assignment gives a position; one that is not bound stands for itself
abbrev pub bound_to : List (Option Term) → ℕ → Option Term
bound_to s i = option_and_then (λ t. t) (slice_get s i)

abbrev pub put_in : List (Option Term) → ℕ → Term
put_in s i = option_map_or (λ t. t) (bound_to s i) (param i)

-- each position that the types mention is bound
abbrev pub binds_all : List (Option Term) → List Term → Bool
binds_all s types = list_all (each_position (λ i. is_some (bound_to s i))) types

-- ---- function templates

-- a reference is replaced by what it refers to, and const is dropped then
abbrev pub adjusted : Term → Term
adjusted t = without_const (without_ref t)

-- what is deduced from what: the type of G and that of F with unique types and values, as pairs
abbrev pub deduced_from : Compared → Compared → List (Term × Term)
deduced_from f g = map (λ p. (adjusted p.0, adjusted p.1)) (zip g.types (made_unique f))

-- the pairs whose type in G has a position that is deduced
abbrev pub used_pairs : Compared → Compared → List (Term × Term)
used_pairs f g = filter (λ p. participates 0 p.0) (deduced_from f g)

-- whether a pair by itself fits
abbrev pub fits_alone : List Parametric → Term → Term → Bool
fits_alone kinds t from = is_some (fitting kinds ((adjusted t, adjusted from) ∷ []))

-- of two references that fit both ways, the type of G is the more const one
abbrev pub is_more_const : Compared → Compared → Term × Term → Bool
is_more_const f g p =
    participates 0 (adjusted p.0) && is_ref p.0 && is_ref p.1 && is_const (without_ref p.0) && not (is_const (without_ref p.1))
    && fits_alone g.kinds p.0 (replaced (unique f.kinds) p.1) && fits_alone f.kinds p.1 (replaced (unique g.kinds) p.0)

-- Whether a function template F is at least as specialised as G: one assignment fits all used pairs and binds each
-- position that G's types mention, and nowhere is G's reference the more const one.
abbrev pub function_at_least : Compared → Compared → Bool
function_at_least f g = option_map_or (λ s. binds_all s g.types) (fitting g.kinds (used_pairs f g)) false && not (list_any (is_more_const f g) (zip g.types f.types))

-- ---- argument lists of a class template and its specialisations

-- Whether the argument list F is at least as specialised as G: one assignment fits the whole list as it is, binds each
-- position that G mentions, and makes F's list of G's.
abbrev pub list_at_least : Compared → Compared → Bool
list_at_least f g =
    option_map_or (λ s. binds_all s g.types && same_terms (map (replaced (put_in s)) g.types) (made_unique f)) (fitting g.kinds (zip g.types (made_unique f))) false

-- ---- with constraints

abbrev pub same_kind : Parametric → Parametric → Bool
same_kind None None = true
same_kind (Some s) (Some t) = same_scalar s t
same_kind _ _ = false

-- what the positions take and the types are equal, position by position ([temp.func.order]/6)
abbrev pub corresponds : Compared → Compared → Bool
corresponds f g = pointwise same_kind f.kinds g.kinds && same_terms f.types g.types

module _ (at_least : Compared → Compared → Bool) where
  -- whether it is for the constraints to tell two templates apart
  abbrev pub left_to_constraints : Compared → Compared → Bool
  left_to_constraints f g = at_least f g && at_least g f && corresponds f g

  -- whether F is more specialised than G: at least as specialised one way only, or else by constraints
  abbrev pub more_specialised : Compared → Compared → Bool
  more_specialised f g = (at_least f g && not (at_least g f)) || (left_to_constraints f g && more_constrained f.form g.form)
