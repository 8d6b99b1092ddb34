-- Template argument deduction ([temp.deduct.call], [temp.deduct.type]).
use Rattle.std.specs.Prelude.{ℕ, nat_le, Bool, true, false, not, ◌&&◌, ◌||◌, ◌==◌, List, [], ◌∷◌, ◌++◌, length, filter, flat_map, map, Option, Some, None, slice_get, if◌then◌else◌, option_and_then}
use Rattle.std.specs.List.{list_all, range_with_len}
use Rattle.std.specs.Option.{option_map_or, option_or}
use Rattle.cx_term.specs.Same.{same_term}
use Rattle.cx_term.specs.Term.{Term, Arguments, param, inst, const, ref, member, decltype, val, form, nothing, argument}
use Rattle.cx_questions.specs.Program.{Parametric}
use Rattle.cx_questions.specs.Scalars.{same_scalar}
use Rattle.cx_questions.specs.TermTests.{is_type, is_ref, without_ref, is_const, without_const}

-- an assignment: what each position stands for, None where nothing is said
abbrev pub Assignment : Type 0
Assignment = List (Option Term)

-- what is assigned to a position
abbrev pub assigned_to : Assignment → ℕ → Option Term
assigned_to s i = option_and_then (λ t. t) (slice_get s i)

abbrev pub is_assigned : Assignment → ℕ → Term → Bool
is_assigned s i t = option_map_or (same_term t) (assigned_to s i) false

-- A tree is for a position: a type where it takes a type; where it takes a value, a value of that type, or an expression
-- that is no value yet.
abbrev pub is_for : Parametric → Term → Bool
is_for None t = is_type t
is_for (Some s) (val t n) = same_scalar s t
is_for (Some s) t = not (is_type t)

abbrev pub is_for_position : List Parametric → ℕ → Term → Bool
is_for_position ks i t = option_map_or (λ k. is_for k t) (slice_get ks i) false

-- ---- what fits

-- Whether a type of a template, its positions assigned, is an argument's type. A position fits what it is assigned. The
-- parts of const types, references and instances of one template must fit. A member type, a decltype and an expression
-- are not deduced: they fit everything. All else fits itself.
module _ (ks : List Parametric) (s : Assignment) where
  abbrev mutual
    pub fits : Term → Term → Bool
    fits (param i) t = is_for_position ks i t && is_assigned s i t
    fits (inst d xs) (inst e ys) = (d.0 == e.0) && all_fit xs ys
    fits (const t) (const u) = fits t u
    fits (ref t) (ref u) = fits t u
    fits (member t name) u = true
    fits (decltype t) u = true
    fits (form w xs) u = true
    fits t u = same_term t u

    pub all_fit : Arguments → Arguments → Bool
    all_fit nothing nothing = true
    all_fit (argument t xs) (argument u ys) = fits t u && all_fit xs ys
    all_fit _ _ = false

  abbrev pub pairs_fit : List (Term × Term) → Bool
  pairs_fit pairs = list_all (λ p. fits p.0 p.1) pairs

-- ---- what is deduced

-- what of the argument's type stands where the template's type has a position
module _ (i : ℕ) where
  abbrev mutual
    pub facing : Term → Term → List Term
    facing (param j) t = if i == j then t ∷ [] else []
    facing (inst d xs) (inst e ys) = all_facing xs ys
    facing (const t) (const u) = facing t u
    facing (ref t) (ref u) = facing t u
    facing t u = []

    pub all_facing : Arguments → Arguments → List Term
    all_facing (argument t xs) (argument u ys) = facing t u ++ all_facing xs ys
    all_facing _ _ = []

-- the first of a list
abbrev pub first : {A : Type 0} → List A → Option A
first [] = None
first (x ∷ xs) = Some x

-- what a position gets: what is given for it, else the first tree that it faces
abbrev pub choice : List Term → List (Term × Term) → ℕ → Option Term
choice given pairs i = option_or (slice_get given i) (first (flat_map (λ p. facing i p.0 p.1) pairs))

abbrev pub choices : List Parametric → List Term → List (Term × Term) → Assignment
choices ks given pairs = map (choice given pairs) (range_with_len 0 (length ks))

-- Deduction from pairs of a template's type and an argument's, some arguments being given: the least assignment that
-- extends those and under which all pairs fit; None where there is none.
abbrev pub deduced : List Parametric → List Term → List (Term × Term) → Option Assignment
deduced ks given pairs = if pairs_fit ks (choices ks given pairs) pairs then Some (choices ks given pairs) else None

-- ... without given ones
abbrev pub fitting : List Parametric → List (Term × Term) → Option Assignment
fitting ks pairs = deduced ks [] pairs

-- ---- what is deduced from in a call ([temp.deduct.call])

-- whether the type has a position, from this one on, in a place that is deduced
abbrev mutual
  pub participates : ℕ → Term → Bool
  participates from (param i) = nat_le from i
  participates from (inst d xs) = some_participates from xs
  participates from (const t) = participates from t
  participates from (ref t) = participates from t
  participates from t = false

  pub some_participates : ℕ → Arguments → Bool
  some_participates from nothing = false
  some_participates from (argument t xs) = participates from t || some_participates from xs

-- A parameter's type and its argument's: for a parameter by value const is dropped on both sides, for a reference to const
-- the argument's; for another reference the argument's const stays.
abbrev pub adjusted : Term × Term → Term × Term
adjusted p =
    if not (is_ref p.0) then (without_const p.0, without_const p.1)
    else if is_const (without_ref p.0) then (without_const (without_ref p.0), without_const p.1)
    else (without_ref p.0, p.1)

-- the pairs that a call deduces from: those whose parameter's type has a position that is not given
abbrev pub call_pairs : List Term → List (Term × Term) → List (Term × Term)
call_pairs given pairs = map adjusted (filter (λ p. participates (length given) p.0) pairs)

-- the arguments that a call deduces
abbrev pub deduced_by_call : List Parametric → List Term → List (Term × Term) → Option Assignment
deduced_by_call ks given pairs = deduced ks given (call_pairs given pairs)
