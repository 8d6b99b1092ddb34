-- The table of names against the list of declarations.
use Rattle.std.proofs.Common.{◌≡◌, ℕ, suc, ◌+◌, Bool, true, false, cond, ltb, List, [], ◌∷◌, length, Option, Some, None, Bor, refl, ap, sym, ◌∙◌, arith}
use Rattle.std.specs.Prelude.{map}
use Rattle.std.specs.List.{position, position_or_len}
use Rattle.std.specs.Option.{option_map}
use Rattle.std.specs.Str.{bytes_eq}
use Rattle.std.specs.Map.{lookup, keys_of}
use Rattle.std.proofs.lemmas.Bool.{ltb-true, ltb-false, lt-ltb, le-ltb}
use Rattle.cx_base.specs.declared.place.Place.{Place}
use Rattle.cx_engine.specs.Names.{Declared, declaration_of, number_of}

-- what an entry of the table declares
abbrev pub entry_declared : Bor (List ℕ) × Place → Declared
entry_declared e = record { name = e.0.now; at = e.1 }

found_place : (b : Bool) (d : Declared) (r : Option Declared) (s : Option Place) → option_map (λ d. d.at) r ≡ s → option_map (λ d. d.at) (cond b (Some d) r) ≡ cond b (Some d.at) s
found_place true d r s e = refl
found_place false d r s e = e

pub place-lookup : (q : List ℕ) (es : List (Bor (List ℕ) × Place)) → option_map (λ d. d.at) (declaration_of q (map entry_declared es)) ≡ lookup (λ (k : Bor (List ℕ)). bytes_eq q k.now) es
place-lookup q [] = refl
place-lookup q (e ∷ es) = found_place (bytes_eq q e.0.now) (entry_declared e) (declaration_of q (map entry_declared es)) (lookup (λ (k : Bor (List ℕ)). bytes_eq q k.now) es) (place-lookup q es)

absent : (r : Option Declared) → option_map (λ d. d.at) r ≡ None → r ≡ None
absent None e = refl
absent (Some d) e = cc

pub absent-lookup : (q : List ℕ) (es : List (Bor (List ℕ) × Place)) → declaration_of q (map entry_declared es) ≡ None → lookup (λ (k : Bor (List ℕ)). bytes_eq q k.now) es ≡ None
absent-lookup q es e = sym (place-lookup q es) ∙ ap (option_map (λ d. d.at)) e

-- one more in front
behind_first : (k n : ℕ) → cond (ltb (1 + k) (suc n)) (Some (1 + k)) None ≡ option_map (λ i. i + 1) (cond (ltb k n) (Some k) None)
behind_first k n = by (ltb k n) refl
  where
    by : (b : Bool) → ltb k n ≡ b → cond (ltb (1 + k) (suc n)) (Some (1 + k)) None ≡ option_map (λ i. i + 1) (cond (ltb k n) (Some k) None)
    by true e =
        let below : ltb (1 + k) (suc n) ≡ true = lt-ltb _ _ (omega (arith, ltb-true k n e)) in
        let swap : 1 + k ≡ k + 1 = omega arith in
        rw (below, e) (ap (λ (i : ℕ). Some i) swap)
    by false e =
        let above : ltb (1 + k) (suc n) ≡ false = le-ltb _ _ (omega (arith, ltb-false k n e)) in
        rw (above, e) refl

pub position-cons : {X : Type 0} (p : X → Bool) (x : X) (xs : List X) → position p (x ∷ xs) ≡ cond (p x) (Some 0) (option_map (λ i. i + 1) (position p xs))
position-cons p x xs = by (p x) refl
  where
    by : (b : Bool) → p x ≡ b → position p (x ∷ xs) ≡ cond (p x) (Some 0) (option_map (λ i. i + 1) (position p xs))
    by true e =
        let below : ltb 0 (suc (length xs)) ≡ true = lt-ltb _ _ (omega arith) in
        rw e (rw below refl)
    by false e = rw e (behind_first (position_or_len p xs) (length xs))

pub number-position : (q : List ℕ) (es : List (Bor (List ℕ) × Place)) → position (λ (k : Bor (List ℕ)). bytes_eq q k.now) (keys_of es) ≡ number_of q (map entry_declared es)
number-position q [] = refl
number-position q (e ∷ es) = position-cons (λ (k : Bor (List ℕ)). bytes_eq q k.now) e.0 (keys_of es)
    ∙ ap (λ r. cond (bytes_eq q e.0.now) (Some 0) (option_map (λ i. i + 1) r)) (number-position q es)
