-- The front of a text whose characters pass a test, and words at its front.
use Rattle.std.proofs.Common.{◌≡◌, ℕ, ◌≤◌, Bool, true, false, eqb, inl, inr, ◌⊎◌, List, [], ◌∷◌, ◌++◌, length, Option, Some, None, refl, sym, ap, ◌∙◌, subst, arith}
use Rattle.std.specs.List.{list_all}
use Rattle.std.proofs.lemmas.Bool.{cases_Bool, and_parts, eqb-true}
use Rattle.std.proofs.lemmas.List.{length-append}
use Rattle.cx_lexer.specs.Reading.{behind_while, behind_word, or_else, and_then}

pub record Passed (p : ℕ → Bool) (text : List ℕ) : Type 0 where
  pub front : List ℕ
  pub is : text ≡ front ++ behind_while p text
  pub all : list_all p front ≡ true
  pub ends : (c : ℕ) (others : List ℕ) → behind_while p text ≡ c ∷ others → p c ≡ false

stopped : (p : ℕ → Bool) (c : ℕ) (cs : List ℕ) → p c ≡ false → (d : ℕ) (others : List ℕ) → behind_while p (c ∷ cs) ≡ d ∷ others → p d ≡ false
stopped p c cs off d others e =
    let f = rw off at e in
    let g : c ∷ cs ≡ d ∷ others = f in
    let h : c ≡ d = cc in
    subst (λ (x : ℕ). p x ≡ false) h off

pub passed : (p : ℕ → Bool) (text : List ℕ) → Passed p text
passed p [] = record { front = []; is = refl; all = refl; ends = λ c others e. absurd cc }
passed p (c ∷ cs) =
    let r : Passed p cs = passed p cs in
    elim (cases_Bool (p c)) [
      | inl on ↦ record { front = c ∷ r.front; is = rw on (ap (λ (x : List ℕ). c ∷ x) r.is); all = rw on r.all; ends = λ d others e. r.ends d others (rw on at e) }
      | inr off ↦ record { front = []; is = rw off refl; all = refl; ends = stopped p c cs off }
    ]

-- what passes is left behind
pub while_past : (p : ℕ → Bool) (front rest : List ℕ) → list_all p front ≡ true → behind_while p (front ++ rest) ≡ behind_while p rest
while_past p [] rest all = refl
while_past p (c ∷ cs) rest all =
    let parts = and_parts (p c) (list_all p cs) all in
    rw parts.0 (while_past p cs rest parts.1)

pub while_stops : (p : ℕ → Bool) (rest : List ℕ) → ((c : ℕ) (others : List ℕ) → rest ≡ c ∷ others → p c ≡ false) → behind_while p rest ≡ rest
while_stops p [] ends = refl
while_stops p (c ∷ cs) ends = rw (ends c cs refl) refl

while_less : (p : ℕ → Bool) (text : List ℕ) → length (behind_while p text) ≤ length text
while_less p text = let r = passed p text in omega (arith, ap length r.is, length-append r.front (behind_while p text))

-- no front that passes leaves less behind
pub while_longest : (p : ℕ → Bool) (text front rest : List ℕ) → text ≡ front ++ rest → list_all p front ≡ true → length (behind_while p text) ≤ length rest
while_longest p text front rest parts all =
    let e : behind_while p text ≡ behind_while p rest = ap (behind_while p) parts ∙ while_past p front rest all in
    omega (arith, ap length e, while_less p rest)

pub word_front : (word text rest : List ℕ) → behind_word word text ≡ Some rest → text ≡ word ++ rest
unfolding behind_word
word_front [] text rest e = cc
word_front (d ∷ w) [] rest e = absurd cc
word_front (d ∷ w) (c ∷ cs) rest e =
    elim (cases_Bool (eqb d c)) [
      | inl same ↦ (
          let f = rw same at e in
          let is : d ≡ c = eqb-true d c same in
          ap (λ (x : ℕ). x ∷ cs) (sym is) ∙ ap (λ (x : List ℕ). d ∷ x) (word_front w cs rest f))
      | inr other ↦ (let f = rw other at e in let g : None ≡ Some rest = f in absurd cc)
    ]

pub or_some : (o other : Option (List ℕ)) (rest : List ℕ) → or_else o other ≡ Some rest → (o ≡ Some rest) ⊎ (other ≡ Some rest)
or_some (Some x) other rest e = inl e
or_some None other rest e = inr e

pub and_some : (o : Option (List ℕ)) (f : List ℕ → Option (List ℕ)) (rest : List ℕ) → and_then o f ≡ Some rest → (middle : List ℕ) × (o ≡ Some middle) × (f middle ≡ Some rest)
and_some (Some x) f rest e = (x, refl, e)
and_some None f rest e = absurd cc
