-- What is not read: a requires-expression, where the parsers read none.
use Rattle.std.proofs.Common.{◌≡◌, ℕ, Bool, true, false, List, [], ◌∷◌, ◌++◌, Ok, Err, codes, if◌then◌else◌, refl, sym, ap, ◌∙◌, ◌≤◌, inl, inr}
use Rattle.cx_base.specs.Refusal.{Refusal}
use Rattle.cx_base.specs.declared.kind.Kind.TheVariants as fault
use Rattle.cx_grammar.specs.Pieces.{Piece}
use Rattle.cx_grammar.specs.Words.{misfit, refused, word}
use Rattle.cx_grammar.specs.Production.{Production, Ended, Exhausted, At, given, unread, read_unread}
use Rattle.cx_grammar.proofs.Lawful.{Lawful, Ends, Misfits, Unread, Refuses, Widened, Wide, Grows}
use Rattle.cx_grammar.proofs.Combinators.{either, Firm, same-Grows}
use Rattle.cx_grammar.proofs.Alone.{Alone, Filled}

-- the word that begins one
abbrev pub its_word : Piece → Bool
its_word = word (codes "requires")

-- what holds of a production holds of it where it is chosen
pub first_given : {A : Type 0} (P : Production A → Type 0) {p : Production A} (q : Production A) → P p → P (given true p q)
first_given P q h = h

pub unread-Filled : {A : Type 0} (p : Piece → Bool) → Filled (unread {A = A} p)
unread-Filled p = record { filled = λ l rest x w. w }

pub unread-Firm : {A : Type 0} (limit : ℕ) (p : Piece → Bool) → Firm limit (unread {A = A} p) (unread p)
unfolding read_unread
unread-Firm {A} limit p = record { firm = firm; settled = λ ts. refl }
  where
    firm : (ts : List Piece) → read_unread {A = A} p limit ts ≡ Err Exhausted → ⊥
    firm [] e = cc
    firm (t ∷ ts) e = cc

module _ {A : Type 0} where
  unread_end : (l : ℕ) → read_unread {A = A} its_word l [] ≡ Err Ended
  unfolding read_unread
  unread_end l = refl

  unread_at : (l : ℕ) (t : Piece) (ts : List Piece) (c : Bool) → its_word t ≡ c → read_unread {A = A} its_word l (t ∷ ts) ≡ Err (At (if c then refused fault.Unsupported t.token.at else misfit t.token))
  unfolding read_unread
  unread_at l t ts c e = ap (λ (z : Bool). Err (At (if z then refused fault.Unsupported t.token.at else misfit t.token))) e

  unread_ok : (l : ℕ) (ts : List Piece) (x : A) (rest : List Piece) → read_unread its_word l ts ≡ Ok (x, rest) → ⊥
  unread_ok l [] x rest e = let d = unread_end l in cc
  unread_ok l (t ∷ ts) x rest e = let d = unread_at l t ts (its_word t) refl in cc

  unread_spent : (l : ℕ) (ts : List Piece) → read_unread {A = A} its_word l ts ≡ Err Exhausted → ⊥
  unread_spent l [] e = let d = unread_end l in cc
  unread_spent l (t ∷ ts) e = let d = unread_at l t ts (its_word t) refl in cc

  unread-ended : (l : ℕ) (ts : List Piece) → read_unread {A = A} its_word l ts ≡ Err Ended → ts ≡ []
  unread-ended l [] e = refl
  unread-ended l (t ∷ ts) e = let d = unread_at l t ts (its_word t) refl in absurd (cc)

  unread-widens : (l l' : ℕ) (ts : List Piece) → l ≤ l' → Widened (read_unread {A = A} its_word l ts) (read_unread {A = A} its_word l' ts)
  unfolding read_unread
  unread-widens l l' [] h = Wide refl
  unread-widens l l' (t ∷ ts) h = Wide refl

  module _ {requires : Bool} (none : requires ≡ false) where
    unread-stops : (l : ℕ) (ts : List Piece) (r : Refusal) → read_unread {A = A} its_word l ts ≡ Err (At r) → Refuses requires (unread {A = A} its_word) l ts r
    unread-stops l [] r e = let d = unread_end l in absurd (cc)
    unread-stops l (t ∷ ts) r e =
        elim (either (its_word t)) [
          | inl c ↦
              let d = unread_at l t ts true c in
              let q : r ≡ refused fault.Unsupported t.token.at = cc in
              record {
                front = [];
                next = t;
                behind = ts;
                split = refl;
                begun = refl;
                always = λ rest. unread_at l t rest true c ∙ ap (λ (z : Refusal). Err (At z)) (sym q);
                why = Unread none c q;
              }
          | inr c ↦
              let d = unread_at l t ts false c in
              let q : r ≡ misfit t.token = cc in
              record {
                front = [];
                next = t;
                behind = ts;
                split = refl;
                begun = refl;
                always = λ rest. unread_at l t rest false c ∙ ap (λ (z : Refusal). Err (At z)) (sym q);
                why = Misfits q;
              }
        ]

    pub unread-Lawful : Lawful requires (unread {A = A} its_word)
    unread-Lawful = record {
      starts = λ l. refl;
      sound = λ l ts x rest e. absurd (unread_ok l ts x rest e);
      complete = λ l us rest x w. absurd w;
      whole_front = λ l us rest x w. absurd w;
      begun = λ l ts k. Ends (ap (λ (s : List Piece). read_unread its_word l s) k ∙ unread_end l);
      ended = unread-ended;
      ahead = λ l us t rest rest' x e. absurd (unread_ok l (us ++ t ∷ rest) x (t ∷ rest) e);
      stops = unread-stops;
      spent = λ l ts vs e. absurd (unread_spent l ts e);
      widens = unread-widens;
    }

    pub unread-Grows : Grows requires (unread {A = A} its_word) (unread its_word)
    unread-Grows = same-Grows unread-Lawful

    pub unread-Alone : Alone requires (unread {A = A} its_word)
    unread-Alone = record { lawful = unread-Lawful; alone = λ l us t rest x w. w; free = λ l us t rest x w. absurd w }
