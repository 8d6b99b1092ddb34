-- The laws of productions that are read again and again.
use Rattle.std.proofs.Common.{◌≡◌, ◌<◌, ◌+◌, ◌⊎◌, inl, inr, ℕ, zero, suc, Bool, true, false, if◌then◌else◌, List, [], ◌∷◌, ◌++◌, length, Ok, Err, refl, sym, ap, ◌∙◌, arith, length-append}
use Rattle.cx_tokens.specs.Pieces.{Piece}
use Rattle.cx_syntax.specs.declared.stopped.Stopped.TheVariants.{Ended}
use Rattle.cx_syntax.specs.States.{State, Reading, cut, grow, freed, ◌>>>◌}
use Rattle.cx_syntax.specs.Productions.{Production, Class, begins, times, repeat}
use Rattle.cx_syntax_laws.proofs.Lawful.{grown, Open, Next, Opened, Stays, Misfits, TooDeep, Spent, Early, Shut, Late, Lawful, Filled, Takes, Opens}
use Rattle.cx_syntax_laws.proofs.Readings.{open_as, next_as}
use Rattle.cx_syntax_laws.proofs.Sequence.{lawful_give, lawful_bind, lawful_after, first_open}
use Rattle.cx_syntax_laws.proofs.Choices.{lawful_choice, lawful_when_opens, next_at}
use Rattle.cx_syntax_laws.proofs.Firsts.{lawful_closed, opens_first}

-- One turn of a loop: it begins with each piece of the loop's class, and takes one at least.
pub record Turn {A : Type 0} (q : Class) (p : Production A) : Type 0 where
  pub lawful : Lawful true p
  pub opens : Opens q p
  pub takes : Takes p

-- One turn of a loop up to what closes it: it takes a piece at least, and may meet one that does not fit.
pub record Item {A : Type 0} (p : Production A) : Type 0 where
  pub lawful : Lawful true p
  pub filled : Filled p
  pub takes : Takes p

-- what goes on alike after each value that is read
pub alike : {A B : Type 0} (r : Reading A) (k h : A × State → Reading B) → ((x : A) (t : State) → r ≡ Ok (x, t) → k (x, t) ≡ h (x, t)) → (r >>> k) ≡ (r >>> h)
alike (Ok q) k h e = e q.0 q.1 refl
alike (Err z) k h e = refl

-- ---- no more turns are taken than there are pieces

module _ {A : Type 0} (q : A → Class) {turn : A → Production A} (h : (x : A) → Takes (turn x)) where
  enough : (n m : ℕ) (x : A) (s : State) → length s.left < n → length s.left < m → (times n q turn x).read s ≡ (times m q turn x).read s
  enough zero m x s a b = absurd (omega arith)
  enough (suc n) zero x s a b = absurd (omega arith)
  enough (suc n) (suc m) x s a b =
      let e : ((turn x).read s >>> (λ r. (times n q turn r.0).read r.1)) ≡ ((turn x).read s >>> (λ r. (times m q turn r.0).read r.1)) =
      alike ((turn x).read s) (λ r. (times n q turn r.0).read r.1) (λ r. (times m q turn r.0).read r.1)
      (λ y t d. let shorter = (h x).takes s t y d in enough n m y t (omega arith) (omega arith)) in
      ap (λ (r : Reading A). if begins (q x) s then r else Ok (x, s)) e

  pub repeat_as : (n : ℕ) (x : A) (s : State) → length s.left < n → (repeat q turn x).read s ≡ (times n q turn x).read s
  repeat_as n x s a = enough (suc (length s.left)) n x s (omega arith) a

  -- What a loop of turns gives: a turn and what is given after it, where a piece of the class stands, else the value as it is.
  pub repeat_turn : (x : A) (s : State) → (repeat q turn x).read s ≡ (if begins (q x) s then ((turn x).read s >>> (λ r. (repeat q turn r.0).read r.1)) else Ok (x, s))
  repeat_turn x s =
      let n = length s.left in
      let e : ((turn x).read s >>> (λ r. (times n q turn r.0).read r.1)) ≡ ((turn x).read s >>> (λ r. (repeat q turn r.0).read r.1)) =
      alike ((turn x).read s) (λ r. (times n q turn r.0).read r.1) (λ r. (repeat q turn r.0).read r.1)
      (λ y t d. let shorter = (h x).takes s t y d in sym (repeat_as n y t shorter)) in
      ap (λ (r : Reading A). if begins (q x) s then r else Ok (x, s)) e

-- ---- what holds of so many turns holds of any number

module _ {strict : Bool} {A : Type 0} (q : A → Class) {turn : A → Production A} (h : (x : A) → Takes (turn x)) (l : (n : ℕ) (x : A) → Lawful strict (times n q turn x)) where
  repeat_next : (x : A) (s : State) (t : Piece) → Open ((repeat q turn x).read s)
      → Next strict s.left t ((repeat q turn x).read s) ((repeat q turn x).read (grow s (t ∷ []))) ((repeat q turn x).read (freed (grow s (t ∷ []))))
  repeat_next x s t o =
      let n = suc (length (s.left ++ t ∷ [])) in
      let longer : length (s.left ++ t ∷ []) ≡ length s.left + length (t ∷ []) = length-append s.left (t ∷ []) in
      let e : (repeat q turn x).read s ≡ (times n q turn x).read s = repeat_as q h n x s (omega arith) in
      next_as e refl refl ((l n x).next s t (open_as (sym e) o))

  repeat_ahead : (x : A) (s : State) (vs : List Piece) → Open ((repeat q turn x).read s) ⊎ ((repeat q turn x).read (grow s vs) ≡ grown ((repeat q turn x).read s) vs)
  repeat_ahead x s vs =
      let n = suc (length (s.left ++ vs)) in
      let longer : length (s.left ++ vs) ≡ length s.left + length vs = length-append s.left vs in
      let e : (repeat q turn x).read s ≡ (times n q turn x).read s = repeat_as q h n x s (omega arith) in
      elim ((l n x).basic.ahead s vs) [
        | inl o ↦ inl (open_as e o)
        | inr d ↦ inr (d ∙ ap (λ (r : Reading A). grown r vs) (sym e))
      ]

  lawful_turns : (x : A) → Lawful strict (repeat q turn x)
  lawful_turns x = record {
    basic = record {
      sound = λ s t y e. (l (suc (length s.left)) x).basic.sound s t y e;
      complete = λ s t y w. (l (suc (length s.left)) x).basic.complete s t y w;
      begun = λ s o. (l (suc (length s.left)) x).basic.begun s o;
      ended = λ s o. (l (suc (length s.left)) x).basic.ended s o;
      nothing = λ s e. (l (suc (length s.left)) x).basic.nothing s e;
      ahead = repeat_ahead x;
      unlimited = λ s. (l (suc (length s.left)) x).basic.unlimited s;
      part = λ s t y e. (l (suc (length s.left)) x).basic.part s t y e;
      limit = λ s t y e. (l (suc (length s.left)) x).basic.limit s t y e;
    };
    next = repeat_next x;
  }

-- ---- a loop whose turns begin with each piece of its class

module _ {A : Type 0} {q : A → Class} {turn : A → Production A} (h : (x : A) → Turn (q x) (turn x)) where
  pub lawful_times : (n : ℕ) (x : A) → Lawful true (times n q turn x)
  lawful_times zero x = lawful_closed true A
  lawful_times (suc n) x =
      lawful_when_opens (q x) (lawful_bind (h x).lawful (lawful_times n)) (lawful_give true x) (opens_first (times n q turn) (h x).opens (lawful_times n))

  pub lawful_repeat : (x : A) → Lawful true (repeat q turn x)
  lawful_repeat x = lawful_turns q (λ y. (h y).takes) lawful_times x

-- ---- a loop up to what closes it

never_last : (us : List Piece) (v : Piece) → [] ≡ us ++ v ∷ [] → ⊥
never_last [] v e = cc
never_last (u ∷ us) v e = cc

module _ {A : Type 0} (q : A → Class) {turn : A → Production A} (h : (x : A) → Item (turn x)) where
  -- a piece that is no closing one, where no item is begun
  item_next : {B : Type 0} {t : Piece} (f : A → Production B) (y : B) (u : State) → u.left ≡ [] → ((x : A) → Lawful false (f x)) → (r r' r'' : Reading A) → r ≡ Err Ended → Next true [] t r r' r''
      → Next false [] t (Ok (y, u)) (r' >>> (λ v. (f v.0).read v.1)) (r'' >>> (λ v. (f v.0).read v.1))
  item_next f y u l hf r r' r'' e (Opened o) = Opened (first_open f (λ x. (hf x).basic) r' o)
  item_next f y u l hf r r' r'' e (Stays x v d k w) = absurd (cc)
  item_next {t} f y u l hf r r' r'' e (Misfits d k) = Shut refl y u refl l (ap (λ (z : Reading A). z >>> (λ v. (f v.0).read v.1)) k)
  item_next f y u l hf r r' r'' e (TooDeep k o) = TooDeep (ap (λ (z : Reading A). z >>> (λ v. (f v.0).read v.1)) k) (first_open f (λ x. (hf x).basic) r'' o)
  item_next f y u l hf r r' r'' e (Spent k) = Spent (ap (λ (z : Reading A). z >>> (λ v. (f v.0).read v.1)) k)
  item_next f y u l hf r r' r'' e (Early m d x v k w) = absurd (cc)
  item_next f y u l hf r r' r'' e (Shut m x v d k w) = absurd (cc)
  item_next f y u l hf r r' r'' e (Late us v d k g w) = absurd (never_last us v d)

  lawful_times_until : (n : ℕ) (x : A) → Lawful false (times n q turn x)
  lawful_times_until zero x = lawful_closed false A
  lawful_times_until (suc n) x =
      lawful_choice (q x) (lawful_after (h x).lawful (lawful_times_until n)) (lawful_give false x) (record {
        turns = λ s t e d. item_next (times n q turn) x (cut s []) refl (lawful_times_until n) ((turn x).read (cut s [])) ((turn x).read s) ((turn x).read (freed s))
            ((h x).filled.filled (cut s []) refl) (next_at s t e (h x).lawful);
      })

  pub lawful_repeat_until : (x : A) → Lawful false (repeat q turn x)
  lawful_repeat_until x = lawful_turns q (λ y. (h y).takes) lawful_times_until x
