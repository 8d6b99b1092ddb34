-- Numbers without a gap: the nodes of what is read are numbered one after the other.
use Rattle.std.proofs.Common.{◌≡◌, ◌+◌, ℕ, zero, suc, Bool, true, false, List, [], ◌∷◌, ◌++◌, length, Ok, Err, refl, sym, ap, ◌∙◌, subst, arith, length-append}
use Rattle.cx_tokens.specs.declared.punctuator.Punctuator.TheVariants as punctuator
use Rattle.cx_tokens.specs.Pieces.{Piece}
use Rattle.cx_names.specs.Frames.{Frames}
use Rattle.cx_syntax.specs.declared.context.Context.{Context}
use Rattle.cx_syntax.specs.States.{State, Reading, ◌>>>◌}
use Rattle.cx_syntax.specs.Productions.{Production, Class, begins, give, step, stepped, ◌>>=◌, token, counted, given, when, closed, read_closed, times, repeat}
use Rattle.cx_syntax.specs.Classes.{punct}
use Rattle.cx_syntax.specs.Combinators.{one_more, separated_after, separated, one_more_item}
use Rattle.cx_syntax_laws.proofs.Readings.{ok_value}
use Rattle.cx_syntax_laws.proofs.Tokens.{lawful_token}
use Rattle.cx_syntax_laws.proofs.Counted.{basic_counted}
use Rattle.cx_syntax_laws.proofs.Even.{read_value}

-- numbers from one on
abbrev pub From : ℕ → List ℕ → Type 0
From n [] = Unit {0}
From n (m ∷ ms) = (m ≡ n) × From (n + 1) ms

from_as : {n m : ℕ} (ls : List ℕ) → n ≡ m → From m ls → From n ls
from_as ls e h = subst (λ (k : ℕ). From k ls) (sym e) h

from_both : (n : ℕ) (as' bs : List ℕ) → From n as' → From (n + length as') bs → From n (as' ++ bs)
from_both n [] bs a b = from_as bs (omega arith) b
from_both n (x ∷ as') bs a b = (a.0, from_both (n + 1) as' bs a.1 (from_as bs (omega arith) b))

-- what was made before, and what is made then
pub record Made (n : ℕ) (ls : List ℕ) (next : ℕ) : Type 0 where
  pub numbered : From n ls
  pub next_is : next ≡ n + length ls

-- After nodes of some numbers those of the value, all together.
pub record Numbered (before : List ℕ) {A : Type 0} (of : A → List ℕ) (p : Production A) : Type 0 where
  pub made : (s t : State) (x : A) (n : ℕ) → Made n before s.next → p.read s ≡ Ok (x, t) → Made n (of x) t.next

-- No node is made.
pub record Silent {A : Type 0} (p : Production A) : Type 0 where
  pub silent : (s t : State) (x : A) → p.read s ≡ Ok (x, t) → t.next ≡ s.next

made_as : {n : ℕ} {ls ms : List ℕ} {next : ℕ} → ms ≡ ls → Made n ls next → Made n ms next
made_as {n} {next} e h = subst (λ (l : List ℕ). Made n l next) (sym e) h

module _ (before : List ℕ) {A : Type 0} (of : A → List ℕ) where
  pub numbered_give : (x : A) → of x ≡ before → Numbered before of (give x)
  numbered_give x e = record {
    made = λ s t y n m d.
        let k = ok_value x y s t d in
        made_as (ap of (sym k.0) ∙ e) (subst (λ (u : State). Made n before u.next) k.1 m);
  }

  pub numbered_given : (is : Bool) {a b : Production A} → Numbered before of a → Numbered before of b → Numbered before of (given is a b)
  numbered_given true ha hb = ha
  numbered_given false ha hb = hb

  pub numbered_when : (q : Class) {a b : Production A} → Numbered before of a → Numbered before of b → Numbered before of (when q a b)
  numbered_when q ha hb = record { made = λ s t x n m e. (numbered_given (begins q s) ha hb).made s t x n m e }

  pub numbered_closed : Numbered before of closed
  unfolding read_closed
  numbered_closed = record { made = λ s t x n m e. absurd (by_left t x s.left e) }
    where
      by_left : (t : State) (x : A) (l : List Piece) → read_closed {A = A} l ≡ Ok (x, t) → ⊥
      by_left t x [] e = cc
      by_left t x (y ∷ ys) e = cc

module _ (before : List ℕ) {A B : Type 0} (of : B → List ℕ) (f : A → Production B) where
  -- what uses what was made
  pub then_using : (made_of : A → List ℕ) {p : Production A} → Numbered before made_of p → ((x : A) → Numbered (made_of x) of (f x)) → Numbered before of (p >>= f)
  then_using made_of {p} h k = record {
    made = λ s u y n m e.
        let w = read_value f (p.read s) u y e in
        (k w.0).made w.1 u y n (h.made s w.1 w.0 n m w.2) w.3;
  }

  -- what makes its own
  pub then_own : (made_of : A → List ℕ) {p : Production A} → Numbered [] made_of p → ((x : A) → Numbered (before ++ made_of x) of (f x)) → Numbered before of (p >>= f)
  then_own made_of {p} h k = record {
    made = λ s u y n m e.
        let w = read_value f (p.read s) u y e in
        let o = h.made s w.1 w.0 s.next (record { numbered = tt; next_is = omega arith }) w.2 in
        let l = length-append before (made_of w.0) in
        (k w.0).made w.1 u y n (record {
          numbered = from_both n before (made_of w.0) m.numbered (from_as (made_of w.0) (sym m.next_is) o.numbered);
          next_is = omega (arith, m.next_is, o.next_is);
        }) w.3;
  }

  pub then_silent : {p : Production A} → Silent p → ((x : A) → Numbered before of (f x)) → Numbered before of (p >>= f)
  then_silent {p} h k = record {
    made = λ s u y n m e.
        let w = read_value f (p.read s) u y e in
        (k w.0).made w.1 u y n (record { numbered = m.numbered; next_is = h.silent s w.1 w.0 w.2 ∙ m.next_is }) w.3;
  }

  pub numbered_give_then : (x : A) → Numbered before of (f x) → Numbered before of (give x >>= f)
  numbered_give_then x h = record { made = λ s t y n m e. h.made s t y n m e }

  pub numbered_given_then : (is : Bool) (a b : Production A) → Numbered before of (a >>= f) → Numbered before of (b >>= f) → Numbered before of (given is a b >>= f)
  numbered_given_then true a b ha hb = record { made = λ s t y n m e. ha.made s t y n m e }
  numbered_given_then false a b ha hb = record { made = λ s t y n m e. hb.made s t y n m e }

  pub numbered_when_then : (q : Class) (a b : Production A) → Numbered before of (a >>= f) → Numbered before of (b >>= f) → Numbered before of (when q a b >>= f)
  numbered_when_then q a b ha hb = record { made = λ s t y n m e. (numbered_given_then (begins q s) a b ha hb).made s t y n m e }

pub numbered_sequence_then : (before : List ℕ) {A B C : Type 0} (of : C → List ℕ) (p : Production A) (g : A → Production B) (f : B → Production C)
    → Numbered before of (p >>= (λ x. g x >>= f)) → Numbered before of ((p >>= g) >>= f)
numbered_sequence_then before of p g f h = record { made = λ s t y n m e. h.made s t y n m (regroup (p.read s) ∙ e) }
  where
    regroup : (r : Reading _) → (r >>> (λ q. ((g q.0).read q.1 >>> (λ v. (f v.0).read v.1)))) ≡ ((r >>> (λ q. (g q.0).read q.1)) >>> (λ v. (f v.0).read v.1))
    regroup (Ok q) = refl
    regroup (Err z) = refl

-- ---- steps and tokens

stepped_is : {A : Type 0} (f : ℕ → Frames → A × ℕ × Frames) (s t : State) (y : A) → ◌≡◌ {A = Reading A} (Ok (stepped f s)) (Ok (y, t)) → ((f s.next s.names).0 ≡ y) × (t.next ≡ (f s.next s.names).1)
stepped_is f s t y e =
    let k = ok_value (stepped f s).0 y (stepped f s).1 t e in
    (k.0, ap (λ (u : State). u.next) (sym k.1))

pub silent_step : {A : Type 0} (f : ℕ → Frames → A × ℕ × Frames) → ((n : ℕ) (names : Frames) → (f n names).1 ≡ n) → Silent (step f)
silent_step f h = record { silent = λ s t y e. (stepped_is f s t y e).1 ∙ h s.next s.names }

pub silent_token : (c : Context) (q : Class) → Silent (token c q)
silent_token c q = record { silent = λ s t x e. ap (λ (u : State). u.next) ((lawful_token c q true).basic.sound s t x e).1 }

pub silent_counted : (c : Context) (v : Piece) → Silent (counted c v)
silent_counted c v = record { silent = λ s t x e. ap (λ (u : State). u.next) ((basic_counted c v).sound s t x e).0 }

pub silent_give : {A : Type 0} (x : A) → Silent (give x)
silent_give x = record { silent = λ s t y e. ap (λ (u : State). u.next) (sym (ok_value x y s t e).1) }

pub silent_bind : {A B : Type 0} (f : A → Production B) {p : Production A} → Silent p → ((x : A) → Silent (f x)) → Silent (p >>= f)
silent_bind f {p} h k = record { silent = λ s u y e. let w = read_value f (p.read s) u y e in (k w.0).silent w.1 u y w.3 ∙ h.silent s w.1 w.0 w.2 }

pub silent_given : {A : Type 0} (is : Bool) {a b : Production A} → Silent a → Silent b → Silent (given is a b)
silent_given true ha hb = ha
silent_given false ha hb = hb

pub silent_when : {A : Type 0} (q : Class) {a b : Production A} → Silent a → Silent b → Silent (when q a b)
silent_when q ha hb = record { silent = λ s t x e. (silent_given (begins q s) ha hb).silent s t x e }

silent_closed : (A : Type 0) → Silent (closed {A = A})
unfolding read_closed
silent_closed A = record { silent = λ s t x e. absurd (by_left t x s.left e) }
  where
    by_left : (t : State) (x : A) (l : List Piece) → read_closed {A = A} l ≡ Ok (x, t) → ⊥
    by_left t x [] e = cc
    by_left t x (y ∷ ys) e = cc

module _ {A : Type 0} (q : A → Class) {turn : A → Production A} (h : (x : A) → Silent (turn x)) where
  silent_times : (n : ℕ) (x : A) → Silent (times n q turn x)
  silent_times zero x = silent_closed A
  silent_times (suc n) x = silent_when (q x) (silent_bind (times n q turn) (h x) (silent_times n)) (silent_give x)

  pub silent_repeat : (x : A) → Silent (repeat q turn x)
  silent_repeat x = record { silent = λ s t y e. (silent_times (suc (length s.left)) x).silent s t y e }

module _ (before : List ℕ) {B : Type 0} (of : B → List ℕ) where
  -- a node takes the next number
  pub node_then : (f : ℕ → Production B) → ((n : ℕ) → Numbered (before ++ n ∷ []) of (f n)) → Numbered before of (step (λ n names. (n, n + 1, names)) >>= f)
  node_then f k = record {
    made = λ s u y n m e.
        let w = read_value f ((step (λ n names. (n, n + 1, names))).read s) u y e in
        let v = stepped_is (λ n names. (n, n + 1, names)) s w.1 w.0 w.2 in
        let l = length-append before (w.0 ∷ []) in
        (k w.0).made w.1 u y n (record {
          numbered = from_both n before (w.0 ∷ []) m.numbered (sym v.0 ∙ m.next_is, tt);
          next_is = omega (arith, v.1, m.next_is);
        }) w.3;
  }

  pub step_then : {A : Type 0} (g : ℕ → Frames → A × ℕ × Frames) (f : A → Production B) → ((n : ℕ) (names : Frames) → (g n names).1 ≡ n) → ((x : A) → Numbered before of (f x)) → Numbered before of (step g >>= f)
  step_then g f h k = then_silent before of f (silent_step g h) k

  pub token_then : (c : Context) (q : Class) (f : Piece → Production B) → ((x : Piece) → Numbered before of (f x)) → Numbered before of (token c q >>= f)
  token_then c q f k = then_silent before of f (silent_token c q) k

  pub counted_then : (c : Context) (v : Piece) (f : Unit {0} → Production B) → ((x : Unit {0}) → Numbered before of (f x)) → Numbered before of (counted c v >>= f)
  counted_then c v f k = then_silent before of f (silent_counted c v) k

-- ---- turns and lists

module _ {A : Type 0} (of : A → List ℕ) (q : A → Class) {turn : A → Production A} (h : (x : A) → Numbered (of x) of (turn x)) where
  numbered_times : (n : ℕ) (x : A) → Numbered (of x) of (times n q turn x)
  numbered_times zero x = numbered_closed (of x) of
  numbered_times (suc n) x = numbered_when (of x) of (q x) (then_using (of x) of (times n q turn) of (h x) (numbered_times n)) (numbered_give (of x) of x refl)

  pub numbered_repeat : (x : A) → Numbered (of x) of (repeat q turn x)
  numbered_repeat x = record { made = λ s t y n m e. (numbered_times (suc (length s.left)) x).made s t y n m e }

pub numbered_from : {before start : List ℕ} {A : Type 0} {of : A → List ℕ} {p : Production A} → before ≡ start → Numbered start of p → Numbered before of p
numbered_from {of} {p} e h = subst (λ (l : List ℕ). Numbered l of p) (sym e) h

module _ {A : Type 0} (of : A → List ℕ) (all : List A → List ℕ) (one : (x : A) → all (x ∷ []) ≡ of x) (last : (xs : List A) (x : A) → all (xs ++ x ∷ []) ≡ all xs ++ of x) where
  pub numbered_separated_after : (c : Context) {item : Production A} → Numbered [] of item → (first : A) → Numbered (of first) all (separated_after c item first)
  numbered_separated_after c {item} h first = numbered_from (sym (one first)) (numbered_repeat all (λ so_far. punct punctuator.Comma) more (first ∷ []))
    where
      more : (xs : List A) → Numbered (all xs) all (one_more c item xs)
      more xs = token_then (all xs) all c _ _ (λ comma. then_own (all xs) all _ of h (λ x. numbered_give (all xs ++ of x) all (xs ++ x ∷ []) (last xs x)))

  pub numbered_separated : (c : Context) {item : Production A} → Numbered [] of item → Numbered [] all (separated c item)
  numbered_separated c {item} h = then_own [] all _ of h (λ first. numbered_separated_after c h first)

  pub numbered_items : (q : List A → Class) {item : Production A} → Numbered [] of item → (xs : List A) → Numbered (all xs) all (repeat q (one_more_item item) xs)
  numbered_items q {item} h xs = numbered_repeat all q more xs
    where
      more : (ys : List A) → Numbered (all ys) all (one_more_item item ys)
      more ys = then_own (all ys) all _ of h (λ x. numbered_give (all ys ++ of x) all (ys ++ x ∷ []) (last ys x))

pub ruleset silence = (silent_give, silent_step, silent_token, silent_counted, silent_bind, silent_given, silent_when, silent_repeat)

pub ruleset numbering = (numbered_sequence_then, numbered_when_then, numbered_given_then, numbered_give_then, token_then, node_then, step_then, counted_then, numbered_when, numbered_given, numbered_give)
