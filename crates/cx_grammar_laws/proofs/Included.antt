-- The trees and the beginnings of one production are those of another, and so is what its reader answers, unless it
-- comes to a requires-expression that it does not read.
use Rattle.std.proofs.Common.{◌≡◌, ◌⊎◌, ℕ, zero, suc, Bool, true, false, List, [], ◌∷◌, ◌++◌, length, Result, Ok, Err, if◌then◌else◌, refl, sym, ap, ◌∙◌, subst, append_assoc, inl, inr}
use Rattle.cx_grammar.specs.Pieces.{Piece}
use Rattle.cx_grammar.specs.Production.{Production, Stopped, give, ◌>>=◌, ◌>>>◌, token, when, given, closed, times, repeat, begins, Chosen}
use Rattle.cx_grammar.proofs.Lawful.{Reading, Lawful}
use Rattle.cx_grammar.proofs.Combinators.{give-Lawful, token-Lawful, then-Lawful, when-Lawful, given-Lawful, closed-Lawful, times-Lawful, repeat-Lawful, whole_wider, read_ahead, then_read, Takes, token-Takes, then-Takes}
use Rattle.cx_grammar.proofs.Alone.{Filled, filled_takes}
use Rattle.cx_grammar_laws.specs.Language.{IsUnread}

-- two readings are one, or the first came to what it does not read
abbrev pub Alike : {A : Type 0} → Production A → Production A → ℕ → List Piece → Type 0
Alike p q l ts = (q.read l ts ≡ p.read l ts) ⊎ IsUnread p q l ts

pub record Included {A : Type 0} (p q : Production A) : Type 0 where
  pub lawful : Lawful false p
  pub whole : (l : ℕ) (us rest : List Piece) (x : A) → p.whole l us rest x → q.whole l us rest x
  pub front : (l : ℕ) (us : List Piece) → p.front l us → q.front l us
  pub alike : (l : ℕ) (ts : List Piece) → Alike p q l ts

-- a turn of a repetition
pub record Turns {A : Type 0} (p q : Production A) : Type 0 where
  pub included : Included p q
  pub takes : Takes p

-- one production with itself
same-Included : {A : Type 0} (p : Production A) → Lawful false p → Included p p
same-Included p h = record { lawful = h; whole = λ l us rest y w. w; front = λ l us k. k; alike = λ l ts. inl refl }

pub give-Included : {A : Type 0} (x : A) → Included (give x) (give x)
give-Included x = same-Included (give x) (give-Lawful x)

pub token-Included : (load : ℕ) (p : Piece → Bool) → Included (token load p) (token load p)
token-Included load p = same-Included (token load p) (token-Lawful load p)

pub closed-Included : {A : Type 0} → Included (closed {A = A}) closed
closed-Included = same-Included closed closed-Lawful

-- ---- one production, then another

module _ {A B : Type 0} {p q : Production A} {f g : A → Production B} (hp : Included p q) (hf : (x : A) → Included (f x) (g x)) where
  then_unread : (l : ℕ) (ts : List Piece) → IsUnread p q l ts → IsUnread (p >>= f) (q >>= g) l ts
  then_unread l ts u = record {
    before = u.before;
    word' = u.word';
    behind = u.behind;
    parts = u.parts;
    its = u.its;
    stops = ap (λ (z : Reading A). z >>> (λ r. (f r.0).read l r.1)) u.stops;
    greater = u.greater;
    above = u.above;
    goes_on = inl u.goes_on;
  }

  next_unread : (l : ℕ) (ts : List Piece) (x : A) (rest : List Piece) → p.read l ts ≡ Ok (x, rest) → IsUnread (f x) (g x) l rest → IsUnread (p >>= f) (q >>= g) l ts
  next_unread l ts x rest e u =
      let s = hp.lawful.sound l ts x rest e in
      let first : p.read l (s.tree ++ (u.before ++ u.word' ∷ u.behind)) ≡ Ok (x, u.before ++ u.word' ∷ u.behind) =
      ap (λ (z : List Piece). p.read l z) (sym (s.split ∙ ap (λ (z : List Piece). s.tree ++ z) u.parts)) ∙ e ∙ ap (λ (z : List Piece). Ok (x, z)) u.parts in
      record {
        before = s.tree ++ u.before;
        word' = u.word';
        behind = u.behind;
        parts = s.split ∙ ap (λ (z : List Piece). s.tree ++ z) u.parts ∙ sym (append_assoc s.tree u.before (u.word' ∷ u.behind));
        its = u.its;
        stops = then_read p f l ts x rest e ∙ u.stops;
        greater = u.greater;
        above = u.above;
        goes_on = inr (
          x,
          s.tree,
          u.before ++ u.word' ∷ [],
          append_assoc s.tree u.before (u.word' ∷ []),
          hp.whole u.greater s.tree (u.before ++ u.word' ∷ []) x
              (whole_wider hp.lawful l u.greater s.tree (u.before ++ u.word' ∷ []) x u.above (read_ahead hp.lawful l s.tree u.before u.word' u.behind [] x first)),
          u.goes_on,
        );
      }

  then_same : (l : ℕ) (ts : List Piece) → q.read l ts ≡ p.read l ts → (r : Reading A) → p.read l ts ≡ r → Alike (p >>= f) (q >>= g) l ts
  then_same l ts same (Err s) e = inl (ap (λ (z : Reading A). z >>> (λ r. (g r.0).read l r.1)) (same ∙ e) ∙ sym (ap (λ (z : Reading A). z >>> (λ r. (f r.0).read l r.1)) e))
  then_same l ts same (Ok (x, rest)) e = go ((hf x).alike l rest)
    where
      go : Alike (f x) (g x) l rest → Alike (p >>= f) (q >>= g) l ts
      go (inl d) = inl (then_read q g l ts x rest (same ∙ e) ∙ d ∙ sym (then_read p f l ts x rest e))
      go (inr u) = inr (next_unread l ts x rest e u)

  then_alike : (l : ℕ) (ts : List Piece) → Alike p q l ts → Alike (p >>= f) (q >>= g) l ts
  then_alike l ts (inl same) = then_same l ts same (p.read l ts) refl
  then_alike l ts (inr u) = inr (then_unread l ts u)

  then_begun : (l : ℕ) (us : List Piece) → (p >>= f).front l us → (q >>= g).front l us
  then_begun l us (inl k) = inl (hp.front l us k)
  then_begun l us (inr k) = inr (k.0, k.1, k.2, k.3, hp.whole l k.1 k.2 k.0 k.4, (hf k.0).front l k.2 k.5)

  pub then-Included : Included (p >>= f) (q >>= g)
  then-Included = record {
    lawful = then-Lawful hp.lawful (λ x. (hf x).lawful);
    whole = λ l us rest y w. (w.0, w.1, w.2, w.3, hp.whole l w.1 (w.2 ++ rest) w.0 w.4, (hf w.0).whole l w.2 rest y w.5);
    front = then_begun;
    alike = λ l ts. then_alike l ts (hp.alike l ts);
  }

-- ---- a choice by the next piece

same_first : (p : Piece → Bool) (us : List Piece) (t : Piece) (behind : List Piece) → begins p (us ++ t ∷ behind) ≡ begins p (us ++ t ∷ [])
unfolding begins
same_first p [] t behind = refl
same_first p (u ∷ us) t behind = refl

module _ {A : Type 0} (p : Piece → Bool) {a b a' b' : Production A} (ha : Included a a') (hb : Included b b') where
  when_tree : (c : Bool) (l : ℕ) (us rest : List Piece) (x : A) → Chosen c (a.whole l us rest x) (b.whole l us rest x) → Chosen c (a'.whole l us rest x) (b'.whole l us rest x)
  when_tree true l us rest x w = ha.whole l us rest x w
  when_tree false l us rest x w = hb.whole l us rest x w

  when_begun : (c : Bool) (l : ℕ) (us : List Piece) → Chosen c (a.front l us) (b.front l us) → Chosen c (a'.front l us) (b'.front l us)
  when_begun true l us k = ha.front l us k
  when_begun false l us k = hb.front l us k

  when_first : (l : ℕ) (ts : List Piece) → begins p ts ≡ true → Alike a a' l ts → Alike (when p a b) (when p a' b') l ts
  when_first l ts e (inl same) = inl (subst (λ (c : Bool). (if c then a'.read l ts else b'.read l ts) ≡ (if c then a.read l ts else b.read l ts)) (sym e) same)
  when_first l ts e (inr u) = inr record {
    before = u.before;
    word' = u.word';
    behind = u.behind;
    parts = u.parts;
    its = u.its;
    stops = ap (λ (c : Bool). if c then a.read l ts else b.read l ts) e ∙ u.stops;
    greater = u.greater;
    above = u.above;
    goes_on = subst (λ (c : Bool). Chosen c (a'.front u.greater (u.before ++ u.word' ∷ [])) (b'.front u.greater (u.before ++ u.word' ∷ [])))
        (sym e ∙ ap (λ (z : List Piece). begins p z) u.parts ∙ same_first p u.before u.word' u.behind) u.goes_on;
  }

  when_second : (l : ℕ) (ts : List Piece) → begins p ts ≡ false → Alike b b' l ts → Alike (when p a b) (when p a' b') l ts
  when_second l ts e (inl same) = inl (subst (λ (c : Bool). (if c then a'.read l ts else b'.read l ts) ≡ (if c then a.read l ts else b.read l ts)) (sym e) same)
  when_second l ts e (inr u) = inr record {
    before = u.before;
    word' = u.word';
    behind = u.behind;
    parts = u.parts;
    its = u.its;
    stops = ap (λ (c : Bool). if c then a.read l ts else b.read l ts) e ∙ u.stops;
    greater = u.greater;
    above = u.above;
    goes_on = subst (λ (c : Bool). Chosen c (a'.front u.greater (u.before ++ u.word' ∷ [])) (b'.front u.greater (u.before ++ u.word' ∷ [])))
        (sym e ∙ ap (λ (z : List Piece). begins p z) u.parts ∙ same_first p u.before u.word' u.behind) u.goes_on;
  }

  when_alike : (l : ℕ) (ts : List Piece) (c : Bool) → begins p ts ≡ c → Alike (when p a b) (when p a' b') l ts
  when_alike l ts true e = when_first l ts e (ha.alike l ts)
  when_alike l ts false e = when_second l ts e (hb.alike l ts)

  pub when-Included : Included (when p a b) (when p a' b')
  when-Included = record {
    lawful = when-Lawful p ha.lawful hb.lawful;
    whole = λ l us rest x w. when_tree (begins p (us ++ rest)) l us rest x w;
    front = λ l us k. when_begun (begins p us) l us k;
    alike = λ l ts. when_alike l ts (begins p ts) refl;
  }

pub given-Included : {A : Type 0} (c : Bool) {a b a' b' : Production A} → Included a a' → Included b b' → Included (given c a b) (given c a' b')
given-Included true ha hb = ha
given-Included false ha hb = hb

-- ---- repetition

pub token-Turns : {A : Type 0} (load : ℕ) (p : Piece → Bool) {f g : Piece → Production A} → ((x : Piece) → Included (f x) (g x)) → Turns (token load p >>= f) (token load p >>= g)
token-Turns load p h = record { included = then-Included (token-Included load p) h; takes = then-Takes (token-Takes load p) (λ x. (h x).lawful) }

pub filled-Turns : {A : Type 0} {p q : Production A} → Included p q → Filled p → Turns p q
filled-Turns h k = record { included = h; takes = filled_takes h.lawful k }

module _ {A : Type 0} (p : Piece → Bool) {step step' : A → Production A} (h : (y : A) → Turns (step y) (step' y)) where
  times-Included : (n : ℕ) (x : A) → Included (times n p step x) (times n p step' x)
  times-Included zero x = closed-Included
  times-Included (suc n) x = when-Included p (then-Included (h x).included (λ y. times-Included n y)) (give-Included x)

  repeat_alike : (x : A) (l : ℕ) (ts : List Piece) → Alike (times (suc (length ts)) p step x) (times (suc (length ts)) p step' x) l ts → Alike (repeat p step x) (repeat p step' x) l ts
  repeat_alike x l ts (inl same) = inl same
  repeat_alike x l ts (inr u) = inr record {
    before = u.before;
    word' = u.word';
    behind = u.behind;
    parts = u.parts;
    its = u.its;
    stops = u.stops;
    greater = u.greater;
    above = u.above;
    goes_on = (suc (length ts), u.goes_on);
  }

  pub repeat-Included : (x : A) → Included (repeat p step x) (repeat p step' x)
  repeat-Included x = record {
    lawful = repeat-Lawful p (λ y. (h y).included.lawful) (λ y. (h y).takes) x;
    whole = λ l us rest y w. (w.0, (times-Included w.0 x).whole l us rest y w.1);
    front = λ l us k. (k.0, (times-Included k.0 x).front l us k.1);
    alike = λ l ts. repeat_alike x l ts ((times-Included (suc (length ts)) x).alike l ts);
  }
