-- The laws hold of what is made of lawful productions.
use Rattle.std.proofs.Common.{length-append, ◌≡◌, ℕ, zero, suc, ◌≤◌, ◌<◌, Bool, true, false, List, [], ◌∷◌, Ok, Err, if◌then◌else◌, refl, sym, ap, ◌∙◌, subst, append_assoc, append-nil, inl, inr, ◌⊎◌, nat_le, leb-true, leb-false, le-leb, length, le_refl, arith}
use mathlib.Core.List.{◌++◌}
use Rattle.std.proofs.lemmas.Bool.{lt-leb}
use Rattle.std.proofs.lemmas.List.{append_cancel_right}
use Rattle.cx_base.specs.Refusal.{Refusal, Passed}
use Rattle.cx_base.specs.declared.limit.Limit.TheVariants as limits
use Rattle.cx_grammar.specs.Pieces.{Piece}
use Rattle.cx_grammar.specs.Words.{misfit}
use Rattle.cx_grammar.specs.Production.{Production, Stopped, Ended, Exhausted, At, ◌>>>◌, give, ◌>>=◌, token, when, given, closed, times, repeat, begins, read_token, read_closed, Chosen}
use Rattle.cx_grammar.proofs.Lawful.{Reading, Wholes, Finished, Ends, Gives, Why, Misfits, Unread, Passes, Refuses, Widened, Wide, Deep, Lawful, Agrees, Spent, Same, Further, Grows}

pub self_alone : {X : Type 0} (us r : List X) → us ++ r ≡ r → us ≡ []
self_alone us r e = append_cancel_right us [] r e

pub ok_both : {A : Type 0} (a b : A) (s t : List Piece) → ◌≡◌ {A = Reading A} (Ok (a, s)) (Ok (b, t)) → (a ≡ b) × (s ≡ t)
ok_both {A} a b s t e =
    let q : ◌≡◌ {A = A × List Piece} (a, s) (b, t) = cc in
    (ap (λ (p : A × List Piece). p.0) q, ap (λ (p : A × List Piece). p.1) q)

finished_as : {A : Type 0} {r s : Reading A} → r ≡ s → Finished s → Finished r
finished_as e (Ends f) = Ends (e ∙ f)
finished_as e (Gives x f) = Gives x (e ∙ f)

-- what is lawful ends where the pieces end
pub finished : {requires : Bool} {A : Type 0} {p : Production A} → Lawful requires p → (l : ℕ) → Finished (p.read l [])
finished hp l = hp.begun l [] (hp.starts l)

pub not_spent : {A : Type 0} {r : Reading A} → Finished r → r ≡ Err Exhausted → ⊥
not_spent (Ends f) e = cc
not_spent (Gives x f) e = cc

pub not_at : {A : Type 0} {r : Reading A} → Finished r → (q : Refusal) → r ≡ Err (At q) → ⊥
not_at (Ends f) q e = cc
not_at (Gives x f) q e = cc

pub not_before : {A : Type 0} {r : Reading A} → Finished r → (x : A) (t : Piece) (rest : List Piece) → r ≡ Ok (x, t ∷ rest) → ⊥
not_before (Ends f) x t rest e = cc
not_before (Gives y f) x t rest e = let q = ok_both y x [] (t ∷ rest) (sym f ∙ e) in let never = q.1 in absurd (cc)

-- ---- give

module _ {requires : Bool} {A : Type 0} (x : A) where
  pub give-Lawful : Lawful requires (give x)
  give-Lawful = record {
    starts = λ l. refl;
    sound = λ l ts y rest e. record { tree = []; split = (ok_both x y ts rest e).1; whole = (refl, sym (ok_both x y ts rest e).0) };
    complete = λ l us rest y w. (λ i. Ok (sym w.1 i, w.0 i ++ rest));
    whole_front = λ l us rest y w. w.0;
    begun = λ l ts f. Gives x (ap (λ (s : List Piece). Ok (x, s)) f);
    ended = λ l ts e. absurd (cc);
    ahead = λ l us t rest rest' y e.
        let q = ok_both x y (us ++ t ∷ rest) (t ∷ rest) e in
        (λ i. Ok (q.0 i, self_alone us (t ∷ rest) q.1 i ++ t ∷ rest'));
    stops = λ l ts r e. absurd (cc);
    spent = λ l ts vs e. absurd (cc);
    widens = λ l l' ts h. Wide refl;
  }

-- ---- one production, then another

data Bound {A B : Type 0} (r : Reading A) (k : A × List Piece → Reading B) (out : Reading B) : Type 0 where
  Failed : (s : Stopped) → r ≡ Err s → out ≡ Err s → Bound r k out
  Went : (x : A) (rest : List Piece) → r ≡ Ok (x, rest) → k (x, rest) ≡ out → Bound r k out

bound : {A B : Type 0} (r : Reading A) (k : A × List Piece → Reading B) (out : Reading B) → (r >>> k) ≡ out → Bound r k out
bound (Ok x) k out e = Went x.0 x.1 refl e
bound (Err s) k out e = Failed s refl (sym e)

module _ {requires : Bool} {A : Type 0} {p : Production A} (hp : Lawful requires p) where
  -- the piece behind a tree, and not those behind it, says where the tree ends
  pub whole_ahead : (l : ℕ) (us : List Piece) (t : Piece) (rest rest' : List Piece) (x : A) → p.whole l us (t ∷ rest) x → p.whole l us (t ∷ rest') x
  whole_ahead l us t rest rest' x w =
      let s = hp.sound l (us ++ t ∷ rest') x (t ∷ rest') (hp.ahead l us t rest rest' x (hp.complete l us (t ∷ rest) x w)) in
      subst (λ (u : List Piece). p.whole l u (t ∷ rest') x) (append_cancel_right s.tree us (t ∷ rest') (sym s.split)) s.whole

  pub read_ahead : (l : ℕ) (us vs : List Piece) (t : Piece) (rest rest' : List Piece) (x : A) → p.read l (us ++ (vs ++ t ∷ rest)) ≡ Ok (x, vs ++ t ∷ rest) → p.read l (us ++ (vs ++ t ∷ rest')) ≡ Ok (x, vs ++ t ∷ rest')
  read_ahead l us [] t rest rest' x e = hp.ahead l us t rest rest' x e
  read_ahead l us (v ∷ vs) t rest rest' x e = hp.ahead l us v (vs ++ t ∷ rest) (vs ++ t ∷ rest') x e

  pub whole_wider : (l l' : ℕ) (us rest : List Piece) (x : A) → l ≤ l' → p.read l (us ++ rest) ≡ Ok (x, rest) → p.whole l' us rest x
  whole_wider l l' us rest x h e =
      elim (hp.widens l l' (us ++ rest) h) [
        | Wide same ↦
            let s = hp.sound l' (us ++ rest) x rest (same ∙ e) in
            subst (λ (u : List Piece). p.whole l' u rest x) (append_cancel_right s.tree us rest (sym s.split)) s.whole
        | Deep at f ↦ absurd (cc)
      ]

module _ {A B : Type 0} (p : Production A) (f : A → Production B) where
  pub then_read : (l : ℕ) (ts : List Piece) (x : A) (rest : List Piece) → p.read l ts ≡ Ok (x, rest) → (p >>= f).read l ts ≡ (f x).read l rest
  then_read l ts x rest e = ap (λ (r : Reading A). r >>> (λ r. (f r.0).read l r.1)) e

  then_stopped : (l : ℕ) (ts : List Piece) (s : Stopped) → p.read l ts ≡ Err s → (p >>= f).read l ts ≡ Err s
  then_stopped l ts s e = ap (λ (r : Reading A). r >>> (λ r. (f r.0).read l r.1)) e

  then_cases : (l : ℕ) (ts : List Piece) (out : Reading B) → (p >>= f).read l ts ≡ out → Bound (p.read l ts) (λ r. (f r.0).read l r.1) out
  then_cases l ts out e = bound (p.read l ts) (λ r. (f r.0).read l r.1) out e

module _ {requires : Bool} {A B : Type 0} {p : Production A} {f : A → Production B} (hp : Lawful requires p) (hf : (x : A) → Lawful requires (f x)) where
  then-starts : (l : ℕ) → (p >>= f).front l []
  then-starts l = inl (hp.starts l)

  then-sound : (l : ℕ) (ts : List Piece) (y : B) (rest : List Piece) → (p >>= f).read l ts ≡ Ok (y, rest) → Wholes (p >>= f) l ts y rest
  then-sound l ts y rest e =
      elim (then_cases p f l ts (Ok (y, rest)) e) [
        | Failed s e1 e2 ↦ absurd (cc)
        | Went x r e1 e2 ↦
            let s1 = hp.sound l ts x r e1 in
            let s2 = (hf x).sound l r y rest e2 in
            record {
              tree = s1.tree ++ s2.tree;
              split = s1.split ∙ ap (λ (v : List Piece). s1.tree ++ v) s2.split ∙ sym (append_assoc s1.tree s2.tree rest);
              whole = (x, s1.tree, s2.tree, refl, subst (λ (v : List Piece). p.whole l s1.tree v x) s2.split s1.whole, s2.whole);
            }
      ]

  then-complete : (l : ℕ) (us rest : List Piece) (y : B) → (p >>= f).whole l us rest y → (p >>= f).read l (us ++ rest) ≡ Ok (y, rest)
  then-complete l ts rest y w =
      let x = w.0 in
      let us = w.1 in
      let vs = w.2 in
      let a = hp.complete l us (vs ++ rest) x w.4 in
      let b = (hf x).complete l vs rest y w.5 in
      subst (λ (s : List Piece). (p >>= f).read l s ≡ Ok (y, rest)) (sym (ap (λ (s : List Piece). s ++ rest) w.3 ∙ append_assoc us vs rest)) (then_read p f l (us ++ (vs ++ rest)) x (vs ++ rest) a ∙ b)

  then_front : (l : ℕ) (us vs behind : List Piece) (x : A) → p.whole l us (vs ++ behind) x → (f x).front l vs → (p >>= f).front l (us ++ vs)
  then_front l us [] behind x w k = inl (subst (λ (s : List Piece). p.front l s) (sym (append-nil us)) (hp.whole_front l us ([] ++ behind) x w))
  then_front l us (v ∷ vs) behind x w k = inr (x, us, v ∷ vs, refl, whole_ahead hp l us v (vs ++ behind) vs x w, k)

  then-whole_front : (l : ℕ) (us rest : List Piece) (y : B) → (p >>= f).whole l us rest y → (p >>= f).front l us
  then-whole_front l ts rest y w =
      subst (λ (s : List Piece). (p >>= f).front l s) (sym w.3) (then_front l w.1 w.2 rest w.0 w.4 ((hf w.0).whole_front l w.2 rest y w.5))

  then-begun : (l : ℕ) (ts : List Piece) → (p >>= f).front l ts → Finished ((p >>= f).read l ts)
  then-begun l ts (inl k) =
      elim (hp.begun l ts k) [
        | Ends e ↦ Ends (then_stopped p f l ts Ended e)
        | Gives x e ↦ finished_as (then_read p f l ts x [] e) ((hf x).begun l [] ((hf x).starts l))
      ]
  then-begun l ts (inr k) =
      let a = hp.complete l k.1 k.2 k.0 k.4 in
      finished_as (then_read p f l ts k.0 k.2 (ap (λ (s : List Piece). p.read l s) k.3 ∙ a)) ((hf k.0).begun l k.2 k.5)

  then-ended : (l : ℕ) (ts : List Piece) → (p >>= f).read l ts ≡ Err Ended → (p >>= f).front l ts
  then-ended l ts e =
      elim (then_cases p f l ts (Err Ended) e) [
        | Failed s e1 e2 ↦ let q : s ≡ Ended = cc in inl (hp.ended l ts (e1 ∙ ap (λ (z : Stopped). Err z) q))
        | Went x r e1 e2 ↦ let s1 = hp.sound l ts x r e1 in inr (x, s1.tree, r, s1.split, s1.whole, (hf x).ended l r e2)
      ]

  then-ahead : (l : ℕ) (us : List Piece) (t : Piece) (rest rest' : List Piece) (y : B) → (p >>= f).read l (us ++ t ∷ rest) ≡ Ok (y, t ∷ rest) → (p >>= f).read l (us ++ t ∷ rest') ≡ Ok (y, t ∷ rest')
  then-ahead l us t rest rest' y e =
      elim (then_cases p f l (us ++ t ∷ rest) (Ok (y, t ∷ rest)) e) [
        | Failed s e1 e2 ↦ absurd (cc)
        | Went x r e1 e2 ↦
            let s1 = hp.sound l (us ++ t ∷ rest) x r e1 in
            let s2 = (hf x).sound l r y (t ∷ rest) e2 in
            let whole : us ++ t ∷ rest ≡ s1.tree ++ (s2.tree ++ t ∷ rest) = s1.split ∙ ap (λ (v : List Piece). s1.tree ++ v) s2.split in
            let parts : s1.tree ++ s2.tree ≡ us = append_cancel_right (s1.tree ++ s2.tree) us (t ∷ rest) (append_assoc s1.tree s2.tree (t ∷ rest) ∙ sym whole) in
            let first : p.read l (s1.tree ++ (s2.tree ++ t ∷ rest)) ≡ Ok (x, s2.tree ++ t ∷ rest) = ap (λ (s : List Piece). p.read l s) (sym whole) ∙ e1 ∙ ap (λ (s : List Piece). Ok (x, s)) s2.split in
            let second : (f x).read l (s2.tree ++ t ∷ rest) ≡ Ok (y, t ∷ rest) = ap (λ (s : List Piece). (f x).read l s) (sym s2.split) ∙ e2 in
            subst (λ (s : List Piece). (p >>= f).read l s ≡ Ok (y, t ∷ rest'))
            (sym (append_assoc s1.tree s2.tree (t ∷ rest')) ∙ ap (λ (s : List Piece). s ++ t ∷ rest') parts)
            (then_read p f l (s1.tree ++ (s2.tree ++ t ∷ rest')) x (s2.tree ++ t ∷ rest') (read_ahead hp l s1.tree s2.tree t rest rest' x first)
            ∙ (hf x).ahead l s2.tree t rest rest' y second)
      ]

  then_why_first : (l : ℕ) (us : List Piece) (t : Piece) (r : Refusal) → Why requires p l us t r → Why requires (p >>= f) l us t r
  then_why_first l us t r (Misfits e) = Misfits e
  then_why_first l us t r (Unread w d e) = Unread w d e
  then_why_first l us t r (Passes l' h e k) = Passes l' h e (inl k)

  then_why : (l : ℕ) (us vs : List Piece) (t : Piece) (rest : List Piece) (r : Refusal) (x : A) → p.read l (us ++ (vs ++ t ∷ rest)) ≡ Ok (x, vs ++ t ∷ rest) → Why requires (f x) l vs t r → Why requires (p >>= f) l (us ++ vs) t r
  then_why l us vs t rest r x e (Misfits q) = Misfits q
  then_why l us vs t rest r x e (Unread w d q) = Unread w d q
  then_why l us vs t rest r x e (Passes l' h q k) =
      Passes l' h q (inr (x, us, vs ++ t ∷ [], append_assoc us vs (t ∷ []), whole_wider hp l l' us (vs ++ t ∷ []) x h (read_ahead hp l us vs t rest [] x e), k))

  then-stops : (l : ℕ) (ts : List Piece) (r : Refusal) → (p >>= f).read l ts ≡ Err (At r) → Refuses requires (p >>= f) l ts r
  then-stops l ts r e =
      elim (then_cases p f l ts (Err (At r)) e) [
        | Failed s e1 e2 ↦
            let q : s ≡ At r = cc in
            let w = hp.stops l ts r (e1 ∙ ap (λ (z : Stopped). Err z) q) in
            record {
              front = w.front;
              next = w.next;
              behind = w.behind;
              split = w.split;
              begun = inl w.begun;
              always = λ rest. then_stopped p f l (w.front ++ w.next ∷ rest) (At r) (w.always rest);
              why = then_why_first l w.front w.next r w.why;
            }
        | Went x v e1 e2 ↦
            let s1 = hp.sound l ts x v e1 in
            let w = (hf x).stops l v r e2 in
            let first : p.read l (s1.tree ++ (w.front ++ w.next ∷ w.behind)) ≡ Ok (x, w.front ++ w.next ∷ w.behind) =
            ap (λ (s : List Piece). p.read l s) (sym (s1.split ∙ ap (λ (s : List Piece). s1.tree ++ s) w.split)) ∙ e1 ∙ ap (λ (s : List Piece). Ok (x, s)) w.split in
            record {
              front = s1.tree ++ w.front;
              next = w.next;
              behind = w.behind;
              split = s1.split ∙ ap (λ (s : List Piece). s1.tree ++ s) w.split ∙ sym (append_assoc s1.tree w.front (w.next ∷ w.behind));
              begun = then_front l s1.tree w.front (w.next ∷ w.behind) x (subst (λ (s : List Piece). p.whole l s1.tree s x) w.split s1.whole) w.begun;
              always = λ rest. ap (λ (s : List Piece). (p >>= f).read l s) (append_assoc s1.tree w.front (w.next ∷ rest))
                  ∙ then_read p f l (s1.tree ++ (w.front ++ w.next ∷ rest)) x (w.front ++ w.next ∷ rest) (read_ahead hp l s1.tree w.front w.next w.behind rest x first)
                  ∙ w.always rest;
              why = then_why l s1.tree w.front w.next w.behind r x first w.why;
            }
      ]

  then_spent : (l : ℕ) (us r vs : List Piece) (x : A) → p.read l (us ++ r) ≡ Ok (x, r) → (f x).read l r ≡ Err Exhausted → (p >>= f).read l (us ++ (r ++ vs)) ≡ Err Exhausted
  then_spent l us [] vs x e1 e2 = absurd (not_spent (finished (hf x) l) e2)
  then_spent l us (v ∷ r) vs x e1 e2 =
      then_read p f l (us ++ v ∷ (r ++ vs)) x (v ∷ (r ++ vs)) (hp.ahead l us v r (r ++ vs) x e1) ∙ (hf x).spent l (v ∷ r) vs e2

  then-spent : (l : ℕ) (ts vs : List Piece) → (p >>= f).read l ts ≡ Err Exhausted → (p >>= f).read l (ts ++ vs) ≡ Err Exhausted
  then-spent l ts vs e =
      elim (then_cases p f l ts (Err Exhausted) e) [
        | Failed s e1 e2 ↦ let q : s ≡ Exhausted = cc in then_stopped p f l (ts ++ vs) Exhausted (hp.spent l ts vs (e1 ∙ ap (λ (z : Stopped). Err z) q))
        | Went x r e1 e2 ↦
            let s1 = hp.sound l ts x r e1 in
            subst (λ (z : List Piece). (p >>= f).read l z ≡ Err Exhausted)
            (sym (append_assoc s1.tree r vs) ∙ ap (λ (z : List Piece). z ++ vs) (sym s1.split))
            (then_spent l s1.tree r vs x (ap (λ (z : List Piece). p.read l z) (sym s1.split) ∙ e1) e2)
      ]

  then-widens : (l l' : ℕ) (ts : List Piece) → l ≤ l' → Widened ((p >>= f).read l ts) ((p >>= f).read l' ts)
  then-widens l l' ts h =
      elim (hp.widens l l' ts h) [
        | Deep at e ↦ Deep at (then_stopped p f l ts (At (Passed limits.Depth at)) e)
        | Wide e ↦ elim (then_cases p f l ts ((p >>= f).read l ts) refl) [
          | Failed s e1 e2 ↦ Wide (then_stopped p f l' ts s (e ∙ e1) ∙ sym e2)
          | Went x r e1 e2 ↦ elim ((hf x).widens l l' r h) [
            | Wide e3 ↦ Wide (then_read p f l' ts x r (e ∙ e1) ∙ e3 ∙ e2)
            | Deep at e3 ↦ Deep at (sym e2 ∙ e3)
          ]
        ]
      ]

  pub then-Lawful : Lawful requires (p >>= f)
  then-Lawful = record {
    starts = then-starts;
    sound = then-sound;
    complete = then-complete;
    whole_front = then-whole_front;
    begun = then-begun;
    ended = then-ended;
    ahead = then-ahead;
    stops = then-stops;
    spent = then-spent;
    widens = then-widens;
  }

-- ---- one of two productions

abbrev pub branch : {A : Type 0} → Bool → Production A → Production A → Production A
branch true a b = a
branch false a b = b

pub branch_read : {A : Type 0} (c : Bool) (a b : Production A) (l : ℕ) (ts : List Piece) → (if c then a.read l ts else b.read l ts) ≡ (branch c a b).read l ts
branch_read true a b l ts = refl
branch_read false a b l ts = refl

branch_in : {requires : Bool} {A : Type 0} (c : Bool) (a b : Production A) → Lawful requires a → Lawful requires b → Lawful requires (branch c a b)
branch_in true a b ha hb = ha
branch_in false a b ha hb = hb

module _ {A : Type 0} (a b : Production A) where
  pub from_whole : (c : Bool) (l : ℕ) (us rest : List Piece) (x : A) → Chosen c (a.whole l us rest x) (b.whole l us rest x) → (branch c a b).whole l us rest x
  from_whole true l us rest x w = w
  from_whole false l us rest x w = w

  pub to_whole : (c : Bool) (l : ℕ) (us rest : List Piece) (x : A) → (branch c a b).whole l us rest x → Chosen c (a.whole l us rest x) (b.whole l us rest x)
  to_whole true l us rest x w = w
  to_whole false l us rest x w = w

  from_front : (c : Bool) (l : ℕ) (us : List Piece) → Chosen c (a.front l us) (b.front l us) → (branch c a b).front l us
  from_front true l us k = k
  from_front false l us k = k

  pub to_front : (c : Bool) (l : ℕ) (us : List Piece) → (branch c a b).front l us → Chosen c (a.front l us) (b.front l us)
  to_front true l us k = k
  to_front false l us k = k

-- what begins a list does not depend on what stands behind a piece of it
begins_same : (p : Piece → Bool) (us : List Piece) (t : Piece) (rest rest' : List Piece) → begins p (us ++ t ∷ rest) ≡ begins p (us ++ t ∷ rest')
unfolding begins
begins_same p [] t rest rest' = refl
begins_same p (u ∷ us) t rest rest' = refl

module _ {requires : Bool} {A : Type 0} (p : Piece → Bool) {a b : Production A} (ha : Lawful requires a) (hb : Lawful requires b) where
  when_at : (ts : List Piece) → Lawful requires (branch (begins p ts) a b)
  when_at ts = branch_in (begins p ts) a b ha hb

  pub when_read : (l : ℕ) (ts : List Piece) → (when p a b).read l ts ≡ (branch (begins p ts) a b).read l ts
  when_read l ts = branch_read (begins p ts) a b l ts

  when-starts : (l : ℕ) → (when p a b).front l []
  unfolding begins
  when-starts l = hb.starts l

  when-sound : (l : ℕ) (ts : List Piece) (y : A) (rest : List Piece) → (when p a b).read l ts ≡ Ok (y, rest) → Wholes (when p a b) l ts y rest
  when-sound l ts y rest e =
      let s = (when_at ts).sound l ts y rest (sym (when_read l ts) ∙ e) in
      record {
        tree = s.tree;
        split = s.split;
        whole = to_whole a b (begins p (s.tree ++ rest)) l s.tree rest y (subst (λ (z : List Piece). (branch (begins p z) a b).whole l s.tree rest y) s.split s.whole);
      }

  when-complete : (l : ℕ) (us rest : List Piece) (y : A) → (when p a b).whole l us rest y → (when p a b).read l (us ++ rest) ≡ Ok (y, rest)
  when-complete l us rest y w =
      when_read l (us ++ rest) ∙ (when_at (us ++ rest)).complete l us rest y (from_whole a b (begins p (us ++ rest)) l us rest y w)

  when-whole_front : (l : ℕ) (us rest : List Piece) (y : A) → (when p a b).whole l us rest y → (when p a b).front l us
  unfolding begins
  when-whole_front l [] rest y w = hb.starts l
  when-whole_front l (u ∷ us) rest y w =
      to_front a b (p u) l (u ∷ us) ((branch_in (p u) a b ha hb).whole_front l (u ∷ us) rest y (from_whole a b (p u) l (u ∷ us) rest y w))

  when-begun : (l : ℕ) (ts : List Piece) → (when p a b).front l ts → Finished ((when p a b).read l ts)
  when-begun l ts k = finished_as (when_read l ts) ((when_at ts).begun l ts (from_front a b (begins p ts) l ts k))

  when-ended : (l : ℕ) (ts : List Piece) → (when p a b).read l ts ≡ Err Ended → (when p a b).front l ts
  when-ended l ts e = to_front a b (begins p ts) l ts ((when_at ts).ended l ts (sym (when_read l ts) ∙ e))

  when-ahead : (l : ℕ) (us : List Piece) (t : Piece) (rest rest' : List Piece) (y : A) → (when p a b).read l (us ++ t ∷ rest) ≡ Ok (y, t ∷ rest) → (when p a b).read l (us ++ t ∷ rest') ≡ Ok (y, t ∷ rest')
  when-ahead l us t rest rest' y e =
      when_read l (us ++ t ∷ rest')
      ∙ ap (λ (c : Bool). (branch c a b).read l (us ++ t ∷ rest')) (begins_same p us t rest' rest)
      ∙ (when_at (us ++ t ∷ rest)).ahead l us t rest rest' y (sym (when_read l (us ++ t ∷ rest)) ∙ e)

  when_front : (l : ℕ) (us : List Piece) (t : Piece) (rest : List Piece) → (branch (begins p (us ++ t ∷ rest)) a b).front l us → (when p a b).front l us
  unfolding begins
  when_front l [] t rest k = hb.starts l
  when_front l (u ∷ us) t rest k = to_front a b (p u) l (u ∷ us) k

  when_why : (l : ℕ) (us : List Piece) (t : Piece) (rest : List Piece) (r : Refusal) → Why requires (branch (begins p (us ++ t ∷ rest)) a b) l us t r → Why requires (when p a b) l us t r
  when_why l us t rest r (Misfits e) = Misfits e
  when_why l us t rest r (Unread w d e) = Unread w d e
  when_why l us t rest r (Passes l' h e k) =
      Passes l' h e (to_front a b (begins p (us ++ t ∷ [])) l' (us ++ t ∷ []) (subst (λ (c : Bool). (branch c a b).front l' (us ++ t ∷ [])) (begins_same p us t rest []) k))

  when-stops : (l : ℕ) (ts : List Piece) (r : Refusal) → (when p a b).read l ts ≡ Err (At r) → Refuses requires (when p a b) l ts r
  when-stops l ts r e =
      let w = (when_at ts).stops l ts r (sym (when_read l ts) ∙ e) in
      let here : begins p ts ≡ begins p (w.front ++ w.next ∷ w.behind) = ap (λ (s : List Piece). begins p s) w.split in
      record {
        front = w.front;
        next = w.next;
        behind = w.behind;
        split = w.split;
        begun = when_front l w.front w.next w.behind (subst (λ (c : Bool). (branch c a b).front l w.front) here w.begun);
        always = λ rest.
            when_read l (w.front ++ w.next ∷ rest)
            ∙ ap (λ (c : Bool). (branch c a b).read l (w.front ++ w.next ∷ rest)) (begins_same p w.front w.next rest w.behind ∙ sym here)
            ∙ w.always rest;
        why = when_why l w.front w.next w.behind r (subst (λ (c : Bool). Why requires (branch c a b) l w.front w.next r) here w.why);
      }

  when-spent : (l : ℕ) (ts vs : List Piece) → (when p a b).read l ts ≡ Err Exhausted → (when p a b).read l (ts ++ vs) ≡ Err Exhausted
  unfolding begins
  when-spent l [] vs e = absurd (not_spent (finished hb l) e)
  when-spent l (t ∷ ts) vs e =
      branch_read (p t) a b l (t ∷ (ts ++ vs)) ∙ (branch_in (p t) a b ha hb).spent l (t ∷ ts) vs (sym (branch_read (p t) a b l (t ∷ ts)) ∙ e)

  when-widens : (l l' : ℕ) (ts : List Piece) → l ≤ l' → Widened ((when p a b).read l ts) ((when p a b).read l' ts)
  when-widens l l' ts h =
      elim ((when_at ts).widens l l' ts h) [
        | Wide e ↦ Wide (when_read l' ts ∙ e ∙ sym (when_read l ts))
        | Deep at e ↦ Deep at (when_read l ts ∙ e)
      ]

  pub when-Lawful : Lawful requires (when p a b)
  when-Lawful = record {
    starts = when-starts;
    sound = when-sound;
    complete = when-complete;
    whole_front = when-whole_front;
    begun = when-begun;
    ended = when-ended;
    ahead = when-ahead;
    stops = when-stops;
    spent = when-spent;
    widens = when-widens;
  }

pub given-Lawful : {requires : Bool} {A : Type 0} (c : Bool) {a b : Production A} → Lawful requires a → Lawful requires b → Lawful requires (given c a b)
given-Lawful true ha hb = ha
given-Lawful false ha hb = hb

-- ---- nothing

pub closed-Lawful : {requires : Bool} {A : Type 0} → Lawful requires (closed {A = A})
unfolding read_closed
closed-Lawful {A} = record {
  starts = λ l. refl;
  sound = elim_ok;
  complete = λ l us rest x w. absurd w;
  whole_front = λ l us rest x w. absurd w;
  begun = λ l ts k. Ends (ap (λ (s : List Piece). read_closed l s) k);
  ended = ended;
  ahead = λ l us t rest rest' x e. absurd (not_ok l (us ++ t ∷ rest) x (t ∷ rest) e);
  stops = λ l ts r e. absurd (no_refusal l ts r e);
  spent = spent;
  widens = widens;
}
  where
    not_ok : (l : ℕ) (ts : List Piece) (x : A) (rest : List Piece) → read_closed l ts ≡ Ok (x, rest) → ⊥
    not_ok l [] x rest e = cc
    not_ok l (t ∷ ts) x rest e = cc

    no_refusal : (l : ℕ) (ts : List Piece) (r : Refusal) → read_closed {A = A} l ts ≡ Err (At r) → ⊥
    no_refusal l [] r e = cc
    no_refusal l (t ∷ ts) r e = cc

    spent : (l : ℕ) (ts vs : List Piece) → read_closed {A = A} l ts ≡ Err Exhausted → read_closed {A = A} l (ts ++ vs) ≡ Err Exhausted
    spent l [] vs e = absurd (cc)
    spent l (t ∷ ts) vs e = refl

    elim_ok : (l : ℕ) (ts : List Piece) (x : A) (rest : List Piece) → read_closed l ts ≡ Ok (x, rest) → Wholes (closed {A = A}) l ts x rest
    elim_ok l ts x rest e = absurd (not_ok l ts x rest e)

    ended : (l : ℕ) (ts : List Piece) → read_closed {A = A} l ts ≡ Err Ended → ts ≡ []
    ended l [] e = refl
    ended l (t ∷ ts) e = absurd (cc)

    widens : (l l' : ℕ) (ts : List Piece) → l ≤ l' → Widened (read_closed {A = A} l ts) (read_closed {A = A} l' ts)
    widens l l' [] h = Wide refl
    widens l l' (t ∷ ts) h = Wide refl

read_closed_end : {A : Type 0} (l : ℕ) → read_closed {A = A} l [] ≡ Err Ended
unfolding read_closed
read_closed_end l = refl

read_closed_spent : {A : Type 0} (l : ℕ) (t : Piece) (ts : List Piece) → read_closed {A = A} l (t ∷ ts) ≡ Err Exhausted
unfolding read_closed
read_closed_spent l t ts = refl

-- ---- one token

-- what comes of a token
data Taken (load : ℕ) (p : Piece → Bool) (l : ℕ) (t : Piece) (ts : List Piece) : Type 0 where
  Fits : p t ≡ true → load ≤ l → read_token load p l (t ∷ ts) ≡ Ok (t, ts) → Taken load p l t ts
  Heavy : p t ≡ true → l < load → read_token load p l (t ∷ ts) ≡ Err (At (Passed limits.Depth t.token.at)) → Taken load p l t ts
  Other : p t ≡ false → read_token load p l (t ∷ ts) ≡ Err (At (misfit t.token)) → Taken load p l t ts

taken : (load : ℕ) (p : Piece → Bool) (l : ℕ) (t : Piece) (ts : List Piece) → Taken load p l t ts
unfolding read_token
taken load p l t ts = go (p t) refl (nat_le load l) refl
  where
    value : Bool → Bool → Reading Piece
    value fits light = if fits then (if light then Ok (t, ts) else Err (At (Passed limits.Depth t.token.at))) else Err (At (misfit t.token))

    go : (fits : Bool) → p t ≡ fits → (light : Bool) → nat_le load l ≡ light → Taken load p l t ts
    go true e true h = Fits e (leb-true load l h) (λ i. value (e i) (h i))
    go true e false h = Heavy e (leb-false load l h) (λ i. value (e i) (h i))
    go false e light h = Other e (λ i. value (e i) (h i))

pub token_fits : (load : ℕ) (p : Piece → Bool) (l : ℕ) (t : Piece) (ts : List Piece) → p t ≡ true → load ≤ l → read_token load p l (t ∷ ts) ≡ Ok (t, ts)
unfolding read_token
token_fits load p l t ts e h = λ i. if e i then (if le-leb load l h i then Ok (t, ts) else Err (At (Passed limits.Depth t.token.at))) else Err (At (misfit t.token))

token_heavy : (load : ℕ) (p : Piece → Bool) (l : ℕ) (t : Piece) (ts : List Piece) → p t ≡ true → l < load → read_token load p l (t ∷ ts) ≡ Err (At (Passed limits.Depth t.token.at))
unfolding read_token
token_heavy load p l t ts e h = λ i. if e i then (if lt-leb load l h i then Ok (t, ts) else Err (At (Passed limits.Depth t.token.at))) else Err (At (misfit t.token))

token_other : (load : ℕ) (p : Piece → Bool) (l : ℕ) (t : Piece) (ts : List Piece) → p t ≡ false → read_token load p l (t ∷ ts) ≡ Err (At (misfit t.token))
unfolding read_token
token_other load p l t ts e = λ i. if e i then (if nat_le load l then Ok (t, ts) else Err (At (Passed limits.Depth t.token.at))) else Err (At (misfit t.token))

token_end : (load : ℕ) (p : Piece → Bool) (l : ℕ) → read_token load p l [] ≡ Err Ended
unfolding read_token
token_end load p l = refl

module _ (load : ℕ) (p : Piece → Bool) where
  token-sound : (l : ℕ) (ts : List Piece) (x : Piece) (rest : List Piece) → (token load p).read l ts ≡ Ok (x, rest) → Wholes (token load p) l ts x rest
  token-sound l [] x rest e = let h = token_end load p l in absurd (cc)
  token-sound l (t ∷ ts) x rest e =
      elim (taken load p l t ts) [
        | Fits e1 h e2 ↦
            let q = ok_both t x ts rest (sym e2 ∙ e) in
            record { tree = t ∷ []; split = ap (λ (s : List Piece). t ∷ s) q.1; whole = (ap (λ (z : Piece). z ∷ []) q.0, ap p (sym q.0) ∙ e1, h) }
        | Heavy e1 h e2 ↦ absurd (cc)
        | Other e1 e2 ↦ absurd (cc)
      ]

  token-complete : (l : ℕ) (us rest : List Piece) (x : Piece) → (token load p).whole l us rest x → (token load p).read l (us ++ rest) ≡ Ok (x, rest)
  token-complete l us rest x w = ap (λ (s : List Piece). read_token load p l (s ++ rest)) w.0 ∙ token_fits load p l x rest w.1 w.2

  token-begun : (l : ℕ) (ts : List Piece) → (token load p).front l ts → Finished ((token load p).read l ts)
  token-begun l ts (inl e) = Ends (ap (λ (s : List Piece). read_token load p l s) e ∙ token_end load p l)
  token-begun l ts (inr k) = Gives k.0 (ap (λ (s : List Piece). read_token load p l s) k.1 ∙ token_fits load p l k.0 [] k.2 k.3)

  token-ended : (l : ℕ) (ts : List Piece) → (token load p).read l ts ≡ Err Ended → (token load p).front l ts
  token-ended l [] e = inl refl
  token-ended l (t ∷ ts) e =
      elim (taken load p l t ts) [
        | Fits e1 h e2 ↦ absurd (cc)
        | Heavy e1 h e2 ↦ absurd (cc)
        | Other e1 e2 ↦ absurd (cc)
      ]

  token-ahead : (l : ℕ) (us : List Piece) (t : Piece) (rest rest' : List Piece) (x : Piece) → (token load p).read l (us ++ t ∷ rest) ≡ Ok (x, t ∷ rest) → (token load p).read l (us ++ t ∷ rest') ≡ Ok (x, t ∷ rest')
  token-ahead l [] t rest rest' x e =
      elim (taken load p l t rest) [
        | Fits e1 h e2 ↦
            let q = ok_both t x rest (t ∷ rest) (sym e2 ∙ e) in
            let never : t ∷ [] ≡ [] = self_alone (t ∷ []) rest (sym q.1) in
            absurd (cc)
        | Heavy e1 h e2 ↦ absurd (cc)
        | Other e1 e2 ↦ absurd (cc)
      ]
  token-ahead l (u ∷ us) t rest rest' x e =
      elim (taken load p l u (us ++ t ∷ rest)) [
        | Fits e1 h e2 ↦
            let q = ok_both u x (us ++ t ∷ rest) (t ∷ rest) (sym e2 ∙ e) in
            token_fits load p l u (us ++ t ∷ rest') e1 h ∙ (λ i. Ok (q.0 i, self_alone us (t ∷ rest) q.1 i ++ t ∷ rest'))
        | Heavy e1 h e2 ↦ absurd (cc)
        | Other e1 e2 ↦ absurd (cc)
      ]

  token-stops : {requires : Bool} (l : ℕ) (ts : List Piece) (r : Refusal) → (token load p).read l ts ≡ Err (At r) → Refuses requires (token load p) l ts r
  token-stops l [] r e = let h = token_end load p l in absurd (cc)
  token-stops l (t ∷ ts) r e =
      elim (taken load p l t ts) [
        | Fits e1 h e2 ↦ absurd (cc)
        | Heavy e1 h e2 ↦
            let q : r ≡ Passed limits.Depth t.token.at = cc in
            record {
              front = [];
              next = t;
              behind = ts;
              split = refl;
              begun = inl refl;
              always = λ rest. token_heavy load p l t rest e1 h ∙ ap (λ (z : Refusal). Err (At z)) (sym q);
              why = Passes load (omega arith) q (inr (t, refl, e1, le_refl load));
            }
        | Other e1 e2 ↦
            let q : r ≡ misfit t.token = cc in
            record {
              front = [];
              next = t;
              behind = ts;
              split = refl;
              begun = inl refl;
              always = λ rest. token_other load p l t rest e1 ∙ ap (λ (z : Refusal). Err (At z)) (sym q);
              why = Misfits q;
            }
      ]

  token-spent : (l : ℕ) (ts vs : List Piece) → (token load p).read l ts ≡ Err Exhausted → (token load p).read l (ts ++ vs) ≡ Err Exhausted
  token-spent l [] vs e = let h = token_end load p l in absurd (cc)
  token-spent l (t ∷ ts) vs e =
      elim (taken load p l t ts) [
        | Fits e1 h e2 ↦ absurd (cc)
        | Heavy e1 h e2 ↦ absurd (cc)
        | Other e1 e2 ↦ absurd (cc)
      ]

  token-widens : (l l' : ℕ) (ts : List Piece) → l ≤ l' → Widened ((token load p).read l ts) ((token load p).read l' ts)
  token-widens l l' [] h = Wide (token_end load p l' ∙ sym (token_end load p l))
  token-widens l l' (t ∷ ts) h =
      elim (taken load p l t ts) [
        | Fits e1 k e2 ↦ Wide (token_fits load p l' t ts e1 (omega arith) ∙ sym e2)
        | Heavy e1 k e2 ↦ Deep t.token.at e2
        | Other e1 e2 ↦ Wide (token_other load p l' t ts e1 ∙ sym e2)
      ]

  pub token-Lawful : {requires : Bool} → Lawful requires (token load p)
  token-Lawful = record {
    starts = λ l. inl refl;
    sound = token-sound;
    complete = token-complete;
    whole_front = λ l us rest x w. inr (x, w.0, w.1, w.2);
    begun = token-begun;
    ended = token-ended;
    ahead = token-ahead;
    stops = token-stops;
    spent = token-spent;
    widens = token-widens;
  }

-- ---- one token at least

-- what is read takes a token at least
pub record Takes {A : Type 0} (p : Production A) : Type 0 where
  pub takes : (l : ℕ) (ts : List Piece) (x : A) (rest : List Piece) → p.read l ts ≡ Ok (x, rest) → length rest < length ts

pub token-Takes : (load : ℕ) (p : Piece → Bool) → Takes (token load p)
token-Takes load p = record { takes = takes }
  where
    takes : (l : ℕ) (ts : List Piece) (x : Piece) (rest : List Piece) → (token load p).read l ts ≡ Ok (x, rest) → length rest < length ts
    takes l [] x rest e = let h = token_end load p l in absurd (cc)
    takes l (t ∷ ts) x rest e =
        elim (taken load p l t ts) [
          | Fits e1 h e2 ↦ let q = ok_both t x ts rest (sym e2 ∙ e) in omega (arith, ap (λ (s : List Piece). length s) q.1)
          | Heavy e1 h e2 ↦ absurd (cc)
          | Other e1 e2 ↦ absurd (cc)
        ]

-- a production takes pieces away, and adds none
lawful_length : {requires : Bool} {A : Type 0} {p : Production A} → Lawful requires p → (l : ℕ) (ts : List Piece) (x : A) (rest : List Piece) → p.read l ts ≡ Ok (x, rest) → length rest ≤ length ts
lawful_length hp l ts x rest e =
    let s = hp.sound l ts x rest e in
    omega (arith, ap (λ (z : List Piece). length z) s.split, length-append s.tree rest)

pub then-Takes : {requires : Bool} {A B : Type 0} {p : Production A} {f : A → Production B} → Takes p → ((x : A) → Lawful requires (f x)) → Takes (p >>= f)
then-Takes {p} {f} tp hf = record {
  takes = λ l ts y rest e. elim (then_cases p f l ts (Ok (y, rest)) e) [
    | Failed s e1 e2 ↦ absurd (cc)
    | Went x r e1 e2 ↦ omega (arith, tp.takes l ts x r e1, lawful_length (hf x) l r y rest e2)
  ];
}

-- ---- again and again

pub times-Lawful : {requires : Bool} {A : Type 0} (n : ℕ) (p : Piece → Bool) (step : A → Production A) (x : A) → ((y : A) → Lawful requires (step y)) → Lawful requires (times n p step x)
times-Lawful zero p step x hs = closed-Lawful
times-Lawful (suc n) p step x hs = when-Lawful p (then-Lawful (hs x) (λ y. times-Lawful n p step y hs)) (give-Lawful x)

pub finished_further : {A : Type 0} {low high : Reading A} → Agrees low high → Finished low → Finished high
finished_further (Spent e) (Ends f) = absurd (cc)
finished_further (Spent e) (Gives x f) = absurd (cc)
finished_further (Same e) (Ends f) = Ends (e ∙ f)
finished_further (Same e) (Gives x f) = Gives x (e ∙ f)
finished_further (Further y e g) (Ends f) = Gives y g
finished_further (Further y e g) (Gives x f) = absurd (cc)

pub ok_further : {A : Type 0} {low high : Reading A} → Agrees low high → (x : A) (rest : List Piece) → low ≡ Ok (x, rest) → high ≡ Ok (x, rest)
ok_further (Spent e) x rest f = absurd (cc)
ok_further (Same e) x rest f = e ∙ f
ok_further (Further y e g) x rest f = absurd (cc)

pub at_further : {A : Type 0} {low high : Reading A} → Agrees low high → (r : Refusal) → low ≡ Err (At r) → high ≡ Err (At r)
at_further (Spent e) r f = absurd (cc)
at_further (Same e) r f = e ∙ f
at_further (Further y e g) r f = absurd (cc)

pub agrees_as : {A : Type 0} {low high low' high' : Reading A} → low' ≡ low → high' ≡ high → Agrees low high → Agrees low' high'
agrees_as d e (Spent f) = Spent (d ∙ f)
agrees_as d e (Same f) = Same (e ∙ f ∙ sym d)
agrees_as d e (Further x f g) = Further x (d ∙ f) (e ∙ g)

further_end : {A : Type 0} {low high : Reading A} → low ≡ Err Ended → Finished high → Agrees low high
further_end e (Ends f) = Same (f ∙ sym e)
further_end e (Gives x f) = Further x e f

then_agrees : {A B : Type 0} (p q : Production A) (f g : A → Production B) (l : ℕ) (ts : List Piece)
    → Agrees (p.read l ts) (q.read l ts)
    → ((x : A) (r : List Piece) → p.read l ts ≡ Ok (x, r) → Agrees ((f x).read l r) ((g x).read l r))
    → ((x : A) → Finished ((g x).read l []))
    → Agrees ((p >>= f).read l ts) ((q >>= g).read l ts)
then_agrees p q f g l ts (Spent e) h k = Spent (then_stopped p f l ts Exhausted e)
then_agrees p q f g l ts (Same e) h k =
    elim (then_cases p f l ts ((p >>= f).read l ts) refl) [
      | Failed s e1 e2 ↦ Same (then_stopped q g l ts s (e ∙ e1) ∙ sym e2)
      | Went x r e1 e2 ↦ agrees_as (sym e2) (then_read q g l ts x r (e ∙ e1)) (h x r e1)
    ]
then_agrees p q f g l ts (Further x e d) h k =
    agrees_as refl (then_read q g l ts x [] d) (further_end (then_stopped p f l ts Ended e) (k x))

then_alike : {A B : Type 0} (p : Production A) (f g : A → Production B) (l : ℕ) (ts : List Piece)
    → ((x : A) (r : List Piece) → p.read l ts ≡ Ok (x, r) → (f x).read l r ≡ (g x).read l r) → (p >>= f).read l ts ≡ (p >>= g).read l ts
then_alike p f g l ts h =
    elim (then_cases p f l ts ((p >>= f).read l ts) refl) [
      | Failed s e1 e2 ↦ e2 ∙ sym (then_stopped p g l ts s e1)
      | Went x r e1 e2 ↦ sym e2 ∙ h x r e1 ∙ sym (then_read p g l ts x r e1)
    ]

pub when_true : {A : Type 0} (p : Piece → Bool) (a b : Production A) (l : ℕ) (ts : List Piece) → begins p ts ≡ true → (when p a b).read l ts ≡ a.read l ts
when_true p a b l ts e = ap (λ (c : Bool). if c then a.read l ts else b.read l ts) e

pub when_false : {A : Type 0} (p : Piece → Bool) (a b : Production A) (l : ℕ) (ts : List Piece) → begins p ts ≡ false → (when p a b).read l ts ≡ b.read l ts
when_false p a b l ts e = ap (λ (c : Bool). if c then a.read l ts else b.read l ts) e

pub either : (b : Bool) → (b ≡ true) ⊎ (b ≡ false)
either true = inl refl
either false = inr refl

pub when_agrees : {A : Type 0} (p : Piece → Bool) (a b a' b' : Production A) (l : ℕ) (ts : List Piece)
    → Agrees (a.read l ts) (a'.read l ts) → Agrees (b.read l ts) (b'.read l ts) → Agrees ((when p a b).read l ts) ((when p a' b').read l ts)
when_agrees p a b a' b' l ts h k =
    elim (either (begins p ts)) [
      | inl e ↦ agrees_as (when_true p a b l ts e) (when_true p a' b' l ts e) h
      | inr e ↦ agrees_as (when_false p a b l ts e) (when_false p a' b' l ts e) k
    ]

module _ {requires : Bool} {A : Type 0} (p : Piece → Bool) {step : A → Production A} (hs : (y : A) → Lawful requires (step y)) (ht : (y : A) → Takes (step y)) where
  -- more turns than there are pieces are enough
  fuel : (n m : ℕ) (x : A) (l : ℕ) (ts : List Piece) → length ts < m → Agrees ((times n p step x).read l ts) ((times m p step x).read l ts)
  unfolding begins read_closed
  fuel n zero x l ts h = absurd (omega arith)
  fuel zero (suc m) x l [] h = Further x refl refl
  fuel zero (suc m) x l (t ∷ ts) h = Spent refl
  fuel (suc n) (suc m) x l ts h =
      when_agrees p (step x >>= times n p step) (give x) (step x >>= times m p step) (give x) l ts
      (then_agrees (step x) (step x) (times n p step) (times m p step) l ts (Same refl)
      (λ y r e. let shorter = (ht x).takes l ts y r e in fuel n m y l r (omega arith))
      (λ y. finished (times-Lawful m p step y hs) l))
      (Same refl)

  -- ... and all such numbers are alike
  enough : (n m : ℕ) (x : A) (l : ℕ) (ts : List Piece) → length ts < n → length ts < m → (times n p step x).read l ts ≡ (times m p step x).read l ts
  enough zero m x l ts h k = absurd (omega arith)
  enough (suc n) zero x l ts h k = absurd (omega arith)
  enough (suc n) (suc m) x l ts h k =
      elim (either (begins p ts)) [
        | inl c ↦
            when_true p (step x >>= times n p step) (give x) l ts c
            ∙ then_alike (step x) (times n p step) (times m p step) l ts (λ y r e. let shorter = (ht x).takes l ts y r e in enough n m y l r (omega arith) (omega arith))
            ∙ sym (when_true p (step x >>= times m p step) (give x) l ts c)
        | inr c ↦ when_false p (step x >>= times n p step) (give x) l ts c ∙ sym (when_false p (step x >>= times m p step) (give x) l ts c)
      ]

  module _ (x : A) where
    repeat_lawful : (n : ℕ) → Lawful requires (times n p step x)
    repeat_lawful n = times-Lawful n p step x hs

    pub repeat_agrees : (n l : ℕ) (ts : List Piece) → Agrees ((times n p step x).read l ts) ((repeat p step x).read l ts)
    repeat_agrees n l ts = fuel n (suc (length ts)) x l ts (omega arith)

    repeat_why : (n l : ℕ) (us : List Piece) (t : Piece) (r : Refusal) → Why requires (times n p step x) l us t r → Why requires (repeat p step x) l us t r
    repeat_why n l us t r (Misfits e) = Misfits e
    repeat_why n l us t r (Unread w d e) = Unread w d e
    repeat_why n l us t r (Passes l' h e k) = Passes l' h e (n, k)

    repeat-sound : (l : ℕ) (ts : List Piece) (y : A) (rest : List Piece) → (repeat p step x).read l ts ≡ Ok (y, rest) → Wholes (repeat p step x) l ts y rest
    repeat-sound l ts y rest e =
        let s = (repeat_lawful (suc (length ts))).sound l ts y rest e in
        record { tree = s.tree; split = s.split; whole = (suc (length ts), s.whole) }

    repeat-stops : (l : ℕ) (ts : List Piece) (r : Refusal) → (repeat p step x).read l ts ≡ Err (At r) → Refuses requires (repeat p step x) l ts r
    repeat-stops l ts r e =
        let n = suc (length ts) in
        let w = (repeat_lawful n).stops l ts r e in
        record {
          front = w.front;
          next = w.next;
          behind = w.behind;
          split = w.split;
          begun = (n, w.begun);
          always = λ rest. at_further (repeat_agrees n l (w.front ++ w.next ∷ rest)) r (w.always rest);
          why = repeat_why n l w.front w.next r w.why;
        }

    pub repeat-Lawful : Lawful requires (repeat p step x)
    repeat-Lawful = record {
      starts = λ l. (zero, refl);
      sound = repeat-sound;
      complete = λ l us rest y w. ok_further (repeat_agrees w.0 l (us ++ rest)) y rest ((repeat_lawful w.0).complete l us rest y w.1);
      whole_front = λ l us rest y w. (w.0, (repeat_lawful w.0).whole_front l us rest y w.1);
      begun = λ l ts k. finished_further (repeat_agrees k.0 l ts) ((repeat_lawful k.0).begun l ts k.1);
      ended = λ l ts e. (suc (length ts), (repeat_lawful (suc (length ts))).ended l ts e);
      ahead = λ l us t rest rest' y e.
          let n = suc (length (us ++ t ∷ rest)) in
          ok_further (repeat_agrees n l (us ++ t ∷ rest')) y (t ∷ rest') ((repeat_lawful n).ahead l us t rest rest' y e);
      stops = repeat-stops;
      spent = λ l ts vs e.
          let n = suc (length (ts ++ vs)) in
          let long : length ts < n = omega (arith, length-append ts vs) in
          (repeat_lawful n).spent l ts vs (enough n (suc (length ts)) x l ts long (omega arith) ∙ e);
      widens = λ l l' ts h. (repeat_lawful (suc (length ts))).widens l l' ts h;
    }

-- ---- one production at two levels

pub same-Grows : {requires : Bool} {A : Type 0} {p : Production A} → Lawful requires p → Grows requires p p
same-Grows hp = record { low = hp; high = hp; agrees = λ l ts. Same refl }

pub give-Grows : {requires : Bool} {A : Type 0} (x : A) → Grows requires (give x) (give x)
give-Grows x = same-Grows (give-Lawful x)

pub token-Grows : {requires : Bool} (load : ℕ) (p : Piece → Bool) → Grows requires (token load p) (token load p)
token-Grows load p = same-Grows (token-Lawful load p)

pub then-Grows : {requires : Bool} {A B : Type 0} {p q : Production A} {f g : A → Production B} → Grows requires p q → ((x : A) → Grows requires (f x) (g x)) → Grows requires (p >>= f) (q >>= g)
then-Grows {p} {q} {f} {g} hp hf = record {
  low = then-Lawful hp.low (λ x. (hf x).low);
  high = then-Lawful hp.high (λ x. (hf x).high);
  agrees = λ l ts. then_agrees p q f g l ts (hp.agrees l ts) (λ x r e. (hf x).agrees l r) (λ x. finished (hf x).high l);
}

pub when-Grows : {requires : Bool} {A : Type 0} (p : Piece → Bool) {a b a' b' : Production A} → Grows requires a a' → Grows requires b b' → Grows requires (when p a b) (when p a' b')
when-Grows p {a} {b} {a'} {b'} ha hb = record {
  low = when-Lawful p ha.low hb.low;
  high = when-Lawful p ha.high hb.high;
  agrees = λ l ts. when_agrees p a b a' b' l ts (ha.agrees l ts) (hb.agrees l ts);
}

pub given-Grows : {requires : Bool} {A : Type 0} (c : Bool) {a b a' b' : Production A} → Grows requires a a' → Grows requires b b' → Grows requires (given c a b) (given c a' b')
given-Grows true ha hb = ha
given-Grows false ha hb = hb

pub closed-Grows : {requires : Bool} {A : Type 0} {q : Production A} → Lawful requires q → Grows requires closed q
closed-Grows {A} {q} hq = record { low = closed-Lawful; high = hq; agrees = agrees }
  where
    agrees : (l : ℕ) (ts : List Piece) → Agrees ((closed {A = A}).read l ts) (q.read l ts)
    agrees l [] = further_end (read_closed_end l) (finished hq l)
    agrees l (t ∷ ts) = Spent (read_closed_spent l t ts)

module _ {requires : Bool} {A : Type 0} (p : Piece → Bool) {step step' : A → Production A} (hs : (y : A) → Grows requires (step y) (step' y)) where
  times_agrees : (n : ℕ) (x : A) (l : ℕ) (ts : List Piece) → Agrees ((times n p step x).read l ts) ((times n p step' x).read l ts)
  times_agrees zero x l ts = Same refl
  times_agrees (suc n) x l ts =
      when_agrees p (step x >>= times n p step) (give x) (step' x >>= times n p step') (give x) l ts
      (then_agrees (step x) (step' x) (times n p step) (times n p step') l ts ((hs x).agrees l ts)
      (λ y r e. times_agrees n y l r)
      (λ y. finished (times-Lawful n p step' y (λ z. (hs z).high)) l))
      (Same refl)

  pub repeat-Grows : (low : (y : A) → Takes (step y)) (high : (y : A) → Takes (step' y)) (x : A) → Grows requires (repeat p step x) (repeat p step' x)
  repeat-Grows low high x = record {
    low = repeat-Lawful p (λ y. (hs y).low) low x;
    high = repeat-Lawful p (λ y. (hs y).high) high x;
    agrees = λ l ts. times_agrees (suc (length ts)) x l ts;
  }

-- ---- a production that begins with a token, at two levels

pub record Steps (requires : Bool) {A : Type 0} (p q : Production A) : Type 0 where
  pub grows : Grows requires p q
  pub low : Takes p
  pub high : Takes q

pub token-Steps : {requires : Bool} {A : Type 0} (load : ℕ) (p : Piece → Bool) {f g : Piece → Production A} → ((x : Piece) → Grows requires (f x) (g x)) → Steps requires (token load p >>= f) (token load p >>= g)
token-Steps load p hf = record {
  grows = then-Grows (token-Grows load p) hf;
  low = then-Takes (token-Takes load p) (λ x. (hf x).low);
  high = then-Takes (token-Takes load p) (λ x. (hf x).high);
}

pub turns-Grows : {requires : Bool} {A : Type 0} (p : Piece → Bool) {step step' : A → Production A} → ((y : A) → Steps requires (step y) (step' y)) → (x : A) → Grows requires (repeat p step x) (repeat p step' x)
turns-Grows p hs x = repeat-Grows p (λ y. (hs y).grows) (λ y. (hs y).low) (λ y. (hs y).high) x

-- a value is read only where the load is within the limit
pub record Costs {A : Type 0} (limit load : ℕ) (p : Production A) : Type 0 where
  pub costs : (ts : List Piece) (x : A) (rest : List Piece) → p.read limit ts ≡ Ok (x, rest) → load ≤ limit

alone-Costs : (limit load : ℕ) (p : Piece → Bool) → Costs limit load (token load p)
alone-Costs limit load p = record { costs = λ ts x rest e. (token-sound load p limit ts x rest e).whole.2 }

pub token-Costs : {B : Type 0} (limit load : ℕ) (p : Piece → Bool) (f : Piece → Production B) → Costs limit load (token load p >>= f)
token-Costs limit load p f = record {
  costs = λ ts y rest e. elim (then_cases (token load p) f limit ts (Ok (y, rest)) e) [
    | Failed s e1 e2 ↦ absurd (cc)
    | Went x r e1 e2 ↦ (token-sound load p limit ts x r e1).whole.2
  ];
}

-- ---- what is never exhausted under a limit, and reads alike at two levels

pub record Firm {A : Type 0} (limit : ℕ) (p q : Production A) : Type 0 where
  pub firm : (ts : List Piece) → p.read limit ts ≡ Err Exhausted → ⊥
  pub settled : (ts : List Piece) → q.read limit ts ≡ p.read limit ts

then_firm : {A B : Type 0} (limit : ℕ) (p : Production A) (f : A → Production B) (ts : List Piece) → (p.read limit ts ≡ Err Exhausted → ⊥)
    → ((x : A) (r : List Piece) → p.read limit ts ≡ Ok (x, r) → (f x).read limit r ≡ Err Exhausted → ⊥)
    → (p >>= f).read limit ts ≡ Err Exhausted → ⊥
then_firm limit p f ts h k e =
    elim (then_cases p f limit ts (Err Exhausted) e) [
      | Failed s e1 e2 ↦ let q : s ≡ Exhausted = cc in h (e1 ∙ ap (λ (z : Stopped). Err z) q)
      | Went x r e1 e2 ↦ k x r e1 e2
    ]

then_settled : {A B : Type 0} (limit : ℕ) (p q : Production A) (f g : A → Production B) (ts : List Piece) → q.read limit ts ≡ p.read limit ts
    → ((x : A) (r : List Piece) → p.read limit ts ≡ Ok (x, r) → (g x).read limit r ≡ (f x).read limit r)
    → (q >>= g).read limit ts ≡ (p >>= f).read limit ts
then_settled limit p q f g ts h k =
    elim (then_cases p f limit ts ((p >>= f).read limit ts) refl) [
      | Failed s e1 e2 ↦ then_stopped q g limit ts s (h ∙ e1) ∙ sym e2
      | Went x r e1 e2 ↦ then_read q g limit ts x r (h ∙ e1) ∙ k x r e1 ∙ e2
    ]

pub costly-Firm : {A B : Type 0} {limit load : ℕ} {p q : Production A} {f g : A → Production B} → Firm limit p q → Costs limit load p → (load ≤ limit → (x : A) → Firm limit (f x) (g x)) → Firm limit (p >>= f) (q >>= g)
costly-Firm {limit} {p} {q} {f} {g} hp k hf = record {
  firm = λ ts e. then_firm limit p f ts (hp.firm ts) (λ x r d. (hf (k.costs ts x r d) x).firm r) e;
  settled = λ ts. then_settled limit p q f g ts (hp.settled ts) (λ x r d. (hf (k.costs ts x r d) x).settled r);
}

module _ (limit : ℕ) where
  pub give-Firm : {A : Type 0} (x : A) → Firm limit (give x) (give x)
  give-Firm x = record { firm = λ ts e. cc; settled = λ ts. refl }

  pub token-Firm : (load : ℕ) (p : Piece → Bool) → Firm limit (token load p) (token load p)
  token-Firm load p = record { firm = firm; settled = λ ts. refl }
    where
      firm : (ts : List Piece) → (token load p).read limit ts ≡ Err Exhausted → ⊥
      firm [] e = let h = token_end load p limit in cc
      firm (t ∷ ts) e =
          elim (taken load p limit t ts) [
            | Fits e1 h e2 ↦ cc
            | Heavy e1 h e2 ↦ cc
            | Other e1 e2 ↦ cc
          ]

  pub then-Firm : {A B : Type 0} {p q : Production A} {f g : A → Production B} → Firm limit p q → ((x : A) → Firm limit (f x) (g x)) → Firm limit (p >>= f) (q >>= g)
  then-Firm {p} {q} {f} {g} hp hf = record {
    firm = λ ts e. then_firm limit p f ts (hp.firm ts) (λ x r d. (hf x).firm r) e;
    settled = λ ts. then_settled limit p q f g ts (hp.settled ts) (λ x r d. (hf x).settled r);
  }

  -- behind a token whose load is within the limit
  pub behind-Firm : {B : Type 0} (load : ℕ) (p : Piece → Bool) {f g : Piece → Production B} → (load ≤ limit → (x : Piece) → Firm limit (f x) (g x)) → Firm limit (token load p >>= f) (token load p >>= g)
  behind-Firm load p hf = costly-Firm (token-Firm load p) (alone-Costs limit load p) hf

  pub when-Firm : {A : Type 0} (p : Piece → Bool) {a b a' b' : Production A} → Firm limit a a' → Firm limit b b' → Firm limit (when p a b) (when p a' b')
  when-Firm p {a} {b} {a'} {b'} ha hb = record {
    firm = λ ts e. elim (either (begins p ts)) [
      | inl c ↦ ha.firm ts (sym (when_true p a b limit ts c) ∙ e)
      | inr c ↦ hb.firm ts (sym (when_false p a b limit ts c) ∙ e)
    ];
    settled = λ ts. elim (either (begins p ts)) [
      | inl c ↦ when_true p a' b' limit ts c ∙ ha.settled ts ∙ sym (when_true p a b limit ts c)
      | inr c ↦ when_false p a' b' limit ts c ∙ hb.settled ts ∙ sym (when_false p a b limit ts c)
    ];
  }

  pub given-Firm : {A : Type 0} (c : Bool) {a b a' b' : Production A} → Firm limit a a' → Firm limit b b' → Firm limit (given c a b) (given c a' b')
  given-Firm true ha hb = ha
  given-Firm false ha hb = hb

  module _ {A : Type 0} (p : Piece → Bool) {step step' : A → Production A} (ht : (y : A) → Takes (step y)) (hf : (y : A) → Firm limit (step y) (step' y)) where
    times_firm : (n : ℕ) (x : A) (ts : List Piece) → length ts < n → (times n p step x).read limit ts ≡ Err Exhausted → ⊥
    times_firm zero x ts h e = omega arith
    times_firm (suc n) x ts h e =
        elim (either (begins p ts)) [
          | inl c ↦
              then_firm limit (step x) (times n p step) ts ((hf x).firm ts)
              (λ y r d. let shorter = (ht x).takes limit ts y r d in times_firm n y r (omega arith))
              (sym (when_true p (step x >>= times n p step) (give x) limit ts c) ∙ e)
          | inr c ↦ (give-Firm x).firm ts (sym (when_false p (step x >>= times n p step) (give x) limit ts c) ∙ e)
        ]

    times_settled : (n : ℕ) (x : A) (ts : List Piece) → (times n p step' x).read limit ts ≡ (times n p step x).read limit ts
    times_settled zero x ts = refl
    times_settled (suc n) x ts =
        elim (either (begins p ts)) [
          | inl c ↦
              when_true p (step' x >>= times n p step') (give x) limit ts c
              ∙ then_settled limit (step x) (step' x) (times n p step) (times n p step') ts ((hf x).settled ts) (λ y r d. times_settled n y r)
              ∙ sym (when_true p (step x >>= times n p step) (give x) limit ts c)
          | inr c ↦ when_false p (step' x >>= times n p step') (give x) limit ts c ∙ sym (when_false p (step x >>= times n p step) (give x) limit ts c)
        ]

    pub repeat-Firm : (x : A) → Firm limit (repeat p step x) (repeat p step' x)
    repeat-Firm x = record {
      firm = λ ts e. times_firm (suc (length ts)) x ts (omega arith) e;
      settled = λ ts. times_settled (suc (length ts)) x ts;
    }
