-- The laws of the grammar, of any production that is lawful at each level.
use Rattle.std.proofs.Common.{◌≡◌, ◌≤◌, ◌+◌, ◌⊎◌, inl, inr, ℕ, zero, suc, true, false, List, [], ◌∷◌, ◌++◌, length, Ok, Err, refl, sym, ap, ◌∙◌, subst, arith, true≢false, append_assoc, append-nil, eq-or-lt_of_le, length-append}
use Rattle.cx_base.specs.declared.place.Place.{Place}
use Rattle.cx_tokens.specs.Pieces.{Piece}
use Rattle.cx_syntax.specs.declared.stopped.Stopped.{Stopped}
use Rattle.cx_syntax.specs.declared.stopped.Stopped.TheVariants.{NoMemory, Ended, Exhausted, Fault, Deep}
use Rattle.cx_syntax.specs.States.{State, cut, grow, freed, misfit, Reading}
use Rattle.cx_syntax.specs.Productions.{Production}
use Rattle.cx_syntax_laws.specs.GrammarLaws.{Levelled, IsTreeWithin, IsTree, BeginsWithin, Begins, Farthest, Answers, Tree, Misfit, Passed, PassedBefore, Short, GrammarLaws}
use Rattle.cx_syntax_laws.proofs.Lawful.{grown, freed_reading, Open, Next, Opened, Stays, Misfits, TooDeep, Spent, Early, Shut, Late, Freed, Same, Deeper, Lawful}
use Rattle.cx_syntax_laws.proofs.Readings.{ok_value, open_as, Whole, Partial, ending}
use Rattle.cx_syntax_laws.proofs.Levels.{Grows, Agrees, Lower, Alike, Further, grows_itself}
use Rattle.cx_syntax_laws.proofs.Firm.{Firm, firm_token}
use Rattle.cx_syntax_laws.proofs.Tokens.{lawful_token}
use Rattle.cx_syntax.specs.declared.context.Context.{Context}
use Rattle.cx_syntax.specs.Productions.{Class, token}

-- A production at each level, where so many levels are enough.
pub record Lasting {A : Type 0} (least : ℕ) (p : Levelled A) : Type 0 where
  pub lawful : (n : ℕ) → Lawful true (p n)
  pub grows : (n : ℕ) → Grows (p n) (p (suc n))
  pub firm : (n : ℕ) → least ≤ n → Firm (p n) (p (suc n))

-- ---- readings

module _ {A : Type 0} where
  not_open : (r : Reading A) (e : Stopped) → r ≡ Err e → (e ≡ Ended → ⊥) → Open r → ⊥
  not_open (Ok q) e h n o = absurd (cc)
  not_open (Err Ended) e h n o = n (let w : e ≡ Ended = cc in w)
  not_open (Err NoMemory) e h n o = absurd o
  not_open (Err Exhausted) e h n o = absurd o
  not_open (Err (Fault k at)) e h n o = absurd o
  not_open (Err (Deep at)) e h n o = absurd o

  grown_open : (r : Reading A) (vs : List Piece) → Open (grown r vs) → Open r
  grown_open (Ok q) vs o = front_none q.1.left vs o
    where
      front_none : (us vs : List Piece) → us ++ vs ≡ [] → us ≡ []
      front_none [] vs e = refl
      front_none (u ∷ us) vs e = absurd (cc)
  grown_open (Err z) vs o = o

  freed_open : (r : Reading A) → Open r → Open (freed_reading r)
  freed_open (Ok q) o = o
  freed_open (Err z) o = o

  -- where there is no limit, what is read up to the end still is
  free_open : (r s : Reading A) → Freed r s → Open r → Open s
  free_open r s (Same e) o = open_as e (freed_open r o)
  free_open r s (Deeper at e) o = absurd (not_open r (Deep at) e (λ h. absurd (cc)) o)

-- of two beginnings of the same pieces one is the longer
longer : (us vs : List Piece) (t : Piece) (rest ws : List Piece) → us ++ t ∷ rest ≡ vs ++ ws → (length vs ≤ length us) ⊎ ((zs : List Piece) × (vs ≡ us ++ t ∷ zs))
longer us [] t rest ws e = inl (omega arith)
longer [] (v ∷ vs) t rest ws e = let w : t ≡ v = cc in inr (vs, ap (λ (z : Piece). z ∷ vs) (sym w))
longer (u ∷ us) (v ∷ vs) t rest ws e =
    let a : u ≡ v = cc in
    let b : us ++ t ∷ rest ≡ vs ++ ws = cc in
    elim (longer us vs t rest ws b) [
      | inl le ↦ inl (omega arith)
      | inr z ↦ inr (z.0, (λ i. sym a i ∷ z.1 i))
    ]

misfit_no_end : (t : Piece) → misfit t.token ≡ Ended → ⊥
unfolding misfit
misfit_no_end t e = cc

misfit_not_deep : (t : Piece) (at : Place) → misfit t.token ≡ Deep at → ⊥
unfolding misfit
misfit_not_deep t at e = cc

-- ---- one production

module _ {A : Type 0} {p : Production A} (h : Lawful true p) where
  -- the first of pieces that are read up to their end are read up to theirs
  first_open : (s : State) (vs : List Piece) → Open (p.read (grow s vs)) → Open (p.read s)
  first_open s vs o =
      elim (h.basic.ahead s vs) [
        | inl k ↦ k
        | inr e ↦ grown_open (p.read s) vs (open_as (sym e) o)
      ]

  -- where reading stops at a piece
  pub record Stop (s : State) (us : List Piece) (t : Piece) (rest : List Piece) : Type 0 where
    pub split : s.left ≡ us ++ t ∷ rest
    pub before : Open (p.read (cut s us))
    pub stopped : Open (p.read (cut s (us ++ t ∷ []))) → ⊥
    pub next : Next true us t (p.read (cut s us)) (p.read (cut s (us ++ t ∷ []))) (p.read (freed (cut s (us ++ t ∷ []))))
    pub reads : p.read s ≡ grown (p.read (cut s (us ++ t ∷ []))) rest

  pub data Walk (s : State) : Type 0 where
    AtEnd : Open (p.read s) → Walk s
    Stopped_at : (us : List Piece) (t : Piece) (rest : List Piece) → Stop s us t rest → Walk s

  open_or_not : (r : Reading A) → Open r ⊎ (Open r → ⊥)
  open_or_not (Ok q) = by_left q.1.left
    where
      by_left : (l : List Piece) → (l ≡ []) ⊎ (l ≡ [] → ⊥)
      by_left [] = inl refl
      by_left (y ∷ ts) = inr (λ e. absurd (cc))
  open_or_not (Err Ended) = inl tt
  open_or_not (Err NoMemory) = inr (λ o. absurd o)
  open_or_not (Err Exhausted) = inr (λ o. absurd o)
  open_or_not (Err (Fault k at)) = inr (λ o. absurd o)
  open_or_not (Err (Deep at)) = inr (λ o. absurd o)

  -- piece by piece from some that are read up to their end
  walks : (s : State) (us rest : List Piece) → s.left ≡ us ++ rest → Open (p.read (cut s us)) → Walk s
  walks s us [] e o = AtEnd (subst (λ (l : List Piece). Open (p.read (cut s l))) (sym (e ∙ append-nil us)) o)
  walks s us (t ∷ rest) e o =
      elim (open_or_not (p.read (cut s (us ++ t ∷ [])))) [
        | inl k ↦ walks s (us ++ t ∷ []) rest (e ∙ sym (append_assoc us (t ∷ []) rest)) k
        | inr n ↦ Stopped_at us t rest (record {
          split = e;
          before = o;
          stopped = n;
          next = h.next (cut s us) t o;
          reads = elim (h.basic.ahead (cut s (us ++ t ∷ [])) rest) [
            | inl k ↦ absurd (n k)
            | inr d ↦ ap (λ (l : List Piece). p.read (cut s l)) (e ∙ sym (append_assoc us (t ∷ []) rest)) ∙ d
          ];
        })
      ]

  pub walk : (s : State) → Walk s
  walk s = walks s [] s.left refl (h.basic.nothing (cut s []) refl)

-- ---- all levels

module _ {A : Type 0} {least : ℕ} {p : Levelled A} (h : Lasting least p) where
  agrees_open : {low high : Reading A} → Agrees low high → Open low → Open high
  agrees_open {low} (Lower e) o = absurd (not_open low Exhausted e (λ k. absurd (cc)) o)
  agrees_open (Alike e) o = open_as e o
  agrees_open (Further e k) o = k

  agrees_value : {low high : Reading A} → Agrees low high → (x : A) (t : State) → low ≡ Ok (x, t) → high ≡ Ok (x, t)
  agrees_value (Lower e) x t k = absurd (cc)
  agrees_value (Alike e) x t k = e ∙ k
  agrees_value (Further e o) x t k = absurd (cc)

  open_up : (n m : ℕ) → n ≤ m → (s : State) → Open ((p n).read s) → Open ((p m).read s)
  open_up n zero le s o = let e : n ≡ zero = omega arith in subst (λ (k : ℕ). Open ((p k).read s)) e o
  open_up n (suc m) le s o =
      elim (eq-or-lt_of_le le) [
        | inl e ↦ subst (λ (k : ℕ). Open ((p k).read s)) e o
        | inr lt ↦ agrees_open ((h.grows m).agrees s) (open_up n m (omega arith) s o)
      ]

  value_up : (n m : ℕ) → n ≤ m → (s t : State) (x : A) → (p n).read s ≡ Ok (x, t) → (p m).read s ≡ Ok (x, t)
  value_up n zero le s t x d = let e : n ≡ zero = omega arith in subst (λ (k : ℕ). (p k).read s ≡ Ok (x, t)) e d
  value_up n (suc m) le s t x d =
      elim (eq-or-lt_of_le le) [
        | inl e ↦ subst (λ (k : ℕ). (p k).read s ≡ Ok (x, t)) e d
        | inr lt ↦ agrees_value ((h.grows m).agrees s) x t (value_up n m (omega arith) s t x d)
      ]

  firm_up : (n m : ℕ) → least ≤ n → n ≤ m → (s : State) → s.free ≡ false → (p m).read s ≡ (p n).read s
  firm_up n zero enough le s o = let e : zero ≡ n = omega arith in ap (λ (k : ℕ). (p k).read s) e
  firm_up n (suc m) enough le s o =
      elim (eq-or-lt_of_le le) [
        | inl e ↦ ap (λ (k : ℕ). (p k).read s) (sym e)
        | inr lt ↦ ((h.firm m (omega arith)).at s o).same ∙ firm_up n m enough (omega arith) s o
      ]

  -- ---- beginnings and trees

  begins_at : (s : State) (us : List Piece) (n : ℕ) → Open ((p n).read (cut s us)) → BeginsWithin p s us
  begins_at s us n o = record { level = n; front = (h.lawful n).basic.ended (cut s us) o }

  begins_open : (s : State) (us : List Piece) (w : BeginsWithin p s us) → Open ((p w.level).read (cut s us))
  begins_open s us w = (h.lawful w.level).basic.begun (cut s us) w.front

  tree_read : (s : State) (us : List Piece) (x : A) (w : IsTreeWithin p s us x) → (p w.level).read (cut s us) ≡ Ok (x, w.after)
  tree_read s us x w = (h.lawful w.level).basic.complete (cut s us) w.after x w.whole

  one_tree : (s : State) (us : List Piece) (x y : A) → IsTreeWithin p s us x → IsTreeWithin p s us y → x ≡ y
  one_tree s us x y w v =
      let n = w.level + v.level in
      let a = value_up w.level n (omega arith) (cut s us) w.after x (tree_read s us x w) in
      let b = value_up v.level n (omega arith) (cut s us) v.after y (tree_read s us y v) in
      (ok_value x y w.after v.after (sym a ∙ b)).0

  trees_begin : (s : State) (us : List Piece) (x : A) → IsTreeWithin p s us x → BeginsWithin p s us
  trees_begin s us x w = begins_at s us w.level (open_as (tree_read s us x w) w.all)

  first_begin : (s : State) (us vs : List Piece) → BeginsWithin p s (us ++ vs) → BeginsWithin p s us
  first_begin s us vs w = begins_at s us w.level (first_open (h.lawful w.level) (cut s us) vs (begins_open s (us ++ vs) w))

  -- ---- what a reader answers

  module _ (s : State) (n : ℕ) (limited : s.free ≡ false) (enough : least ≤ n) where
    -- whatever is read at a greater level
    raised : (m : ℕ) (us : List Piece) → (p (n + m)).read (cut s us) ≡ (p n).read (cut s us)
    raised m us = firm_up n (n + m) enough (omega arith) (cut s us) limited

    -- no tree where none is read
    no_tree : (us : List Piece) → (p n).read (cut s us) ≡ Err Ended → (x : A) → IsTree p s us x → ⊥
    no_tree us e x w =
        let m = w.level in
        let v = value_up m (n + m) (omega arith) (freed (cut s us)) w.after x (tree_read (freed s) us x w) in
        elim ((h.lawful (n + m)).basic.unlimited (cut s us)) [
          | Same d ↦ let k : freed_reading ((p (n + m)).read (cut s us)) ≡ Err Ended = ap freed_reading (raised m us ∙ e) in absurd (cc)
          | Deeper at d ↦ let k = raised m us in absurd (cc)
        ]

    -- no beginning where reading stops for more than its depth
    no_begin : (us : List Piece) → (Open ((p n).read (cut s us)) → ⊥) → ((at : _) → (p n).read (cut s us) ≡ Err (Deep at) → ⊥) → Begins p s us → ⊥
    no_begin us closed shallow w =
        let m = w.level in
        let v = open_up m (n + m) (omega arith) (freed (cut s us)) (begins_open (freed s) us w) in
        elim ((h.lawful (n + m)).basic.unlimited (cut s us)) [
          | Same d ↦ closed (open_as (sym (raised m us)) (unfreed ((p (n + m)).read (cut s us)) (open_as (sym d) v)))
          | Deeper at d ↦ shallow at (sym (raised m us) ∙ d)
        ]
      where
        unfreed : (r : Reading A) → Open (freed_reading r) → Open r
        unfreed (Ok q) o = o
        unfreed (Err z) o = o

    -- no beginning with the limit where reading stops
    no_more : (us : List Piece) → (Open ((p n).read (cut s us)) → ⊥) → BeginsWithin p s us → ⊥
    no_more us closed b = closed (open_as (sym (raised b.level us)) (open_up b.level (n + b.level) (omega arith) (cut s us) (begins_open s us b)))

    farthest : (us : List Piece) (t : Piece) (rest : List Piece) → s.left ≡ us ++ t ∷ rest → Open ((p n).read (cut s us)) → (Begins p s (us ++ t ∷ []) → ⊥) → Farthest p s us (t ∷ rest)
    farthest us t rest e o stop = record {
      split = e;
      begins = begins_at (freed s) us n (free_open ((p n).read (cut s us)) ((p n).read (freed (cut s us))) ((h.lawful n).basic.unlimited (cut s us)) o);
      most = λ vs ws d w. by_length vs ws (sym e ∙ d) w;
    }
      where
        by_length : (vs ws : List Piece) → us ++ t ∷ rest ≡ vs ++ ws → Begins p s vs → length vs ≤ length us
        by_length vs ws d w =
            elim (longer us vs t rest ws d) [
              | inl le ↦ le
              | inr z ↦ absurd (stop (first_begin (freed s) (us ++ t ∷ []) z.0 (subst (λ (l : List Piece). Begins p s l) (z.1 ∙ sym (append_assoc us (t ∷ []) z.0)) w)))
            ]

    at_stop : (us : List Piece) (t : Piece) (rest : List Piece) → Stop (h.lawful n) s us t rest → Answers p s ((p n).read s)
    at_stop us t rest w =
        elim w.next [
          | Opened o ↦ absurd (w.stopped o)
          | Stays x u e l k ↦ Tree us (t ∷ rest) x
              (farthest us t rest w.split w.before (no_begin (us ++ t ∷ []) w.stopped (λ at d. absurd (cc))))
              (record { level = n; after = u; whole = (h.lawful n).basic.sound (cut s us) u x e; all = l })
              (w.reads ∙ ap (λ (r : Reading A). grown r rest) k ∙ ap (λ (v : List Piece). Ok (x, cut u ((v ++ t ∷ []) ++ rest))) l)
          | Misfits e k ↦ Misfit us t rest (w.reads ∙ ap (λ (r : Reading A). grown r rest) k)
              (farthest us t rest w.split w.before (no_begin (us ++ t ∷ []) w.stopped (λ at d. misfit_not_deep t at (let m : ◌≡◌ {A = Reading A} (Err (misfit t.token)) (Err (Deep at)) = sym k ∙ d in cc))))
              (begins_at s us n w.before)
              (no_tree us e)
          | TooDeep k o ↦ Passed us t rest (w.reads ∙ ap (λ (r : Reading A). grown r rest) k) w.split (begins_at s us n w.before) (begins_at (freed s) (us ++ t ∷ []) n o)
              (no_more (us ++ t ∷ []) w.stopped)
          | Spent k ↦ absurd (((h.firm n enough).at (cut s (us ++ t ∷ [])) limited).spared k)
          | Early m e x u l k ↦ absurd (true≢false m)
          | Shut m x u e l k ↦ absurd (true≢false m)
          | Late vs v l d e k ↦
              let whole : us ++ t ∷ [] ≡ vs ++ v ∷ t ∷ [] = ap (λ (z : List Piece). z ++ t ∷ []) l ∙ append_assoc vs (v ∷ []) (t ∷ []) in
              PassedBefore vs v t rest (w.reads ∙ ap (λ (r : Reading A). grown r rest) k) (w.split ∙ ap (λ (z : List Piece). z ++ t ∷ rest) l ∙ append_assoc vs (v ∷ []) (t ∷ rest)) d
              (subst (λ (z : List Piece). BeginsWithin p s z) l (begins_at s us n w.before))
              (λ b. no_more (us ++ t ∷ []) w.stopped (subst (λ (z : List Piece). BeginsWithin p s z) (sym whole) b))
              (λ x i. no_tree us e x (subst (λ (z : List Piece). IsTree p s z x) (sym l) i))
        ]

    farthest_all : Open ((p n).read s) → Farthest p s s.left []
    farthest_all o = record {
      split = sym (append-nil s.left);
      begins = begins_at (freed s) s.left n (free_open ((p n).read s) ((p n).read (freed s)) ((h.lawful n).basic.unlimited s) o);
      most = λ vs ws d w. let l : length (vs ++ ws) ≡ length vs + length ws = length-append vs ws in let k : length s.left ≡ length (vs ++ ws) = ap length d in omega arith;
    }

    at_end : Open ((p n).read s) → Answers p s ((p n).read s)
    at_end o =
        elim (ending ((p n).read s) o) [
          | Whole x u e l ↦ Tree s.left [] x (farthest_all o) (record { level = n; after = u; whole = (h.lawful n).basic.sound s u x e; all = l })
              (e ∙ ap (λ (v : List Piece). Ok (x, cut u v)) l)
          | Partial e ↦ Short e (begins_at s s.left n o) (no_tree s.left e)
        ]

    answered : Answers p s ((p n).read s)
    answered =
        elim (walk (h.lawful n) s) [
          | AtEnd o ↦ at_end o
          | Stopped_at us t rest w ↦ at_stop us t rest w
        ]

  pub grammar_laws : GrammarLaws least p
  grammar_laws = record {
    one_tree = λ s us x y w v. one_tree (freed s) us x y w v;
    none_begin = λ s. begins_at (freed s) [] zero ((h.lawful zero).basic.nothing (cut (freed s) []) refl);
    trees_begin = λ s us x w. trees_begin (freed s) us x w;
    first_begin = λ s us vs w. first_begin (freed s) us vs w;
    answers = λ s n limited enough. answered s n limited enough;
  }

-- One piece of a class.
pub token_laws : (c : Context) (q : Class) → GrammarLaws 0 (λ level. token c q)
token_laws c q = grammar_laws (record { lawful = λ n. lawful_token c q true; grows = λ n. grows_itself (lawful_token c q true); firm = λ n e. firm_token c q })
