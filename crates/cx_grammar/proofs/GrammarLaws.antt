-- The laws of the grammar, of a family of productions that is lawful at each level.
use Rattle.std.proofs.Common.{Bool, inl, inr, ◌≡◌, ℕ, zero, suc, ◌+◌, ◌≤◌, List, [], ◌∷◌, ◌++◌, length, Ok, Err, refl, sym, ap, ◌∙◌, subst, append-nil, append_assoc, arith}
use Rattle.std.proofs.lemmas.List.{append_cancel_right}
use Rattle.cx_base.specs.Refusal.{Refusal, Passed, Refused}
use Rattle.cx_base.specs.declared.fault.Fault.{Fault as FaultRecord}
use Rattle.cx_base.specs.declared.limit.Limit.TheVariants as limits
use Rattle.cx_lexer.specs.Tokens.{TokenTree}
use Rattle.cx_grammar.specs.Pieces.{Piece}
use Rattle.cx_grammar.specs.Words.{misfit}
use Rattle.cx_grammar.specs.Names.{Context}
use Rattle.cx_grammar.specs.Production.{Production, Ended, Exhausted, At}
use Rattle.cx_grammar.specs.Types.{type_id}
use Rattle.cx_grammar.specs.Expressions.{levels, expr, clause}
use Rattle.cx_grammar.specs.Statements.{stmt}
use Rattle.cx_grammar.specs.Declarations.{decl, unit, unit_levels}
use Rattle.cx_grammar.proofs.UnitFilled.{levels-Filled}
use Rattle.cx_grammar.proofs.UnitGrows.{unit_levels-Grows, stmt-Grows, decl-Grows, unit-Grows}
use Rattle.cx_grammar.proofs.UnitFirm.{More, unit_levels-Firm, stmt-Firm, decl-Firm, unit-Firm}
use Rattle.cx_grammar.proofs.UnitAlone.{unit_levels-Alone, stmt-Alone, decl-Alone, unit-Alone}
use Rattle.cx_grammar.proofs.EvenExpressions.{levels-Even, expr-Even, type_id-Even, clause-Even}
use Rattle.cx_grammar.proofs.EvenUnits.{unit_levels-Even, stmt-Even, decl-Even, unit-Even}
use Rattle.cx_grammar.proofs.WholeTokens.{even_tokens}
use Rattle.cx_grammar.specs.Laws.{WholeTokens, Levelled, BeginsWithin, IsTree, Begins, Farthest, IsFaultAt, Answers, Tree, Fault, TooDeep, Short, GrammarLaws}
use Rattle.cx_grammar.proofs.Lawful.{Reading, Lawful, Finished, Ends, Gives, Why, Misfits, Unread, Passes, Refuses, Widened, Wide, Deep, Agrees, Spent, Same, Further, Grows}
use Rattle.cx_grammar.proofs.Combinators.{Firm, ok_both, same-Grows, whole_wider, ok_further, at_further, finished_further, not_at, not_before, not_spent}
use Rattle.cx_grammar.proofs.Alone.{Alone, Stays, On}
use Rattle.cx_grammar.proofs.Types.{type_id-Grows}
use Rattle.cx_grammar.proofs.Expressions.{levels-Grows, expr-Grows, clause-Grows}
use Rattle.cx_grammar.proofs.FirmTypes.{Enough, type_id-Firm}
use Rattle.cx_grammar.proofs.FirmExpressions.{levels-Firm, expr-Firm, clause-Firm}
use Rattle.cx_grammar.proofs.AloneTypes.{type_id-Alone}
use Rattle.cx_grammar.proofs.AloneExpressions.{levels-Alone, expr-Alone, clause-Alone}

-- ---- trees and beginnings at greater levels, and under greater limits

front_at_end : {requires : Bool} {A : Type 0} {p : Production A} → Lawful requires p → (l : ℕ) (us : List Piece) → Finished (p.read l us) → p.front l us
front_at_end hp l us (Ends e) = hp.ended l us e
front_at_end {p} hp l us (Gives x e) =
    let s = hp.sound l us x [] e in
    subst (λ (z : List Piece). p.front l z) (sym (s.split ∙ append-nil s.tree)) (hp.whole_front l s.tree [] x s.whole)

front_up : {requires : Bool} {A : Type 0} {p q : Production A} → Grows requires p q → (l : ℕ) (us : List Piece) → p.front l us → q.front l us
front_up g l us k = front_at_end g.high l us (finished_further (g.agrees l us) (g.low.begun l us k))

whole_up : {requires : Bool} {A : Type 0} {p q : Production A} → Grows requires p q → (l : ℕ) (us rest : List Piece) (x : A) → p.whole l us rest x → q.whole l us rest x
whole_up {q} g l us rest x w =
    let s = g.high.sound l (us ++ rest) x rest (ok_further (g.agrees l (us ++ rest)) x rest (g.low.complete l us rest x w)) in
    subst (λ (u : List Piece). q.whole l u rest x) (append_cancel_right s.tree us rest (sym s.split)) s.whole

finished_over : {A : Type 0} {low high : Reading A} → Widened low high → Finished low → Finished high
finished_over (Wide e) (Ends f) = Ends (e ∙ f)
finished_over (Wide e) (Gives x f) = Gives x (e ∙ f)
finished_over (Deep at e) (Ends f) = absurd (cc)
finished_over (Deep at e) (Gives x f) = absurd (cc)

front_over : {requires : Bool} {A : Type 0} {p : Production A} → Lawful requires p → (l l' : ℕ) (us : List Piece) → l ≤ l' → p.front l us → p.front l' us
front_over hp l l' us h k = front_at_end hp l' us (finished_over (hp.widens l l' us h) (hp.begun l us k))

whole_over : {requires : Bool} {A : Type 0} {p : Production A} → Lawful requires p → (l l' : ℕ) (us rest : List Piece) (x : A) → l ≤ l' → p.whole l us rest x → p.whole l' us rest x
whole_over hp l l' us rest x h w = whole_wider hp l l' us rest x h (hp.complete l us rest x w)

-- ---- the first pieces of a beginning

pub front_first : {requires : Bool} {A : Type 0} (p : Production A) → Lawful requires p → (l : ℕ) (us vs : List Piece) → p.front l (us ++ vs) → p.front l us
front_first {A} p hp l us vs k = go (p.read l us) refl
  where
    end : Finished (p.read l (us ++ vs))
    end = hp.begun l (us ++ vs) k

    rests : (x : A) (rest : List Piece) → p.read l us ≡ Ok (x, rest) → p.front l us
    rests x [] e = front_at_end hp l us (Gives x e)
    rests x (t ∷ rest) e =
        let s = hp.sound l us x (t ∷ rest) e in
        let a = hp.ahead l s.tree t rest (rest ++ vs) x (ap (λ (z : List Piece). p.read l z) (sym s.split) ∙ e) in
        let here : us ++ vs ≡ s.tree ++ t ∷ (rest ++ vs) = ap (λ (z : List Piece). z ++ vs) s.split ∙ append_assoc s.tree (t ∷ rest) vs in
        absurd (not_before end x t (rest ++ vs) (ap (λ (z : List Piece). p.read l z) here ∙ a))

    go : (r : Reading A) → p.read l us ≡ r → p.front l us
    go (Ok x) e = rests x.0 x.1 e
    go (Err Ended) e = hp.ended l us e
    go (Err Exhausted) e = absurd (not_spent end (hp.spent l us vs e))
    go (Err (At q)) e =
        let w = hp.stops l us q e in
        let here : us ++ vs ≡ w.front ++ w.next ∷ (w.behind ++ vs) = ap (λ (z : List Piece). z ++ vs) w.split ∙ append_assoc w.front (w.next ∷ w.behind) vs in
        absurd (not_at end q (ap (λ (z : List Piece). p.read l z) here ∙ w.always (w.behind ++ vs)))

misfit_refused : (t : TokenTree) → (f : FaultRecord) × (misfit t ≡ Refused f)
unfolding misfit
misfit_refused t = (_, refl)

-- ---- readings behind which no piece can follow

data Blocked {A : Type 0} (r : Reading A) : Type 0 where
  Early : (x : A) (t : Piece) (rest : List Piece) → r ≡ Ok (x, t ∷ rest) → Blocked r
  Unfit : (f : FaultRecord) → r ≡ Err (At (Refused f)) → Blocked r

blocked_end : {A : Type 0} {r : Reading A} → Blocked r → Finished r → ⊥
blocked_end (Early x t rest e) f = not_before f x t rest e
blocked_end (Unfit q e) f = not_at f (Refused q) e

blocked_up : {A : Type 0} {low high : Reading A} → Agrees low high → Blocked low → Blocked high
blocked_up a (Early x t rest e) = Early x t rest (ok_further a x (t ∷ rest) e)
blocked_up a (Unfit q e) = Unfit q (at_further a (Refused q) e)

blocked_over : {A : Type 0} {low high : Reading A} → Widened low high → Blocked low → Blocked high
blocked_over (Wide d) (Early x t rest e) = Early x t rest (d ∙ e)
blocked_over (Wide d) (Unfit q e) = Unfit q (d ∙ e)
blocked_over (Deep at d) (Early x t rest e) = absurd (cc)
blocked_over (Deep at d) (Unfit q e) = absurd (cc)

-- ---- of two beginnings of one list one goes on with the other

data Longer (us rest vs ws : List Piece) : Type 0 where
  NoLonger : length vs ≤ length us → Longer us rest vs ws
  Goes_on : (t : Piece) (zs : List Piece) → rest ≡ t ∷ (zs ++ ws) → vs ≡ us ++ t ∷ zs → Longer us rest vs ws

longer_by : (u : Piece) (us rest vs ws : List Piece) → Longer us rest vs ws → Longer (u ∷ us) rest (u ∷ vs) ws
longer_by u us rest vs ws (NoLonger h) = NoLonger (omega arith)
longer_by u us rest vs ws (Goes_on t zs e d) = Goes_on t zs e (ap (λ (z : List Piece). u ∷ z) d)

longer : (us rest vs ws : List Piece) → us ++ rest ≡ vs ++ ws → Longer us rest vs ws
longer us rest [] ws e = NoLonger (omega arith)
longer [] rest (v ∷ vs) ws e = Goes_on v vs e refl
longer (u ∷ us) rest (v ∷ vs) ws e =
    let same : us ++ rest ≡ vs ++ ws = cc in
    let head : u ≡ v = cc in
    subst (λ (z : Piece). Longer (u ∷ us) rest (z ∷ vs) ws) head (longer_by u us rest vs ws (longer us rest vs ws same))

-- ---- levels

agrees_then : {A : Type 0} {r s t : Reading A} → Agrees r s → Agrees s t → Agrees r t
agrees_then (Spent e) b = Spent e
agrees_then (Same e) (Spent f) = Spent (sym e ∙ f)
agrees_then (Same e) (Same f) = Same (f ∙ e)
agrees_then (Same e) (Further x f g) = Further x (sym e ∙ f) g
agrees_then (Further x e d) (Spent f) = absurd (cc)
agrees_then (Further x e d) (Same f) = Further x e (f ∙ d)
agrees_then (Further x e d) (Further y f g) = absurd (cc)

-- so many levels more
abbrev raised : ℕ → ℕ → ℕ
raised zero m = m
raised (suc k) m = suc (raised k m)

raised-add : (k m : ℕ) → raised k m ≡ k + m
raised-add zero m = omega arith
raised-add (suc k) m = omega (arith, raised-add k m)

joined : (k m : ℕ) → raised k m ≡ raised m k
joined k m = omega (arith, raised-add k m, raised-add m k)

-- a production at each number of levels
pub record Lasting (requires : Bool) {A : Type 0} (load : ℕ) (p : Levelled A) : Type 0 where
  pub grows : (m : ℕ) → Grows requires (p m) (p (suc m))
  pub alone : (m : ℕ) → Alone requires (p m)
  pub firm : (limit m : ℕ) → limit + 2 ≤ m + load → 2 ≤ m → Firm limit (p m) (p (suc m))

module _ {requires : Bool} {A : Type 0} (load : ℕ) (Q : Levelled A) (lasting : Lasting requires load Q) where
  open lasting use {alone, firm}

  lawful : (m : ℕ) → Lawful requires (Q m)
  lawful m = (lasting.grows m).low

  climb : (k m : ℕ) → Grows requires (Q m) (Q (raised k m))
  climb zero m = same-Grows (lawful m)
  climb (suc k) m = record {
    low = lawful m;
    high = lawful (suc (raised k m));
    agrees = λ l ts. agrees_then ((climb k m).agrees l ts) ((lasting.grows (raised k m)).agrees l ts);
  }

  settled : (limit k m : ℕ) → limit + 2 ≤ m + load → 2 ≤ m → (ts : List Piece) → (Q (raised k m)).read limit ts ≡ (Q m).read limit ts
  settled limit zero m h o ts = refl
  settled limit (suc k) m h o ts =
      let up = raised-add k m in
      (firm limit (raised k m) (omega arith) (omega arith)).settled ts ∙ settled limit k m h o ts

  -- a tree and a beginning at the level and under the limit that two have in common
  whole_at : (k m l l' : ℕ) (us rest : List Piece) (x : A) → (Q m).whole l us rest x → (Q (raised k m)).whole (l + l') us rest x
  whole_at k m l l' us rest x w = whole_over (lawful (raised k m)) l (l + l') us rest x (omega arith) (whole_up (climb k m) l us rest x w)

  front_at : (k m l l' : ℕ) (us : List Piece) → (Q m).front l us → (Q (raised k m)).front (l + l') us
  front_at k m l l' us w = front_over (lawful (raised k m)) l (l + l') us (omega arith) (front_up (climb k m) l us w)

  blocked_at : (k m l l' : ℕ) (us : List Piece) → Blocked ((Q m).read l us) → Blocked ((Q (raised k m)).read (l + l') us)
  blocked_at k m l l' us b = blocked_over ((lawful (raised k m)).widens l (l + l') us (omega arith)) (blocked_up ((climb k m).agrees l us) b)

  moved : (F : ℕ → ℕ → Type 0) (k m l l' : ℕ) → F (raised k m) (l + l') → F (raised m k) (l' + l)
  moved F k m l l' w =
      let e : l + l' ≡ l' + l = omega arith in
      subst (λ (z : ℕ). F z (l' + l)) (joined k m) (subst (λ (z : ℕ). F (raised k m) z) e w)

  one_tree : (ts : List Piece) (x y : A) → IsTree Q ts x → IsTree Q ts y → x ≡ y
  one_tree ts x y (l, s) (l', t) =
      let m = s.level in
      let m' = t.level in
      let a = (lawful (raised m' m)).complete (l + l') ts [] x (whole_at m' m l l' ts [] x s.whole) in
      let b = (lawful (raised m m')).complete (l' + l) ts [] y (whole_at m m' l' l ts [] y t.whole) in
      let d : (Q (raised m' m)).read (l + l') (ts ++ []) ≡ Ok (y, []) = moved (λ (u v : ℕ). (Q u).read v (ts ++ []) ≡ Ok (y, [])) m m' l' l b in
      (ok_both x y [] [] (sym a ∙ d)).0

  no_begin : (m l : ℕ) (us : List Piece) → Blocked ((Q m).read l us) → Begins Q us → ⊥
  no_begin m l us b (l', k) =
      let m' = k.level in
      let f = moved (λ (u v : ℕ). (Q u).front v us) m m' l' l (front_at m m' l' l us k.front) in
      blocked_end (blocked_at m' m l l' us b) ((lawful (raised m' m)).begun (l + l') us f)

  farthest : (m l : ℕ) (ts us rest : List Piece) → ts ≡ us ++ rest → Begins Q us
      → ((t : Piece) (zs ws : List Piece) → rest ≡ t ∷ (zs ++ ws) → Blocked ((Q m).read l (us ++ t ∷ zs))) → Farthest Q ts us rest
  farthest m l ts us rest e b k = record {
    split = e;
    begins = b;
    most = λ vs ws d begins. go vs ws (longer us rest vs ws (sym e ∙ d)) begins;
  }
    where
      go : (vs ws : List Piece) → Longer us rest vs ws → Begins Q vs → length vs ≤ length us
      go vs ws (NoLonger h) begins = h
      go vs ws (Goes_on t zs d f) begins = absurd (no_begin m l (us ++ t ∷ zs) (k t zs ws d) (subst (λ (z : List Piece). Begins Q z) f begins))

  tree_alone : (m l : ℕ) (us rest : List Piece) (x : A) → (Q m).whole l us rest x → (Q m).whole l us [] x
  tree_alone m l us [] x w = w
  tree_alone m l us (t ∷ rest) x w = (alone m).alone l us t rest x w

  -- ---- what a reader answers

  answer_tree : (m l : ℕ) (ts : List Piece) (x : A) (rest : List Piece) → (Q m).read l ts ≡ Ok (x, rest) → Answers requires l Q ts ((Q m).read l ts)
  answer_tree m l ts x rest e =
      let s = (lawful m).sound l ts x rest e in
      let read = (lawful m).complete l s.tree rest x s.whole in
      Tree s.tree rest x e
      (farthest m l ts s.tree rest s.split (l, record { level = m; front = (lawful m).whole_front l s.tree rest x s.whole })
      (λ t zs ws d. Early x t zs ((lawful m).ahead l s.tree t (zs ++ ws) zs x (subst (λ (z : List Piece). (Q m).read l (s.tree ++ z) ≡ Ok (x, z)) d read))))
      (record { level = m; whole = tree_alone m l s.tree rest x s.whole })

  unfit_over : {low high : Reading A} → Widened low high → (q : FaultRecord) → low ≡ Err (At (Refused q)) → high ≡ Err (At (Refused q))
  unfit_over (Wide d) q e = d ∙ e
  unfit_over (Deep at d) q e = absurd (cc)

  unfit_at : (k m l l' : ℕ) (us : List Piece) (q : FaultRecord) → (Q m).read l us ≡ Err (At (Refused q)) → (Q (raised k m)).read (l + l') us ≡ Err (At (Refused q))
  unfit_at k m l l' us q e = unfit_over ((lawful (raised k m)).widens l (l + l') us (omega arith)) q (at_further ((climb k m).agrees l us) (Refused q) e)

  -- where the next piece does not fit, the pieces before it are no tree
  no_tree : (m l : ℕ) (us : List Piece) (t : Piece) (rest : List Piece) (q : FaultRecord) → (Q m).read l (us ++ t ∷ rest) ≡ Err (At (Refused q)) → Blocked ((Q m).read l (us ++ t ∷ []))
      → (x : A) → IsTree Q us x → ⊥
  no_tree m l us t rest q e b x (l', s) =
      let m' = s.level in
      let w = moved (λ (u v : ℕ). (Q u).whole v us [] x) m m' l' l (whole_at m m' l' l us [] x s.whole) in
      let d = unfit_at m' m l l' (us ++ t ∷ rest) q e in
      elim ((alone (raised m' m)).free (l + l') us t rest x w) [
        | Stays f ↦ let g : ◌≡◌ {A = Reading A} (Ok (x, t ∷ rest)) (Err (At (Refused q))) = sym f ∙ d in cc
        | On k ↦ no_begin m l (us ++ t ∷ []) b (k.limit, record { level = raised m' m; front = k.front })
      ]

  too_deep : (m l : ℕ) (us : List Piece) (r : Refusal) → (Q m).read l us ≡ Err (At r) → BeginsWithin l Q us → ⊥
  too_deep m l us r e k =
      let m' = k.level in
      let f = subst (λ (z : ℕ). (Q z).front l us) (joined m m') (front_up (climb m m') l us k.front) in
      not_at ((lawful (raised m' m)).begun l us f) r (at_further ((climb m' m).agrees l us) r e)

  answer_at : (m l : ℕ) (ts : List Piece) (r : Refusal) → (Q m).read l ts ≡ Err (At r) → Answers requires l Q ts ((Q m).read l ts)
  answer_at m l ts r e = go ((lawful m).stops l ts r e).why
    where
      w : Refuses requires (Q m) l ts r
      w = (lawful m).stops l ts r e

      unfit : (q : FaultRecord) → r ≡ Refused q → IsFaultAt requires w.next r → Answers requires l Q ts ((Q m).read l ts)
      unfit q same is =
          let always : (rest : List Piece) → (Q m).read l (w.front ++ w.next ∷ rest) ≡ Err (At (Refused q)) = λ rest. w.always rest ∙ ap (λ (z : Refusal). Err (At z)) same in
          Fault w.front w.next w.behind r e is
          (farthest m l ts w.front (w.next ∷ w.behind) w.split (l, record { level = m; front = w.begun })
          (λ t zs ws d.
          let head : w.next ≡ t = cc in
          subst (λ (z : Piece). Blocked ((Q m).read l (w.front ++ z ∷ zs))) head (Unfit q (always zs))))
          (record { level = m; front = w.begun })
          (no_tree m l w.front w.next w.behind q (always w.behind) (Unfit q (always [])))

      go : Why requires (Q m) l w.front w.next r → Answers requires l Q ts ((Q m).read l ts)
      go (Misfits q) = let f = misfit_refused w.next.token in unfit f.0 (q ∙ f.1) (inl q)
      go (Unread n d q) = unfit _ q (inr (n, d, q))
      go (Passes l' h q k) =
          TooDeep w.front w.next w.behind (e ∙ ap (λ (z : Refusal). Err (At z)) q) w.split (record { level = m; front = w.begun })
          (l', record { level = m; front = k })
          (too_deep m l (w.front ++ w.next ∷ []) r (w.always []))

  short_tree : (m l : ℕ) (ts : List Piece) → l + 2 ≤ m + load → 2 ≤ m → (Q m).read l ts ≡ Err Ended → (x : A) → IsTree Q ts x → ⊥
  short_tree m l ts h o e x (l', s) =
      let m' = s.level in
      let w = moved (λ (u v : ℕ). (Q u).whole v ts [] x) m m' l' l (whole_at m m' l' l ts [] x s.whole) in
      let a : (Q (raised m' m)).read (l + l') ts ≡ Ok (x, []) = ap (λ (z : List Piece). (Q (raised m' m)).read (l + l') z) (sym (append-nil ts)) ∙ (lawful (raised m' m)).complete (l + l') ts [] x w in
      let d : (Q (raised m' m)).read l ts ≡ Err Ended = settled l m' m h o ts ∙ e in
      elim ((lawful (raised m' m)).widens l (l + l') ts (omega arith)) [
        | Wide f ↦ let g : ◌≡◌ {A = Reading A} (Ok (x, [])) (Err Ended) = sym a ∙ f ∙ d in cc
        | Deep at f ↦ let g : ◌≡◌ {A = Reading A} (Err Ended) (Err (At (Passed limits.Depth at))) = sym d ∙ f in cc
      ]

  reading : (l m : ℕ) (ts : List Piece) → l + 2 ≤ m + load → 2 ≤ m → Answers requires l Q ts ((Q m).read l ts)
  reading l m ts h o = go ((Q m).read l ts) refl
    where
      go : (r : Reading A) → (Q m).read l ts ≡ r → Answers requires l Q ts ((Q m).read l ts)
      go (Ok x) e = answer_tree m l ts x.0 x.1 e
      go (Err Ended) e = Short e (record { level = m; front = (lawful m).ended l ts e }) (short_tree m l ts h o e)
      go (Err Exhausted) e = absurd ((firm l m h o).firm ts e)
      go (Err (At r)) e = answer_at m l ts r e

  pub lasting_laws : GrammarLaws requires load Q
  lasting_laws = record {
    one_tree = one_tree;
    none_begin = (0, record { level = 0; front = (lawful 0).starts 0 });
    trees_begin = λ ts x t. (t.0, record { level = t.1.level; front = (lawful t.1.level).whole_front t.0 ts [] x t.1.whole });
    first_begin = λ us vs k. (k.0, record { level = k.1.level; front = front_first (Q k.1.level) (lawful k.1.level) k.0 us vs k.1.front });
    answers = λ limit level ts h o. reading limit level ts h o;
  }

module _ (requires : Bool) (c : Context) (n : ℕ) where
  room : (limit m : ℕ) → limit + 2 ≤ m + c.load → 2 ≤ m → Enough limit (suc m) c.load
  room limit m h o = record { left = omega arith; more = omega arith }

  pub expr_laws : GrammarLaws requires c.load (λ level. expr (levels requires level) c n)
  expr_laws = lasting_laws c.load (λ level. expr (levels requires level) c n) (record {
    grows = λ m. expr-Grows (levels-Grows m) c n;
    alone = λ m. expr-Alone (levels-Alone m) c n;
    firm = λ limit m h o. expr-Firm (levels-Grows m) (levels-Firm limit requires m) c n (room limit m h o);
  })

  pub type_laws : GrammarLaws requires c.load (λ level. type_id (levels requires level) c n)
  type_laws = lasting_laws c.load (λ level. type_id (levels requires level) c n) (record {
    grows = λ m. type_id-Grows (levels-Grows m) c n;
    alone = λ m. type_id-Alone (levels-Alone m) c n;
    firm = λ limit m h o. type_id-Firm (levels-Grows m) (levels-Firm limit requires m) c n (room limit m h o);
  })

  pub clause_laws : GrammarLaws requires c.load (λ level. clause (levels requires level) c n)
  clause_laws = lasting_laws c.load (λ level. clause (levels requires level) c n) (record {
    grows = λ m. clause-Grows (levels-Grows m) c n;
    alone = λ m. clause-Alone (levels-Alone m) c n;
    firm = λ limit m h o. clause-Firm (levels-Grows m) (levels-Firm limit requires m) c n (room limit m h o);
  })

  more_room : (limit m : ℕ) → limit + 2 ≤ m + c.load → 2 ≤ m → More limit (suc m) c.load
  more_room limit m h o = record { left = omega arith; more = omega arith }

  pub stmt_laws : GrammarLaws requires c.load (λ level. stmt (unit_levels requires level) c n)
  stmt_laws = lasting_laws c.load (λ level. stmt (unit_levels requires level) c n) (record {
    grows = λ m. stmt-Grows (unit_levels-Grows m) (levels-Filled m) (levels-Filled (suc m)) c n;
    alone = λ m. stmt-Alone (unit_levels-Grows m) (levels-Filled m) (levels-Filled (suc m)) (unit_levels-Alone m) c n;
    firm = λ limit m h o. stmt-Firm (unit_levels-Grows m) (levels-Filled m) (levels-Filled (suc m)) (unit_levels-Firm limit requires m) c n (more_room limit m h o);
  })

  pub decl_laws : GrammarLaws requires c.load (λ level. decl (unit_levels requires level) c n)
  decl_laws = lasting_laws c.load (λ level. decl (unit_levels requires level) c n) (record {
    grows = λ m. decl-Grows (unit_levels-Grows m) (levels-Filled m) (levels-Filled (suc m)) c n;
    alone = λ m. decl-Alone (unit_levels-Grows m) (levels-Filled m) (levels-Filled (suc m)) (unit_levels-Alone m) c n;
    firm = λ limit m h o. decl-Firm (unit_levels-Grows m) (levels-Filled m) (levels-Filled (suc m)) (unit_levels-Firm limit requires m) c n (room limit m h o);
  })

unit_room : (limit m : ℕ) → limit + 2 ≤ m + 0 → 2 ≤ m → Enough limit m 1
unit_room limit m h o = record { left = omega arith; more = omega arith }

pub unit_laws : (requires : Bool) → GrammarLaws requires 0 (λ level. unit (unit_levels requires level))
unit_laws requires = lasting_laws 0 (λ level. unit (unit_levels requires level)) (record {
  grows = λ m. unit-Grows (unit_levels-Grows m) (levels-Filled m) (levels-Filled (suc m));
  alone = λ m. unit-Alone (unit_levels-Grows m) (levels-Filled m) (levels-Filled (suc m)) (unit_levels-Alone m);
  firm = λ limit m h o. unit-Firm (unit_levels-Grows m) (levels-Filled m) (levels-Filled (suc m)) (unit_levels-Firm limit requires m) (unit_room limit m h o);
})

-- ---- whole tokens

module _ (requires : Bool) (c : Context) (n : ℕ) (w : c.angle ≡ 0) where
  pub expr_tokens : WholeTokens (λ level. expr (levels requires level) c n)
  expr_tokens = even_tokens (λ level. expr (levels requires level) c n) (λ m. expr-Even (levels-Alone m) (levels-Even requires m) c n w)

  pub type_tokens : WholeTokens (λ level. type_id (levels requires level) c n)
  type_tokens = even_tokens (λ level. type_id (levels requires level) c n) (λ m. type_id-Even (levels-Alone m) (levels-Even requires m) c n w)

  pub clause_tokens : WholeTokens (λ level. clause (levels requires level) c n)
  clause_tokens = even_tokens (λ level. clause (levels requires level) c n) (λ m. clause-Even (levels-Alone m) (levels-Even requires m) c n w)

  pub stmt_tokens : WholeTokens (λ level. stmt (unit_levels requires level) c n)
  stmt_tokens = even_tokens (λ level. stmt (unit_levels requires level) c n) (λ m. stmt-Even (levels-Filled m) (unit_levels-Even requires m) c n w)

  pub decl_tokens : WholeTokens (λ level. decl (unit_levels requires level) c n)
  decl_tokens = even_tokens (λ level. decl (unit_levels requires level) c n) (λ m. decl-Even (levels-Filled m) (unit_levels-Even requires m) c n w)

pub unit_tokens : (requires : Bool) → WholeTokens (λ level. unit (unit_levels requires level))
unit_tokens requires = even_tokens (λ level. unit (unit_levels requires level)) (λ m. unit-Even (levels-Filled m) (unit_levels-Even requires m))
