-- Postfix expressions are as they are printed.
use Rattle.std.proofs.Common.{◌≡◌, ◌⊎◌, inl, inr, ℕ, zero, suc, Bool, true, false, ◌||◌, ◌&&◌, List, [], ◌∷◌, ◌++◌, codes, refl, sym, ap, ◌∙◌, subst, append-nil, true≢false}
use Rattle.std.specs.Str.{bytes_eq}
use Rattle.std.proofs.lemmas.Slice.Eq.{bytes_eq-Decides}
use Rattle.cx_tree.specs.Trees.{ExprTree}
use Rattle.cx_grammar.specs.Pieces.{Piece}
use Rattle.cx_grammar.specs.Words.{punct, spelling}
use Rattle.cx_grammar.specs.Production.{Production, give, when, closed, begins}
use Rattle.cx_grammar.specs.Names.{Context, deeper}
use Rattle.cx_grammar.specs.Types.{Numbered, Calling, NoCall, MayCall, MustCall, Below}
use Rattle.cx_grammar.specs.Expressions.{levels, is_step, postfix_operator, member, step, tail_behind, called, call, tail, postfix}
use Rattle.cx_grammar.specs.Printed.{Relation, trees_of, or, IsAsPrinted, Suffix, Dot, Arguments, Step, applied, applied_all, Behind, dotted, stepped, called_with, allowed, suffixes, printed_postfix, behind_postfix}
use Rattle.cx_grammar.proofs.Lawful.{Lawful}
use Rattle.cx_grammar.proofs.Combinators.{closed-Lawful}
use Rattle.cx_grammar.proofs.Expressions.{levels-Grows}
use Rattle.cx_grammar.proofs.Printed.{Starts, token-Starts, when_cases, when_first, when_second, when_fronts, first_front, second_front, begins_none, no_other, neither, whole_last}

-- ---- the tokens that begin suffixes

both_parts : (a b : Bool) → (a && b) ≡ true → b ≡ true
both_parts true b e = e
both_parts false b e = absurd (true≢false (sym e))

spelled : (text : List ℕ) (t : Piece) → punct text t ≡ true → spelling t.token.text ≡ text
unfolding punct
spelled text t e = (bytes_eq-Decides (spelling t.token.text) text).0 (both_parts _ _ e)

other_punct : (a d : List ℕ) → bytes_eq a d ≡ false → (t : Piece) → punct a t ≡ true → punct d t ≡ false
other_punct a d n t e = go (punct d t) refl
  where
    go : (x : Bool) → punct d t ≡ x → x ≡ false
    go false k = refl
    go true k =
        let same : a ≡ d = sym (spelled a t e) ∙ spelled d t k in
        absurd (true≢false (sym ((bytes_eq-Decides a d).1 same) ∙ n))

step_punct : (a : List ℕ) → bytes_eq (codes "++") a ≡ false → bytes_eq (codes "--") a ≡ false → (t : Piece) → is_step t ≡ true → punct a t ≡ false
step_punct a n m t e = go (punct (codes "++") t) refl e
  where
    go : (x : Bool) → punct (codes "++") t ≡ x → (x || punct (codes "--") t) ≡ true → punct a t ≡ false
    go true k d = other_punct (codes "++") a n t k
    go false k d = other_punct (codes "--") a m t d

-- ---- a level and what is printed of it

record Suffixed (R : Relation (List Suffix)) (e : Numbered ExprTree) (l : ℕ) (ts behind : List Piece) (y : Numbered ExprTree) : Type 0 where
  more : List Suffix
  whole : R.whole l ts behind more
  same : y ≡ applied_all e more

-- a production behind an expression, and the suffixes that it reads
record Reads (e : Numbered ExprTree) (p : Production (Numbered ExprTree)) (R : Relation (List Suffix)) : Type 0 where
  to : (l : ℕ) (ts behind : List Piece) (y : Numbered ExprTree) → p.whole l ts behind y → Suffixed R e l ts behind y
  back : (l : ℕ) (ts behind : List Piece) (more : List Suffix) → begins behind_postfix behind ≡ false → R.whole l ts behind more → p.whole l ts behind (applied_all e more)
  begun : (l : ℕ) (ts : List Piece) → p.front l ts → R.front l ts
  begun_back : (l : ℕ) (ts : List Piece) → R.front l ts → p.front l ts
  reads : Bool
  lawful : Lawful reads p

-- whole suffixes are a beginning
begun_whole : {e : Numbered ExprTree} {p : Production (Numbered ExprTree)} {R : Relation (List Suffix)} → Reads e p R → (l : ℕ) (vs us2 vs2 : List Piece) (more : List Suffix) → vs ≡ us2 ++ vs2 → R.whole l us2 vs2 more → vs2 ≡ [] → p.front l vs
begun_whole {e} {p} h l vs us2 vs2 more e1 w d =
    let k = h.back l us2 vs2 more (ap (λ (s : List Piece). begins behind_postfix s) d ∙ begins_none behind_postfix) w in
    subst (λ (s : List Piece). p.front l s) (sym (e1 ∙ ap (λ (s : List Piece). us2 ++ s) d ∙ append-nil us2)) (h.lawful.whole_front l us2 vs2 (applied_all e more) k)

back_last : {e : Numbered ExprTree} {p : Production (Numbered ExprTree)} {R : Relation (List Suffix)} → Reads e p R → (l : ℕ) (vs us2 vs2 behind : List Piece) (more : List Suffix) → begins behind_postfix behind ≡ false → vs ≡ us2 ++ vs2 → vs2 ≡ []
    → R.whole l us2 (vs2 ++ behind) more → p.whole l vs behind (applied_all e more)
back_last {e} {p} h l vs us2 vs2 behind more n e1 d w =
    whole_last p l vs us2 vs2 behind (applied_all e more) e1 d (h.back l us2 (vs2 ++ behind) more (ap (λ (s : List Piece). begins behind_postfix (s ++ behind)) d ∙ n) w)

closed-Reads : (e : Numbered ExprTree) → Reads e closed (trees_of closed)
closed-Reads e = record {
  to = λ l ts behind y w. absurd w;
  back = λ l ts behind more n w. absurd w;
  begun = λ l ts k. k;
  begun_back = λ l ts k. k;
  reads = false;
  lawful = closed-Lawful;
}

-- what a production reads for each expression
abbrev ReadsAll : (Calling → Context → Numbered ExprTree → Production (Numbered ExprTree)) → Behind → Type 0
ReadsAll p R = (calling : Calling) (c : Context) (e : Numbered ExprTree) → Reads e (p calling c e) (R calling c e.1)

module _ (b : Below) (R : Behind) (h : ReadsAll b.tail R) where
  member_to : (c : Context) (e : Numbered ExprTree) (l : ℕ) (ts behind : List Piece) (y : Numbered ExprTree) → (member b c e).whole l ts behind y → Suffixed (dotted R c e.1) e l ts behind y
  unfolding member
  member_to c e l ts behind y (d, us, vs, e1, w, (name, us', vs', e2, w', v)) =
      let g = (h MayCall (deeper c) (applied e (Dot name.token.text))).to l vs' behind y v in
      record { more = Dot name.token.text ∷ g.more; whole = (d, us, vs, e1, w, (name, us', vs', e2, w', (g.more, vs', [], sym (append-nil vs'), g.whole, (refl, refl)))); same = g.same }

  member_back : (c : Context) (e : Numbered ExprTree) (l : ℕ) (ts behind : List Piece) (more : List Suffix) → begins behind_postfix behind ≡ false → (dotted R c e.1).whole l ts behind more → (member b c e).whole l ts behind (applied_all e more)
  unfolding member
  member_back c e l ts behind more n (d, us, vs, e1, w, (name, us', vs', e2, w', (last, us2, vs2, e3, w2, (e4, same)))) =
      let k = back_last (h MayCall (deeper c) (applied e (Dot name.token.text))) l vs' us2 vs2 behind last n e3 e4 w2 in
      (d, us, vs, e1, w, (name, us', vs', e2, w', subst (λ (z : List Suffix). (b.tail MayCall (deeper c) (applied e (Dot name.token.text))).whole l vs' behind (applied_all e z)) (sym same) k))

  member_begun : (c : Context) (e : Numbered ExprTree) (l : ℕ) (ts : List Piece) → (member b c e).front l ts → (dotted R c e.1).front l ts
  unfolding member
  member_begun c e l ts (inl k) = inl k
  member_begun c e l ts (inr (d, us, vs, e1, w, inl k)) = inr (d, us, vs, e1, w, inl k)
  member_begun c e l ts (inr (d, us, vs, e1, w, inr (name, us', vs', e2, w', k))) =
      inr (d, us, vs, e1, w, inr (name, us', vs', e2, w', inl ((h MayCall (deeper c) (applied e (Dot name.token.text))).begun l vs' k)))

  member_begun_back : (c : Context) (e : Numbered ExprTree) (l : ℕ) (ts : List Piece) → (dotted R c e.1).front l ts → (member b c e).front l ts
  unfolding member
  member_begun_back c e l ts (inl k) = inl k
  member_begun_back c e l ts (inr (d, us, vs, e1, w, inl k)) = inr (d, us, vs, e1, w, inl k)
  member_begun_back c e l ts (inr (d, us, vs, e1, w, inr (name, us', vs', e2, w', inl k))) =
      inr (d, us, vs, e1, w, inr (name, us', vs', e2, w', (h MayCall (deeper c) (applied e (Dot name.token.text))).begun_back l vs' k))
  member_begun_back c e l ts (inr (d, us, vs, e1, w, inr (name, us', vs', e2, w', inr (last, us2, vs2, e3, w2, e4)))) =
      inr (d, us, vs, e1, w, inr (name, us', vs', e2, w', begun_whole (h MayCall (deeper c) (applied e (Dot name.token.text))) l vs' us2 vs2 last e3 w2 e4))

  member-Starts : (c : Context) (e : Numbered ExprTree) → Starts (punct (codes ".")) (member b c e)
  unfolding member
  member-Starts c e = token-Starts _ _ _

  step_to : (c : Context) (e : Numbered ExprTree) (l : ℕ) (ts behind : List Piece) (y : Numbered ExprTree) → (step b c e).whole l ts behind y → Suffixed (stepped R c e.1) e l ts behind y
  unfolding step
  step_to c e l ts behind y (t, us, vs, e1, w, v) =
      let g = (h NoCall (deeper c) (applied e (Step (postfix_operator t)))).to l vs behind y v in
      record { more = Step (postfix_operator t) ∷ g.more; whole = (t, us, vs, e1, w, (g.more, vs, [], sym (append-nil vs), g.whole, (refl, refl))); same = g.same }

  step_back : (c : Context) (e : Numbered ExprTree) (l : ℕ) (ts behind : List Piece) (more : List Suffix) → begins behind_postfix behind ≡ false → (stepped R c e.1).whole l ts behind more → (step b c e).whole l ts behind (applied_all e more)
  unfolding step
  step_back c e l ts behind more n (t, us, vs, e1, w, (last, us2, vs2, e3, w2, (e4, same))) =
      let k = back_last (h NoCall (deeper c) (applied e (Step (postfix_operator t)))) l vs us2 vs2 behind last n e3 e4 w2 in
      (t, us, vs, e1, w, subst (λ (z : List Suffix). (b.tail NoCall (deeper c) (applied e (Step (postfix_operator t)))).whole l vs behind (applied_all e z)) (sym same) k)

  step_begun : (c : Context) (e : Numbered ExprTree) (l : ℕ) (ts : List Piece) → (step b c e).front l ts → (stepped R c e.1).front l ts
  unfolding step
  step_begun c e l ts (inl k) = inl k
  step_begun c e l ts (inr (t, us, vs, e1, w, k)) = inr (t, us, vs, e1, w, inl ((h NoCall (deeper c) (applied e (Step (postfix_operator t)))).begun l vs k))

  step_begun_back : (c : Context) (e : Numbered ExprTree) (l : ℕ) (ts : List Piece) → (stepped R c e.1).front l ts → (step b c e).front l ts
  unfolding step
  step_begun_back c e l ts (inl k) = inl k
  step_begun_back c e l ts (inr (t, us, vs, e1, w, inl k)) = inr (t, us, vs, e1, w, (h NoCall (deeper c) (applied e (Step (postfix_operator t)))).begun_back l vs k)
  step_begun_back c e l ts (inr (t, us, vs, e1, w, inr (last, us2, vs2, e3, w2, e4))) =
      inr (t, us, vs, e1, w, begun_whole (h NoCall (deeper c) (applied e (Step (postfix_operator t)))) l vs us2 vs2 last e3 w2 e4)

  step-Starts : (c : Context) (e : Numbered ExprTree) → Starts is_step (step b c e)
  unfolding step
  step-Starts c e = token-Starts _ _ _

-- a production and its suffixes, but for whether it is lawful
record ReadsSo (e : Numbered ExprTree) (p : Production (Numbered ExprTree)) (R : Relation (List Suffix)) : Type 0 where
  to : (l : ℕ) (ts behind : List Piece) (y : Numbered ExprTree) → p.whole l ts behind y → Suffixed R e l ts behind y
  back : (l : ℕ) (ts behind : List Piece) (more : List Suffix) → begins behind_postfix behind ≡ false → R.whole l ts behind more → p.whole l ts behind (applied_all e more)
  begun : (l : ℕ) (ts : List Piece) → p.front l ts → R.front l ts
  begun_back : (l : ℕ) (ts : List Piece) → R.front l ts → p.front l ts

call-Starts : (b : Below) (c : Context) (e : Numbered ExprTree) → Starts (punct (codes "(")) (call b c e)
unfolding call
call-Starts b c e = token-Starts _ _ _

call-zero : (requires : Bool) (c : Context) (e : Numbered ExprTree) → ReadsSo e (call (levels requires zero) c e) (called_with requires zero (λ calling c n. trees_of closed) c e.1)
unfolding call levels
call-zero requires c e = record {
  to = λ l ts behind y w. absurd (w.5);
  back = λ l ts behind more n w. absurd (w.5);
  begun = λ l ts k. k;
  begun_back = λ l ts k. k;
}

module _ (requires : Bool) (depth : ℕ) (R : Behind) (h : ReadsAll (levels requires (suc depth)).tail R) where
  call_to : (c : Context) (e : Numbered ExprTree) (l : ℕ) (ts behind : List Piece) (y : Numbered ExprTree) → (call (levels requires (suc depth)) c e).whole l ts behind y → Suffixed (called_with requires (suc depth) R c e.1) e l ts behind y
  unfolding call called tail levels
  call_to c e l ts behind y (o, us, vs, e1, w, (es, us', vs', e2, w', (r, us2, vs2, e3, w2, v))) =
      let g = (h NoCall (deeper c) (applied e (Arguments es))).to l vs2 behind y v in
      record { more = Arguments es ∷ g.more; whole = (o, us, vs, e1, w, (es, us', vs', e2, w', (r, us2, vs2, e3, w2, (g.more, vs2, [], sym (append-nil vs2), g.whole, (refl, refl))))); same = g.same }

  call_back : (c : Context) (e : Numbered ExprTree) (l : ℕ) (ts behind : List Piece) (more : List Suffix) → begins behind_postfix behind ≡ false → (called_with requires (suc depth) R c e.1).whole l ts behind more → (call (levels requires (suc depth)) c e).whole l ts behind (applied_all e more)
  unfolding call called tail levels
  call_back c e l ts behind more n (o, us, vs, e1, w, (es, us', vs', e2, w', (r, us2, vs2, e3, w2, (last, us3, vs3, e4, w3, (e5, same))))) =
      let k = back_last (h NoCall (deeper c) (applied e (Arguments es))) l vs2 us3 vs3 behind last n e4 e5 w3 in
      (o, us, vs, e1, w, (es, us', vs', e2, w', (r, us2, vs2, e3, w2, subst (λ (z : List Suffix). ((levels requires (suc depth)).tail NoCall (deeper c) (applied e (Arguments es))).whole l vs2 behind (applied_all e z)) (sym same) k)))

  call_begun : (c : Context) (e : Numbered ExprTree) (l : ℕ) (ts : List Piece) → (call (levels requires (suc depth)) c e).front l ts → (called_with requires (suc depth) R c e.1).front l ts
  unfolding call called tail levels
  call_begun c e l ts (inl k) = inl k
  call_begun c e l ts (inr (o, us, vs, e1, w, inl k)) = inr (o, us, vs, e1, w, inl k)
  call_begun c e l ts (inr (o, us, vs, e1, w, inr (es, us', vs', e2, w', inl k))) = inr (o, us, vs, e1, w, inr (es, us', vs', e2, w', inl k))
  call_begun c e l ts (inr (o, us, vs, e1, w, inr (es, us', vs', e2, w', inr (r, us2, vs2, e3, w2, k)))) =
      inr (o, us, vs, e1, w, inr (es, us', vs', e2, w', inr (r, us2, vs2, e3, w2, inl ((h NoCall (deeper c) (applied e (Arguments es))).begun l vs2 k))))

  call_begun_back : (c : Context) (e : Numbered ExprTree) (l : ℕ) (ts : List Piece) → (called_with requires (suc depth) R c e.1).front l ts → (call (levels requires (suc depth)) c e).front l ts
  unfolding call called tail levels
  call_begun_back c e l ts (inl k) = inl k
  call_begun_back c e l ts (inr (o, us, vs, e1, w, inl k)) = inr (o, us, vs, e1, w, inl k)
  call_begun_back c e l ts (inr (o, us, vs, e1, w, inr (es, us', vs', e2, w', inl k))) = inr (o, us, vs, e1, w, inr (es, us', vs', e2, w', inl k))
  call_begun_back c e l ts (inr (o, us, vs, e1, w, inr (es, us', vs', e2, w', inr (r, us2, vs2, e3, w2, inl k)))) =
      inr (o, us, vs, e1, w, inr (es, us', vs', e2, w', inr (r, us2, vs2, e3, w2, (h NoCall (deeper c) (applied e (Arguments es))).begun_back l vs2 k)))
  call_begun_back c e l ts (inr (o, us, vs, e1, w, inr (es, us', vs', e2, w', inr (r, us2, vs2, e3, w2, inr (last, us3, vs3, e4, w3, e5))))) =
      inr (o, us, vs, e1, w, inr (es, us', vs', e2, w', inr (r, us2, vs2, e3, w2, begun_whole (h NoCall (deeper c) (applied e (Arguments es))) l vs2 us3 vs3 last e4 w3 e5)))

  call-suc : (c : Context) (e : Numbered ExprTree) → ReadsSo e (call (levels requires (suc depth)) c e) (called_with requires (suc depth) R c e.1)
  call-suc c e = record { to = call_to c e; back = call_back c e; begun = call_begun c e; begun_back = call_begun_back c e }

-- ---- what may stand behind an operand

-- no token of some kind begins pieces
none_at : (q : Piece → Bool) (ts : List Piece) → ts ≡ [] → begins q ts ≡ false
none_at q ts e = ap (λ (s : List Piece). begins q s) e ∙ begins_none q

dot_call : (t : Piece) → punct (codes ".") t ≡ true → punct (codes "(") t ≡ false
dot_call = other_punct (codes ".") (codes "(") refl

step_call : (t : Piece) → is_step t ≡ true → punct (codes "(") t ≡ false
step_call = step_punct (codes "(") refl refl

step_dot : (t : Piece) → is_step t ≡ true → punct (codes ".") t ≡ false
step_dot = step_punct (codes ".") refl refl

module _ (b : Below) (R : Behind) (h : ReadsAll b.tail R) (c : Context) (e : Numbered ExprTree) where
  abbrev others : Production (Numbered ExprTree)
  others = when is_step (step b c e) (give e)

  abbrev printed : Relation (List Suffix)
  printed = allowed NoCall (trees_of closed) (or (dotted R c e.1) (stepped R c e.1))

  empty_behind : (l : ℕ) (ts : List Piece) → ts ≡ [] → (tail_behind b c e).front l ts
  unfolding tail_behind
  empty_behind l ts d = second_front (punct (codes ".")) (member b c e) others l ts (none_at (punct (codes ".")) ts d) (second_front is_step (step b c e) (give e) l ts (none_at is_step ts d) d)

  data Tailed (l : ℕ) (ts behind : List Piece) (y : Numbered ExprTree) : Type 0 where
    Dots : (member b c e).whole l ts behind y → Tailed l ts behind y
    Steps : (step b c e).whole l ts behind y → Tailed l ts behind y
    Ends : ts ≡ [] → y ≡ e → Tailed l ts behind y

  tailed : (l : ℕ) (ts behind : List Piece) (y : Numbered ExprTree) → (tail_behind b c e).whole l ts behind y → Tailed l ts behind y
  unfolding tail_behind
  tailed l ts behind y w = go (when_cases (punct (codes ".")) (member b c e) others l ts behind y w)
    where
      last : (step b c e).whole l ts behind y ⊎ (give e).whole l ts behind y → Tailed l ts behind y
      last (inl k) = Steps k
      last (inr k) = Ends k.0 k.1

      go : (member b c e).whole l ts behind y ⊎ others.whole l ts behind y → Tailed l ts behind y
      go (inl k) = Dots k
      go (inr k) = last (when_cases is_step (step b c e) (give e) l ts behind y k)

  tailed_back : (l : ℕ) (ts behind : List Piece) (y : Numbered ExprTree) → begins behind_postfix behind ≡ false → Tailed l ts behind y → (tail_behind b c e).whole l ts behind y
  unfolding tail_behind
  tailed_back l ts behind y n (Dots w) = when_first (punct (codes ".")) (member b c e) others l ts behind y ((member-Starts b R h c e).begins_so l ts behind y w) w
  tailed_back l ts behind y n (Steps w) =
      let k = (step-Starts b R h c e).begins_so l ts behind y w in
      when_second (punct (codes ".")) (member b c e) others l ts behind y (no_other (punct (codes ".")) is_step step_dot (ts ++ behind) k) (when_first is_step (step b c e) (give e) l ts behind y k w)
  tailed_back l ts behind y n (Ends d d') =
      let k = neither (punct (codes "(")) (λ t. punct (codes ".") t || is_step t) (ts ++ behind) (ap (λ (s : List Piece). begins behind_postfix (s ++ behind)) d ∙ n) in
      let k' = neither (punct (codes ".")) is_step (ts ++ behind) k.1 in
      when_second (punct (codes ".")) (member b c e) others l ts behind y k'.0 (when_second is_step (step b c e) (give e) l ts behind y k'.1 (d, d'))

  -- no call begins there
  no_call : (l : ℕ) (ts behind : List Piece) (y : Numbered ExprTree) → begins behind_postfix behind ≡ false → Tailed l ts behind y → begins (punct (codes "(")) (ts ++ behind) ≡ false
  no_call l ts behind y n (Dots w) = no_other (punct (codes "(")) (punct (codes ".")) dot_call (ts ++ behind) ((member-Starts b R h c e).begins_so l ts behind y w)
  no_call l ts behind y n (Steps w) = no_other (punct (codes "(")) is_step step_call (ts ++ behind) ((step-Starts b R h c e).begins_so l ts behind y w)
  no_call l ts behind y n (Ends d d') =
      (neither (punct (codes "(")) (λ t. punct (codes ".") t || is_step t) (ts ++ behind) (ap (λ (s : List Piece). begins behind_postfix (s ++ behind)) d ∙ n)).0

  data Tail_begun (l : ℕ) (ts : List Piece) : Type 0 where
    Dots_begun : (member b c e).front l ts → Tail_begun l ts
    Steps_begun : (step b c e).front l ts → Tail_begun l ts
    None_begun : ts ≡ [] → Tail_begun l ts

  tail_begun : (l : ℕ) (ts : List Piece) → (tail_behind b c e).front l ts → Tail_begun l ts
  unfolding tail_behind
  tail_begun l ts k = go (when_fronts (punct (codes ".")) (member b c e) others l ts k)
    where
      last : (step b c e).front l ts ⊎ (ts ≡ []) → Tail_begun l ts
      last (inl k) = Steps_begun k
      last (inr k) = None_begun k

      go : (member b c e).front l ts ⊎ others.front l ts → Tail_begun l ts
      go (inl k) = Dots_begun k
      go (inr k) = last (when_fronts is_step (step b c e) (give e) l ts k)

  tail_begun_back : (l : ℕ) (ts : List Piece) → Tail_begun l ts → (tail_behind b c e).front l ts
  unfolding tail_behind
  tail_begun_back l ts (Dots_begun k) = go ((member-Starts b R h c e).begun_so l ts k)
    where
      go : (ts ≡ []) ⊎ (begins (punct (codes ".")) ts ≡ true) → (tail_behind b c e).front l ts
      go (inl d) = empty_behind l ts d
      go (inr d) = first_front (punct (codes ".")) (member b c e) others l ts d k
  tail_begun_back l ts (Steps_begun k) = go ((step-Starts b R h c e).begun_so l ts k)
    where
      go : (ts ≡ []) ⊎ (begins is_step ts ≡ true) → (tail_behind b c e).front l ts
      go (inl d) = empty_behind l ts d
      go (inr d) = second_front (punct (codes ".")) (member b c e) others l ts (no_other (punct (codes ".")) is_step step_dot ts d) (first_front is_step (step b c e) (give e) l ts d k)
  tail_begun_back l ts (None_begun d) = empty_behind l ts d

  no_call_begun : (l : ℕ) (ts : List Piece) → Tail_begun l ts → begins (punct (codes "(")) ts ≡ false
  no_call_begun l ts (Dots_begun k) = go ((member-Starts b R h c e).begun_so l ts k)
    where
      go : (ts ≡ []) ⊎ (begins (punct (codes ".")) ts ≡ true) → begins (punct (codes "(")) ts ≡ false
      go (inl d) = none_at (punct (codes "(")) ts d
      go (inr d) = no_other (punct (codes "(")) (punct (codes ".")) dot_call ts d
  no_call_begun l ts (Steps_begun k) = go ((step-Starts b R h c e).begun_so l ts k)
    where
      go : (ts ≡ []) ⊎ (begins is_step ts ≡ true) → begins (punct (codes "(")) ts ≡ false
      go (inl d) = none_at (punct (codes "(")) ts d
      go (inr d) = no_other (punct (codes "(")) is_step step_call ts d
  no_call_begun l ts (None_begun d) = none_at (punct (codes "(")) ts d

  tailed_to : (l : ℕ) (ts behind : List Piece) (y : Numbered ExprTree) → Tailed l ts behind y → Suffixed printed e l ts behind y
  tailed_to l ts behind y (Dots w) = let g = member_to b R h c e l ts behind y w in record { more = g.more; whole = inl (inl g.whole); same = g.same }
  tailed_to l ts behind y (Steps w) = let g = step_to b R h c e l ts behind y w in record { more = g.more; whole = inl (inr g.whole); same = g.same }
  tailed_to l ts behind y (Ends d d') = record { more = []; whole = inr (d, refl); same = d' }

  tailed_from : (l : ℕ) (ts behind : List Piece) (more : List Suffix) → begins behind_postfix behind ≡ false → printed.whole l ts behind more → Tailed l ts behind (applied_all e more)
  tailed_from l ts behind more n (inl (inl w)) = Dots (member_back b R h c e l ts behind more n w)
  tailed_from l ts behind more n (inl (inr w)) = Steps (step_back b R h c e l ts behind more n w)
  tailed_from l ts behind more n (inr (d, d')) = Ends d (ap (λ (z : List Suffix). applied_all e z) d')

  begun_to : (l : ℕ) (ts : List Piece) → Tail_begun l ts → printed.front l ts
  begun_to l ts (Dots_begun k) = inl (inl (member_begun b R h c e l ts k))
  begun_to l ts (Steps_begun k) = inl (inr (step_begun b R h c e l ts k))
  begun_to l ts (None_begun k) = inr k

  begun_from : (l : ℕ) (ts : List Piece) → printed.front l ts → Tail_begun l ts
  begun_from l ts (inl (inl k)) = Dots_begun (member_begun_back b R h c e l ts k)
  begun_from l ts (inl (inr k)) = Steps_begun (step_begun_back b R h c e l ts k)
  begun_from l ts (inr k) = None_begun k

  module _ {requires : Bool} (C : Relation (List Suffix)) (k : ReadsSo e (call b c e) C) (lawful : (calling : Calling) → Lawful requires (tail b calling c e)) where
    no-Reads : Reads e (tail b NoCall c e) (allowed NoCall C (or (dotted R c e.1) (stepped R c e.1)))
    unfolding tail
    no-Reads = record {
      to = λ l ts behind y w. tailed_to l ts behind y (tailed l ts behind y w);
      back = λ l ts behind more n w. tailed_back l ts behind (applied_all e more) n (tailed_from l ts behind more n w);
      begun = λ l ts f. begun_to l ts (tail_begun l ts f);
      begun_back = λ l ts f. tail_begun_back l ts (begun_from l ts f);
      reads = requires;
      lawful = lawful NoCall;
    }

    must-Reads : Reads e (tail b MustCall c e) (allowed MustCall C (or (dotted R c e.1) (stepped R c e.1)))
    unfolding tail
    must-Reads = record { to = k.to; back = k.back; begun = k.begun; begun_back = k.begun_back; reads = requires; lawful = lawful MustCall }

    abbrev may : Relation (List Suffix)
    may = allowed MayCall C (or (dotted R c e.1) (stepped R c e.1))

    may_to : (l : ℕ) (ts behind : List Piece) (y : Numbered ExprTree) → (call b c e).whole l ts behind y ⊎ (tail_behind b c e).whole l ts behind y → Suffixed may e l ts behind y
    may_to l ts behind y (inl w) = let g = k.to l ts behind y w in record { more = g.more; whole = inl g.whole; same = g.same }
    may_to l ts behind y (inr w) = let g = tailed_to l ts behind y (tailed l ts behind y w) in record { more = g.more; whole = inr g.whole; same = g.same }

    may_back : (l : ℕ) (ts behind : List Piece) (more : List Suffix) → begins behind_postfix behind ≡ false → may.whole l ts behind more → (tail b MayCall c e).whole l ts behind (applied_all e more)
    unfolding tail
    may_back l ts behind more n (inl w) =
        let v = k.back l ts behind more n w in
        when_first (punct (codes "(")) (call b c e) (tail_behind b c e) l ts behind (applied_all e more) ((call-Starts b c e).begins_so l ts behind (applied_all e more) v) v
    may_back l ts behind more n (inr w) =
        let v = tailed_from l ts behind more n w in
        when_second (punct (codes "(")) (call b c e) (tail_behind b c e) l ts behind (applied_all e more) (no_call l ts behind (applied_all e more) n v) (tailed_back l ts behind (applied_all e more) n v)

    may_begun : (l : ℕ) (ts : List Piece) → (call b c e).front l ts ⊎ (tail_behind b c e).front l ts → may.front l ts
    may_begun l ts (inl f) = inl (k.begun l ts f)
    may_begun l ts (inr f) = inr (begun_to l ts (tail_begun l ts f))

    may_begun_back : (l : ℕ) (ts : List Piece) → may.front l ts → (tail b MayCall c e).front l ts
    unfolding tail
    may_begun_back l ts (inl f) = go ((call-Starts b c e).begun_so l ts (k.begun_back l ts f))
      where
        go : (ts ≡ []) ⊎ (begins (punct (codes "(")) ts ≡ true) → (tail b MayCall c e).front l ts
        go (inl d) = subst (λ (s : List Piece). (tail b MayCall c e).front l s) (sym d) ((lawful MayCall).starts l)
        go (inr d) = first_front (punct (codes "(")) (call b c e) (tail_behind b c e) l ts d (k.begun_back l ts f)
    may_begun_back l ts (inr f) =
        let v = begun_from l ts f in
        second_front (punct (codes "(")) (call b c e) (tail_behind b c e) l ts (no_call_begun l ts v) (tail_begun_back l ts v)

    may-Reads : Reads e (tail b MayCall c e) may
    unfolding tail
    may-Reads = record {
      to = λ l ts behind y w. may_to l ts behind y (when_cases (punct (codes "(")) (call b c e) (tail_behind b c e) l ts behind y w);
      back = may_back;
      begun = λ l ts f. may_begun l ts (when_fronts (punct (codes "(")) (call b c e) (tail_behind b c e) l ts f);
      begun_back = may_begun_back;
      reads = requires;
      lawful = lawful MayCall;
    }

    tail-Reads : (calling : Calling) → Reads e (tail b calling c e) (allowed calling C (or (dotted R c e.1) (stepped R c e.1)))
    tail-Reads NoCall = no-Reads
    tail-Reads MayCall = may-Reads
    tail-Reads MustCall = must-Reads

-- ---- all levels

tail-Lawful : (requires : Bool) (depth : ℕ) (calling : Calling) (c : Context) (e : Numbered ExprTree) → Lawful requires (tail (levels requires depth) calling c e)
unfolding levels
tail-Lawful requires depth calling c e = ((levels-Grows (suc depth)).tail calling c e).low

below-zero : (requires : Bool) → ReadsAll (levels requires zero).tail (λ calling c n. trees_of closed)
unfolding levels
below-zero requires calling c e = closed-Reads e

below-suc : (requires : Bool) (depth : ℕ) → ReadsAll (tail (levels requires depth)) (suffixes requires depth) → ReadsAll (levels requires (suc depth)).tail (suffixes requires depth)
unfolding levels
below-suc requires depth h = h

suffixes-Reads : (requires : Bool) (depth : ℕ) → ReadsAll (tail (levels requires depth)) (suffixes requires depth)
unfolding suffixes
suffixes-Reads requires zero calling c e =
    tail-Reads (levels requires zero) (λ calling c n. trees_of closed) (below-zero requires) c e (called_with requires zero (λ calling c n. trees_of closed) c e.1) (call-zero requires c e) (λ calling. tail-Lawful requires zero calling c e) calling
suffixes-Reads requires (suc depth) calling c e =
    let h = below-suc requires depth (suffixes-Reads requires depth) in
    tail-Reads (levels requires (suc depth)) (suffixes requires depth) h c e (called_with requires (suc depth) (suffixes requires depth) c e.1) (call-suc requires depth (suffixes requires depth) h c e) (λ calling. tail-Lawful requires (suc depth) calling c e) calling

module _ (requires : Bool) (depth : ℕ) (c : Context) (n : ℕ) where
  to_printed : (l : ℕ) (ts behind : List Piece) (y : Numbered ExprTree) → (postfix (levels requires depth) c n).whole l ts behind y → (printed_postfix requires depth c n).whole l ts behind y
  unfolding postfix printed_postfix
  to_printed l ts behind y (p, us, vs, e, w, v) =
      let g = (suffixes-Reads requires depth p.1 c p.0).to l vs behind y v in
      (p, us, vs, e, w, (g.more, vs, [], sym (append-nil vs), g.whole, (refl, g.same)))

  from_printed : (l : ℕ) (ts behind : List Piece) (y : Numbered ExprTree) → begins behind_postfix behind ≡ false → (printed_postfix requires depth c n).whole l ts behind y → (postfix (levels requires depth) c n).whole l ts behind y
  unfolding postfix printed_postfix
  from_printed l ts behind y h (p, us, vs, e, w, (more, us2, vs2, e2, w2, (e3, same))) =
      (p, us, vs, e, w, subst (λ (z : Numbered ExprTree). (tail (levels requires depth) p.1 c p.0).whole l vs behind z) (sym same) (back_last (suffixes-Reads requires depth p.1 c p.0) l vs us2 vs2 behind more h e2 e3 w2))

  front_to : (l : ℕ) (ts : List Piece) → (postfix (levels requires depth) c n).front l ts → (printed_postfix requires depth c n).front l ts
  unfolding postfix printed_postfix
  front_to l ts (inl k) = inl k
  front_to l ts (inr (p, us, vs, e, w, k)) = inr (p, us, vs, e, w, inl ((suffixes-Reads requires depth p.1 c p.0).begun l vs k))

  front_from : (l : ℕ) (ts : List Piece) → (printed_postfix requires depth c n).front l ts → (postfix (levels requires depth) c n).front l ts
  unfolding postfix printed_postfix
  front_from l ts (inl k) = inl k
  front_from l ts (inr (p, us, vs, e, w, inl k)) = inr (p, us, vs, e, w, (suffixes-Reads requires depth p.1 c p.0).begun_back l vs k)
  front_from l ts (inr (p, us, vs, e, w, inr (more, us2, vs2, e2, w2, e3))) = inr (p, us, vs, e, w, begun_whole (suffixes-Reads requires depth p.1 c p.0) l vs us2 vs2 more e2 w2 e3)

  pub postfix_printed : IsAsPrinted (postfix (levels requires depth) c n) behind_postfix (printed_postfix requires depth c n)
  postfix_printed = record {
    same_trees = λ l ts behind y h. (λ w. to_printed l ts behind y w, λ w. from_printed l ts behind y h w);
    same_beginnings = λ l ts. (λ k. front_to l ts k, λ k. front_from l ts k);
  }
