-- What the reader of units gives, in words of tokens.
use Rattle.std.proofs.Common.{inl, inr, ◌≡◌, ◌≤◌, ◌⊎◌, ℕ, true, List, [], ◌∷◌, ◌++◌, length, length-append, Result, Ok, Err, refl, sym, ap, ◌∙◌, subst, true≢false, append-nil, append_assoc, arith}
use Rattle.cx_base.specs.Refusal.{Refusal}
use Rattle.cx_lexer.specs.Division.{EndsOnce, AreSpelled}
use Rattle.cx_lexer.specs.Tokens.{TokenTree}
use Rattle.cx_tree.specs.Declarations.{UnitTree}
use Rattle.cx_grammar.specs.Pieces.{Piece, halves, pieces}
use Rattle.cx_grammar.specs.Production.{Production, Stopped, give, ◌>>=◌, token, repeat}
use Rattle.cx_grammar.specs.Words.{word}
use Rattle.cx_grammar.specs.Names.{Context}
use Rattle.cx_scope.specs.Frames.{entered}
use Rattle.cx_grammar.specs.Types.{Named}
use Rattle.cx_grammar.specs.Statements.{Within}
use Rattle.cx_grammar.specs.Expressions.{no_requires}
use Rattle.cx_grammar.specs.Declarations.{unit_levels, is_end_kind, is_not_end}
use Rattle.cx_grammar.specs.Laws.{IsTreeWithin, BeginsWithin, IsTree, Begins, Farthest, IsFaultAt, Answers, Tree, Fault, TooDeep, Short}
use Rattle.cx_grammar.proofs.GrammarLaws.{front_first}
use Rattle.cx_parse_decl.specs.Functions.{function, more_function, outermost, unit, is_end}
use Rattle.cx_parse_decl.specs.Units.{load_limit, depth, units, IsUnit, IsFaultOf, IsMisfit, IsTooDeep, answer, unit_at}
use Rattle.cx_parse_decl.proofs.Endless.{Endless, has_last, last_parts, repeat-Endless}
use Rattle.cx_parse_decl.proofs.EndlessTypes.{endlessness}
use Rattle.cx_parse_decl.proofs.EndlessStatements.{WithinEndless, unit_levels-Endless, block-Endless}
use Rattle.cx_parse_decl.proofs.Ends.{Closes, pieces_close, closes_last, nothing_behind, OfToken, of_token}
use Rattle.cx_parse_decl.proofs.Units.{units-Grows, unit_laws}

-- ---- the end of a unit

module _ {b : Within} (h : WithinEndless b) where
  function-Endless : (c : Context) (n : ℕ) → Endless (function b c n)
  unfolding function
  function-Endless c n = search (endlessness, block-Endless h) depth 13

  more_function-Endless : (c : Context) (so_far : Named UnitTree) → Endless (more_function b c so_far)
  unfolding more_function
  more_function-Endless c so_far = search (endlessness, function-Endless) depth 13

-- pieces end with the end
record Closed (us : List Piece) : Type 0 where
  front : List Piece
  last : Piece
  parts : us ≡ front ++ last ∷ []
  closes : is_end_kind last.token.kind ≡ true

-- a production, then the end
module _ {A B : Type 0} (p : Production A) (f : A → B) where
  abbrev ended : Production B
  ended = do
    x ← p
    end ← token 0 is_end
    give (f x)

  closed_by : (l : ℕ) (us rest : List Piece) (y : B) → ended.whole l us rest y → Closed us
  closed_by l us rest y (x, vs, ws, e, w, (t, as', bs, e', (e'', is, le), (none, same))) = record {
    front = vs;
    last = t;
    parts = e ∙ ap (λ (z : List Piece). vs ++ z) (e' ∙ (λ i. e'' i ++ none i));
    closes = is;
  }

  begun : Endless p → (l : ℕ) (us : List Piece) → has_last us ≡ true → ended.front l us → (y : B) × ended.whole l us [] y
  begun h l us last (inl k) = absurd (true≢false (sym last ∙ h.front l us k))
  begun h l us last (inr (x, vs, ws, e, w, inl (inl e'))) =
      absurd (true≢false (sym last ∙ (ap (λ (z : List Piece). has_last z) e ∙ last_parts vs ws (h.whole l vs ws x w) (ap (λ (z : List Piece). has_last z) e'))))
  begun h l us last (inr (x, vs, ws, e, w, inl (inr (t, e', is, le)))) =
      (f x, (x, vs, ws, e, subst (λ (z : List Piece). p.whole l vs z x) (sym (append-nil ws)) w, (t, t ∷ [], [], e', (refl, is, le), (refl, refl))))
  begun h l us last (inr (x, vs, ws, e, w, inr (t, as', bs, e', k, none))) =
      (f x, (x, vs, ws, e, subst (λ (z : List Piece). p.whole l vs z x) (sym (append-nil ws)) w, (t, as', bs, e', k, (none, refl))))

unit_closed : (b : Within) (l : ℕ) (us rest : List Piece) (u : UnitTree) → (unit b).whole l us rest u → Closed us
unfolding unit
unit_closed b l us rest u w = closed_by (repeat is_not_end (more_function b outermost) ([], 0, entered [])) (λ (x : Named UnitTree). x.0) l us rest u w

unit_begun : {b : Within} → WithinEndless b → (l : ℕ) (us : List Piece) → has_last us ≡ true → (unit b).front l us → (u : UnitTree) × (unit b).whole l us [] u
unfolding unit
unit_begun {b} h l us last k = begun (repeat is_not_end (more_function b outermost) ([], 0, entered [])) (λ (x : Named UnitTree). x.0) (repeat-Endless is_not_end (more_function-Endless h outermost) ([], 0, entered [])) l us last k

-- ---- what is read

-- beginnings under the limit
first_within : (us vs : List Piece) → BeginsWithin load_limit units (us ++ vs) → BeginsWithin load_limit units us
first_within us vs k = record { level = k.level; front = front_first (units k.level) (units-Grows k.level).low load_limit us vs k.front }

tree_begins : (us : List Piece) (u : UnitTree) → IsTreeWithin load_limit units us u → BeginsWithin load_limit units us
tree_begins us u t = record { level = t.level; front = (units-Grows t.level).low.whole_front load_limit us [] u t.whole }

-- what a unit's pieces end with is their end
no_rest : (ps us rest : List Piece) (u : UnitTree) → Closes ps → ps ≡ us ++ rest → IsTreeWithin load_limit units us u → rest ≡ []
no_rest ps us rest u c e t =
    let k = unit_closed (unit_levels no_requires t.level) load_limit us [] u t.whole in
    nothing_behind k.front k.last rest c.front c.last k.closes c.others (sym (ap (λ (z : List Piece). z ++ rest) k.parts) ∙ (sym e ∙ c.parts))

found_by : (ts : List TokenTree) (u : UnitTree) (r : Result (UnitTree × List Piece) Stopped) → Closes (pieces ts) → answer r ≡ Ok u → Answers no_requires load_limit units (pieces ts) r → IsUnit ts u
found_by ts u r c e (Tree us rest x d far t) =
    let none : rest ≡ [] = no_rest (pieces ts) us rest x c far.split t in
    let here : us ≡ pieces ts = sym (append-nil us) ∙ (ap (λ (z : List Piece). us ++ z) (sym none) ∙ sym far.split) in
    let same : x ≡ u = cc in
    subst (λ (z : UnitTree). IsTreeWithin load_limit units (pieces ts) z) same (subst (λ (z : List Piece). IsTreeWithin load_limit units z x) here t)
found_by ts u r c e (Fault us t rest q d is far k none) = absurd (cc)
found_by ts u r c e (TooDeep us t rest d split k begins deep) = absurd (cc)
found_by ts u r c e (Short d k none) = absurd (cc)

nothing : (ps : List Piece) → length ps ≤ 0 → ps ≡ []
nothing [] h = refl
nothing (p ∷ ps) h = absurd (omega arith)

only_by : (ts : List TokenTree) (u : UnitTree) (r : Result (UnitTree × List Piece) Stopped) → IsUnit ts u → Answers no_requires load_limit units (pieces ts) r → answer r ≡ Ok u
only_by ts u r w (Tree us rest x d far t) =
    let all = far.most (pieces ts) [] (sym (append-nil (pieces ts))) (unit_laws.trees_begin (pieces ts) u (load_limit, w)) in
    let split = length-append us rest in
    let same = ap (λ (z : List Piece). length z) far.split in
    let none : rest ≡ [] = nothing rest (omega arith) in
    let here : us ≡ pieces ts = sym (append-nil us) ∙ (ap (λ (z : List Piece). us ++ z) (sym none) ∙ sym far.split) in
    let one : x ≡ u = unit_laws.one_tree (pieces ts) x u (load_limit, subst (λ (z : List Piece). IsTreeWithin load_limit units z x) here t) (load_limit, w) in
    ap (λ (z : Result (UnitTree × List Piece) Stopped). answer z) d ∙ ap (λ (z : UnitTree). Ok z) one
only_by ts u r w (Fault us t rest q d is far k none) =
    let all = far.most (pieces ts) [] (sym (append-nil (pieces ts))) (unit_laws.trees_begin (pieces ts) u (load_limit, w)) in
    let split = length-append us (t ∷ rest) in
    let same = ap (λ (z : List Piece). length z) far.split in
    absurd (omega arith)
only_by ts u r w (TooDeep us t rest d split k begins deep) =
    absurd (deep (first_within (us ++ t ∷ []) rest (subst (λ (z : List Piece). BeginsWithin load_limit units z) (split ∙ sym (append_assoc us (t ∷ []) rest)) (tree_begins (pieces ts) u w))))
only_by ts u r w (Short d k none) = absurd (none u (load_limit, w))

read_answers : (ts : List TokenTree) → Answers no_requires load_limit units (pieces ts) ((units depth).read load_limit (pieces ts))
read_answers ts = unit_laws.answers load_limit depth (pieces ts) (omega arith) (omega arith)

pub one_unit : (ts : List TokenTree) (u v : UnitTree) → IsTree units (pieces ts) u → IsTree units (pieces ts) v → u ≡ v
one_unit ts u v s t = unit_laws.one_tree (pieces ts) u v s t

pub unit_found : (ts : List TokenTree) (u : UnitTree) → EndsOnce ts → AreSpelled ts → unit_at ts ≡ Ok u → IsUnit ts u
unfolding unit_at
unit_found ts u once spelled e = found_by ts u ((units depth).read load_limit (pieces ts)) (pieces_close ts once spelled) e (read_answers ts)

pub unit_only : (ts : List TokenTree) (u : UnitTree) → IsUnit ts u → unit_at ts ≡ Ok u
unfolding unit_at
unit_only ts u w = only_by ts u ((units depth).read load_limit (pieces ts)) w (read_answers ts)

-- ---- what is refused

fault_of : (t : Piece) (token : TokenTree) (r : Refusal) → t.token ≡ token → IsFaultAt no_requires t r → IsFaultOf token r
unfolding word
fault_of t token r e (inl q) = subst (λ (z : TokenTree). IsFaultOf z r) e (inl q)
fault_of t token r e (inr (none, w, q)) = subst (λ (z : TokenTree). IsFaultOf z r) e (inr (w, q))

misfit_by : (ts : List TokenTree) (us : List Piece) (t : Piece) (rest : List Piece) (r : Refusal) → IsFaultAt no_requires t r → Farthest units (pieces ts) us (t ∷ rest) → BeginsWithin load_limit units us → OfToken ts us t → IsMisfit ts r
misfit_by ts us t rest r is far k o = record {
  front = o.front;
  token = o.token;
  behind = o.behind;
  parts = o.parts;
  refused = fault_of t o.token r o.of is;
  before = first_within (pieces o.front) o.more (subst (λ (z : List Piece). BeginsWithin load_limit units z) o.before k);
  misfit = λ b. beyond (unit_laws.first_begin (us ++ t ∷ []) o.rest (subst (λ (z : List Piece). Begins units z) (o.with' ∙ sym (append_assoc us (t ∷ []) o.rest)) b));
}
  where
    beyond : Begins units (us ++ t ∷ []) → ⊥
    beyond b =
        let most = far.most (us ++ t ∷ []) rest (far.split ∙ sym (append_assoc us (t ∷ []) rest)) b in
        let e = length-append us (t ∷ []) in
        omega arith

stops_by : (ts : List TokenTree) (r : Refusal) (m : Result (UnitTree × List Piece) Stopped) → Closes (pieces ts) → answer m ≡ Err r → Answers no_requires load_limit units (pieces ts) m → IsMisfit ts r ⊎ IsTooDeep ts r
stops_by ts r m c e (Tree us rest x d far t) = absurd (cc)
stops_by ts r m c e (Fault us t rest q d is far k none) =
    let same : q ≡ r = cc in
    inl (misfit_by ts us t rest r (subst (λ (z : Refusal). IsFaultAt no_requires t z) same is) far k (of_token ts us rest t far.split))
stops_by ts r m c e (TooDeep us t rest d split k begins deep) =
    inr (record { front = us; piece = t; behind = rest; parts = split; passed = cc; before = k; begins = begins; too_deep = deep })
stops_by ts r m c e (Short d k none) =
    let w = unit_begun (unit_levels-Endless no_requires k.level) load_limit (pieces ts) (closes_last (pieces ts) c) k.front in
    absurd (none w.0 (load_limit, record { level = k.level; whole = w.1 }))

pub unit_stops : (ts : List TokenTree) (r : Refusal) → EndsOnce ts → AreSpelled ts → unit_at ts ≡ Err r → IsMisfit ts r ⊎ IsTooDeep ts r
unfolding unit_at
unit_stops ts r once spelled e = stops_by ts r ((units depth).read load_limit (pieces ts)) (pieces_close ts once spelled) e (read_answers ts)

pieces-append : (ts us : List TokenTree) → pieces (ts ++ us) ≡ pieces ts ++ pieces us
pieces-append [] us = refl
pieces-append (t ∷ ts) us = ap (λ (z : List Piece). halves t ++ z) (pieces-append ts us) ∙ sym (append_assoc (halves t) (pieces ts) (pieces us))

-- tokens of which one does not fit are no unit
pub no_unit : (ts : List TokenTree) (r : Refusal) (u : UnitTree) → IsMisfit ts r → IsTree units (pieces ts) u → ⊥
no_unit ts r u m t = m.misfit (unit_laws.first_begin (pieces (m.front ++ m.token ∷ [])) (pieces m.behind) (subst (λ (z : List Piece). Begins units z) parted (unit_laws.trees_begin (pieces ts) u t)))
  where
    parted : pieces ts ≡ pieces (m.front ++ m.token ∷ []) ++ pieces m.behind
    parted = ap (λ (z : List TokenTree). pieces z) (m.parts ∙ sym (append_assoc m.front (m.token ∷ []) m.behind)) ∙ pieces-append (m.front ++ m.token ∷ []) m.behind
