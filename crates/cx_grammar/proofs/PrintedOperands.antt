-- Binary expressions are as they are printed.
use Rattle.std.proofs.Common.{Bool, ◌≡◌, ◌⊎◌, inl, inr, ℕ, zero, suc, ◌+◌, true, false, List, [], ◌∷◌, ◌++◌, refl, sym, ap, ◌∙◌, subst, append-nil}
use Rattle.cx_tree.specs.Trees.{ExprTree, BinaryTree}
use Rattle.cx_tree.specs.declared.operators.BinaryOperator.{BinaryOperator}
use Rattle.cx_grammar.specs.Pieces.{Piece}
use Rattle.cx_grammar.specs.Production.{Production, give, ◌>>=◌, begins}
use Rattle.cx_grammar.specs.Names.{Context, deeper}
use Rattle.cx_grammar.specs.Types.{Numbered, Below}
use Rattle.cx_grammar.specs.Expressions.{levels, marked, unary, rests, operator, is_operator, operand, binary_chain, binary_rest}
use Rattle.cx_grammar.specs.Printed.{IsAsPrinted, Joined, grouped, joined, printed_operand}
use Rattle.cx_grammar.proofs.Lawful.{Lawful}
use Rattle.cx_grammar.proofs.Expressions.{levels-Grows}
use Rattle.cx_grammar.proofs.Printed.{right_whole, left_whole, right_front, left_front, Starts, token-Starts, first-Starts, when_cases, when_first, when_second, when_fronts, first_front, begins_none}

operator-Starts : (level : ℕ) (c : Context) → Starts (is_operator level c.angle) (operator level c)
unfolding operator
operator-Starts level c = token-Starts _ _ _

chain-Starts : (b : Below) (level : ℕ) (c : Context) (left : Numbered ExprTree) → Starts (is_operator level c.angle) (binary_chain b level c left)
unfolding binary_chain
chain-Starts b level c left = first-Starts _ (operator-Starts level c)

-- the tree that more operators make of a left operand
abbrev more_right : Numbered ExprTree → BinaryOperator → Numbered ExprTree → Numbered ExprTree
more_right left o right = (BinaryTree (marked right.1 left.0) o left.0 right.0, right.1 + 1)

record Grouping (requires : Bool) (depth level : ℕ) (c : Context) (left : Numbered ExprTree) (l : ℕ) (ts behind : List Piece) (y : Numbered ExprTree) : Type 0 where
  more : List Joined
  whole : (joined requires depth level c left.1).whole l ts behind more
  same : y ≡ grouped left more

module _ (requires : Bool) (level : ℕ) where
  alone_whole : (depth : ℕ) (c : Context) (n l : ℕ) (ts behind : List Piece) → ts ≡ [] → (joined requires depth level c n).whole l ts behind []
  unfolding joined
  alone_whole zero c n l ts behind e = inr (e, refl)
  alone_whole (suc depth) c n l ts behind e = inr (e, refl)

  alone_front : (depth : ℕ) (c : Context) (n l : ℕ) (ts : List Piece) → ts ≡ [] → (joined requires depth level c n).front l ts
  unfolding joined
  alone_front zero c n l ts e = inr e
  alone_front (suc depth) c n l ts e = inr e

  -- ---- trees

  abbrev Groups : ℕ → Type 0
  Groups depth = (c : Context) (left : Numbered ExprTree) (l : ℕ) (ts behind : List Piece) (y : Numbered ExprTree) → (binary_rest (levels requires depth) level c left).whole l ts behind y → Grouping requires depth level c left l ts behind y

  no_chain : (c : Context) (left : Numbered ExprTree) (l : ℕ) (ts behind : List Piece) (y : Numbered ExprTree) → (binary_chain (levels requires zero) level c left).whole l ts behind y → ⊥
  unfolding binary_chain levels
  no_chain c left l ts behind y (o, us, vs, e, w, (right, us', vs', e', w', v)) = w'

  groups_chain : (depth : ℕ) → Groups depth → (c : Context) (left : Numbered ExprTree) (l : ℕ) (ts behind : List Piece) (y : Numbered ExprTree) → (binary_chain (levels requires (suc depth)) level c left).whole l ts behind y
      → Grouping requires (suc depth) level c left l ts behind y
  unfolding binary_chain levels joined
  groups_chain depth ih c left l ts behind y (o, us, vs, e, w, (right, us', vs', e', w', v)) =
      let g = ih (deeper c) (more_right left o right) l vs' behind y v in
      record {
        more = (o, right) ∷ g.more;
        whole = inl (o, us, vs, e, w, (right, us', vs', e', w', (g.more, vs', [], sym (append-nil vs'), g.whole, (refl, refl))));
        same = g.same;
      }

  groups_where : (depth : ℕ) → ((c : Context) (left : Numbered ExprTree) (l : ℕ) (ts behind : List Piece) (y : Numbered ExprTree) → (binary_chain (levels requires depth) level c left).whole l ts behind y → Grouping requires depth level c left l ts behind y)
      → Groups depth
  unfolding binary_rest
  groups_where depth h c left l ts behind y w = go (when_cases (is_operator level c.angle) (binary_chain (levels requires depth) level c left) (give left) l ts behind y w)
    where
      go : (binary_chain (levels requires depth) level c left).whole l ts behind y ⊎ (give left).whole l ts behind y → Grouping requires depth level c left l ts behind y
      go (inl k) = h c left l ts behind y k
      go (inr (e, d)) = record { more = []; whole = alone_whole depth c left.1 l ts behind e; same = d }

  groups : (depth : ℕ) → Groups depth
  groups zero = groups_where zero (λ c left l ts behind y w. absurd (no_chain c left l ts behind y w))
  groups (suc depth) = groups_where (suc depth) (groups_chain depth (groups depth))

  abbrev Ungroups : ℕ → Type 0
  Ungroups depth = (c : Context) (left : Numbered ExprTree) (l : ℕ) (ts behind : List Piece) (more : List Joined) → begins (is_operator level c.angle) behind ≡ false → (joined requires depth level c left.1).whole l ts behind more
      → (binary_rest (levels requires depth) level c left).whole l ts behind (grouped left more)

  rest_alone : (depth : ℕ) (c : Context) (left : Numbered ExprTree) (l : ℕ) (ts behind : List Piece) (more : List Joined) → begins (is_operator level c.angle) behind ≡ false → ts ≡ [] → more ≡ []
      → (binary_rest (levels requires depth) level c left).whole l ts behind (grouped left more)
  unfolding binary_rest
  rest_alone depth c left l ts behind more h e d =
      when_second (is_operator level c.angle) (binary_chain (levels requires depth) level c left) (give left) l ts behind (grouped left more)
      (ap (λ (s : List Piece). begins (is_operator level c.angle) (s ++ behind)) e ∙ h) (e, ap (λ (z : List Joined). grouped left z) d)

  rest_chain : (depth : ℕ) (c : Context) (left : Numbered ExprTree) (l : ℕ) (ts behind : List Piece) (y : Numbered ExprTree) → (binary_chain (levels requires depth) level c left).whole l ts behind y → (binary_rest (levels requires depth) level c left).whole l ts behind y
  unfolding binary_rest
  rest_chain depth c left l ts behind y w =
      when_first (is_operator level c.angle) (binary_chain (levels requires depth) level c left) (give left) l ts behind y ((chain-Starts (levels requires depth) level c left).begins_so l ts behind y w) w

  ungroups-zero : Ungroups zero
  unfolding joined
  ungroups-zero c left l ts behind more h (inl (o, us, vs, e, w, v)) = absurd v
  ungroups-zero c left l ts behind more h (inr (e, d)) = rest_alone zero c left l ts behind more h e d

  ungroups-suc : (depth : ℕ) → Ungroups depth → Ungroups (suc depth)
  unfolding joined binary_chain levels
  ungroups-suc depth ih c left l ts behind more h (inr (e, d)) = rest_alone (suc depth) c left l ts behind more h e d
  ungroups-suc depth ih c left l ts behind more h (inl (o, us, vs, e, w, (right, us', vs', e', w', (rest, us2, vs2, e2, w2, (e3, d))))) =
      let all : us2 ≡ vs' = sym (e2 ∙ ap (λ (s : List Piece). us2 ++ s) e3 ∙ append-nil us2) in
      let k = ih (deeper c) (more_right left o right) l us2 (vs2 ++ behind) rest (ap (λ (s : List Piece). begins (is_operator level c.angle) (s ++ behind)) e3 ∙ h) w2 in
      let k' = subst (λ (s : List Piece). (binary_rest (levels requires depth) level (deeper c) (more_right left o right)).whole l s behind (grouped (more_right left o right) rest)) all
      (subst (λ (s : List Piece). (binary_rest (levels requires depth) level (deeper c) (more_right left o right)).whole l us2 (s ++ behind) (grouped (more_right left o right) rest)) e3 k) in
      subst (λ (z : List Joined). (binary_rest (levels requires (suc depth)) level c left).whole l ts behind (grouped left z)) (sym d)
      (rest_chain (suc depth) c left l ts behind (grouped left ((o, right) ∷ rest)) (chained o us vs right us' vs' rest e w e' w' k'))
    where
      chained : (o : BinaryOperator) (us vs : List Piece) (right : Numbered ExprTree) (us' vs' : List Piece) (rest : List Joined) → ts ≡ us ++ vs → (operator level c).whole l us (vs ++ behind) o
          → vs ≡ us' ++ vs' → (operand (levels requires depth) level (deeper c) left.1).whole l us' (vs' ++ behind) right
          → (binary_rest (levels requires depth) level (deeper c) (more_right left o right)).whole l vs' behind (grouped (more_right left o right) rest)
          → (binary_chain (levels requires (suc depth)) level c left).whole l ts behind (grouped left ((o, right) ∷ rest))
      chained o us vs right us' vs' rest e w e' w' k = (o, us, vs, e, w, (right, us', vs', e', w', k))

  ungroups : (depth : ℕ) → Ungroups depth
  ungroups zero = ungroups-zero
  ungroups (suc depth) = ungroups-suc depth (ungroups depth)

  -- ---- beginnings

  abbrev Fronts : ℕ → Type 0
  Fronts depth = (c : Context) (left : Numbered ExprTree) (l : ℕ) (ts : List Piece) → (binary_rest (levels requires depth) level c left).front l ts → (joined requires depth level c left.1).front l ts

  fronts_where : (depth : ℕ) → ((c : Context) (left : Numbered ExprTree) (l : ℕ) (ts : List Piece) → (binary_chain (levels requires depth) level c left).front l ts → (joined requires depth level c left.1).front l ts) → Fronts depth
  unfolding binary_rest
  fronts_where depth h c left l ts k = go (when_fronts (is_operator level c.angle) (binary_chain (levels requires depth) level c left) (give left) l ts k)
    where
      go : (binary_chain (levels requires depth) level c left).front l ts ⊎ (ts ≡ []) → (joined requires depth level c left.1).front l ts
      go (inl k) = h c left l ts k
      go (inr e) = alone_front depth c left.1 l ts e

  chain_fronts-zero : (c : Context) (left : Numbered ExprTree) (l : ℕ) (ts : List Piece) → (binary_chain (levels requires zero) level c left).front l ts → (joined requires zero level c left.1).front l ts
  unfolding binary_chain levels joined
  chain_fronts-zero c left l ts (inl k) = inl (inl k)
  chain_fronts-zero c left l ts (inr (o, us, vs, e, w, inl k)) = inl (inr (o, us, vs, e, w, k))
  chain_fronts-zero c left l ts (inr (o, us, vs, e, w, inr (right, us', vs', e', w', k))) = absurd w'

  chain_fronts-suc : (depth : ℕ) → Fronts depth → (c : Context) (left : Numbered ExprTree) (l : ℕ) (ts : List Piece) → (binary_chain (levels requires (suc depth)) level c left).front l ts → (joined requires (suc depth) level c left.1).front l ts
  unfolding binary_chain levels joined
  chain_fronts-suc depth ih c left l ts (inl k) = inl (inl k)
  chain_fronts-suc depth ih c left l ts (inr (o, us, vs, e, w, inl k)) = inl (inr (o, us, vs, e, w, inl k))
  chain_fronts-suc depth ih c left l ts (inr (o, us, vs, e, w, inr (right, us', vs', e', w', k))) = inl (inr (o, us, vs, e, w, inr (right, us', vs', e', w', inl (ih (deeper c) (more_right left o right) l vs' k))))

  fronts : (depth : ℕ) → Fronts depth
  fronts zero = fronts_where zero chain_fronts-zero
  fronts (suc depth) = fronts_where (suc depth) (chain_fronts-suc depth (fronts depth))

  abbrev Backs : ℕ → Type 0
  Backs depth = (c : Context) (left : Numbered ExprTree) (l : ℕ) (ts : List Piece) → (joined requires depth level c left.1).front l ts → (binary_rest (levels requires depth) level c left).front l ts

  rest-Lawful : (depth : ℕ) (c : Context) (left : Numbered ExprTree) → Lawful requires (binary_rest (levels requires depth) level c left)
  unfolding levels
  rest-Lawful depth c left = ((levels-Grows (suc depth)).binary_rest level c left).low

  rest_empty : (depth : ℕ) (c : Context) (left : Numbered ExprTree) (l : ℕ) (ts : List Piece) → ts ≡ [] → (binary_rest (levels requires depth) level c left).front l ts
  rest_empty depth c left l ts e = subst (λ (s : List Piece). (binary_rest (levels requires depth) level c left).front l s) (sym e) ((rest-Lawful depth c left).starts l)

  chain_front : (depth : ℕ) (c : Context) (left : Numbered ExprTree) (l : ℕ) (ts : List Piece) → (binary_chain (levels requires depth) level c left).front l ts → (binary_rest (levels requires depth) level c left).front l ts
  unfolding binary_rest
  chain_front depth c left l ts k = go ((chain-Starts (levels requires depth) level c left).begun_so l ts k)
    where
      go : (ts ≡ []) ⊎ (begins (is_operator level c.angle) ts ≡ true) → (binary_rest (levels requires depth) level c left).front l ts
      go (inl e) = rest_empty depth c left l ts e
      go (inr e) = first_front (is_operator level c.angle) (binary_chain (levels requires depth) level c left) (give left) l ts e k

  -- where the last operand of a chain is whole
  whole_begun : (depth : ℕ) (c : Context) (left : Numbered ExprTree) (l : ℕ) (ts us vs : List Piece) (more : List Joined) → ts ≡ us ++ vs → (joined requires depth level c left.1).whole l us vs more → vs ≡ []
      → (binary_rest (levels requires depth) level c left).front l ts
  whole_begun depth c left l ts us vs more e w d =
      let k = ungroups depth c left l us vs more (ap (λ (s : List Piece). begins (is_operator level c.angle) s) d ∙ begins_none (is_operator level c.angle)) w in
      subst (λ (s : List Piece). (binary_rest (levels requires depth) level c left).front l s) (sym (e ∙ ap (λ (s : List Piece). us ++ s) d ∙ append-nil us)) ((rest-Lawful depth c left).whole_front l us vs (grouped left more) k)

  backs-zero : Backs zero
  unfolding joined binary_chain levels
  backs-zero c left l ts (inl (inl k)) = chain_front zero c left l ts (inl k)
  backs-zero c left l ts (inl (inr (o, us, vs, e, w, k))) = chain_front zero c left l ts (inr (o, us, vs, e, w, inl k))
  backs-zero c left l ts (inr e) = rest_empty zero c left l ts e

  backs-suc : (depth : ℕ) → Backs depth → Backs (suc depth)
  unfolding joined binary_chain levels
  backs-suc depth ih c left l ts (inr e) = rest_empty (suc depth) c left l ts e
  backs-suc depth ih c left l ts (inl (inl k)) = chain_front (suc depth) c left l ts (inl k)
  backs-suc depth ih c left l ts (inl (inr (o, us, vs, e, w, inl k))) = chain_front (suc depth) c left l ts (inr (o, us, vs, e, w, inl k))
  backs-suc depth ih c left l ts (inl (inr (o, us, vs, e, w, inr (right, us', vs', e', w', inl k)))) =
      chain_front (suc depth) c left l ts (inr (o, us, vs, e, w, inr (right, us', vs', e', w', ih (deeper c) (more_right left o right) l vs' k)))
  backs-suc depth ih c left l ts (inl (inr (o, us, vs, e, w, inr (right, us', vs', e', w', inr (more, us2, vs2, e2, w2, d))))) =
      chain_front (suc depth) c left l ts (inr (o, us, vs, e, w, inr (right, us', vs', e', w', whole_begun depth (deeper c) (more_right left o right) l vs' us2 vs2 more e2 w2 d)))

  backs : (depth : ℕ) → Backs depth
  backs zero = backs-zero
  backs (suc depth) = backs-suc depth (backs depth)

  -- ---- an operand of the next level

  module _ (depth : ℕ) (c : Context) (n : ℕ) where
    abbrev chains : Production (Numbered ExprTree)
    chains = operand (levels requires depth) level c n >>= binary_rest (levels requires depth) level c

    to_chains : (l : ℕ) (ts behind : List Piece) (y : Numbered ExprTree) → (operand (levels requires depth) (suc level) c n).whole l ts behind y → chains.whole l ts behind y
    unfolding operand rests
    to_chains l ts behind y w = left_whole (unary (levels requires depth) c n) (rests (levels requires depth) level c) (binary_rest (levels requires depth) level c) l ts behind y w

    from_chains : (l : ℕ) (ts behind : List Piece) (y : Numbered ExprTree) → chains.whole l ts behind y → (operand (levels requires depth) (suc level) c n).whole l ts behind y
    unfolding operand rests
    from_chains l ts behind y w = right_whole (unary (levels requires depth) c n) (rests (levels requires depth) level c) (binary_rest (levels requires depth) level c) l ts behind y w

    to_chains_front : (l : ℕ) (ts : List Piece) → (operand (levels requires depth) (suc level) c n).front l ts → chains.front l ts
    unfolding operand rests
    to_chains_front l ts k = left_front (unary (levels requires depth) c n) (rests (levels requires depth) level c) (binary_rest (levels requires depth) level c) l ts k

    from_chains_front : (l : ℕ) (ts : List Piece) → chains.front l ts → (operand (levels requires depth) (suc level) c n).front l ts
    unfolding operand rests
    from_chains_front l ts k = right_front (unary (levels requires depth) c n) (rests (levels requires depth) level c) (binary_rest (levels requires depth) level c) l ts k

    printed_of : (l : ℕ) (ts behind : List Piece) (y : Numbered ExprTree) → chains.whole l ts behind y → (printed_operand requires depth level c n).whole l ts behind y
    unfolding printed_operand
    printed_of l ts behind y (left, us, vs, e, w, v) =
        let g = groups depth c left l vs behind y v in
        (left, us, vs, e, w, (g.more, vs, [], sym (append-nil vs), g.whole, (refl, g.same)))

    chains_of : (l : ℕ) (ts behind : List Piece) (y : Numbered ExprTree) → begins (is_operator level c.angle) behind ≡ false → (printed_operand requires depth level c n).whole l ts behind y → chains.whole l ts behind y
    unfolding printed_operand
    chains_of l ts behind y h (left, us, vs, e, w, (more, us', vs', e', w', (e2, d))) =
        let all : us' ≡ vs = sym (e' ∙ ap (λ (s : List Piece). us' ++ s) e2 ∙ append-nil us') in
        let k = ungroups depth c left l us' (vs' ++ behind) more (ap (λ (s : List Piece). begins (is_operator level c.angle) (s ++ behind)) e2 ∙ h) w' in (
          left,
          us,
          vs,
          e,
          w,
          subst (λ (z : Numbered ExprTree). (binary_rest (levels requires depth) level c left).whole l vs behind z) (sym d)
              (subst (λ (s : List Piece). (binary_rest (levels requires depth) level c left).whole l s behind (grouped left more)) all
              (subst (λ (s : List Piece). (binary_rest (levels requires depth) level c left).whole l us' (s ++ behind) (grouped left more)) e2 k)),
        )

    printed_front : (l : ℕ) (ts : List Piece) → chains.front l ts → (printed_operand requires depth level c n).front l ts
    unfolding printed_operand
    printed_front l ts (inl k) = inl k
    printed_front l ts (inr (left, us, vs, e, w, k)) = inr (left, us, vs, e, w, inl (fronts depth c left l vs k))

    chains_front : (l : ℕ) (ts : List Piece) → (printed_operand requires depth level c n).front l ts → chains.front l ts
    unfolding printed_operand
    chains_front l ts (inl k) = inl k
    chains_front l ts (inr (left, us, vs, e, w, inl k)) = inr (left, us, vs, e, w, backs depth c left l vs k)
    chains_front l ts (inr (left, us, vs, e, w, inr (more, us', vs', e', w', d))) = inr (left, us, vs, e, w, whole_begun depth c left l vs us' vs' more e' w' d)

    pub operand_printed : IsAsPrinted (operand (levels requires depth) (suc level) c n) (is_operator level c.angle) (printed_operand requires depth level c n)
    operand_printed = record {
      same_trees = λ l ts behind y h. (λ w. printed_of l ts behind y (to_chains l ts behind y w), λ w. from_chains l ts behind y (chains_of l ts behind y h w));
      same_beginnings = λ l ts. (λ k. printed_front l ts (to_chains_front l ts k), λ k. from_chains_front l ts (chains_front l ts k));
    }
