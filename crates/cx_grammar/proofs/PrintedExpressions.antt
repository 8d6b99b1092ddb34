-- Expressions are as they are printed.
use Rattle.std.proofs.Common.{◌≡◌, ◌⊎◌, inl, inr, ℕ, Bool, true, false, ◌&&◌, List, [], ◌++◌, codes, is_some, refl, sym, ap, ◌∙◌, true≢false}
use Rattle.std.proofs.lemmas.Slice.Eq.{bytes_eq-Decides}
use Rattle.cx_tree.specs.Trees.{ExprTree}
use Rattle.cx_grammar.specs.Pieces.{Piece}
use Rattle.cx_grammar.specs.Words.{punct, spelling}
use Rattle.cx_grammar.specs.Production.{Production, give, ◌>>=◌, when, begins}
use Rattle.cx_grammar.specs.Names.{Context}
use Rattle.cx_grammar.specs.Types.{Numbered, Below}
use Rattle.cx_grammar.specs.Expressions.{unary, rests, operand, conditional, assignment, assignment_of, is_assignment, expr_behind, expr}
use Rattle.cx_grammar.specs.Printed.{IsAsPrinted, lor, behind_lor, printed_expr}
use Rattle.cx_grammar.proofs.Printed.{right_whole, left_whole, right_front, left_front, Starts, token-Starts, when_cases, when_first, when_second, when_fronts, first_front, second_front, begins_none, no_other, neither}

last_true : (a b : Bool) → (a && b) ≡ true → b ≡ true
last_true true b e = e
last_true false b e = absurd (true≢false (sym e))

-- `?` is no assignment operator
question : (angle : ℕ) (t : Piece) → is_assignment angle t ≡ true → punct (codes "?") t ≡ false
unfolding is_assignment punct assignment_of
question angle t e = go (punct (codes "?") t) refl
  where
    go : (c : Bool) → punct (codes "?") t ≡ c → c ≡ false
    go false d = refl
    go true d =
        let same : spelling t.token.text ≡ codes "?" = (bytes_eq-Decides (spelling t.token.text) (codes "?")).0 (last_true _ _ d) in
        absurd (true≢false (sym (last_true _ _ e) ∙ ap (λ (s : List ℕ). is_some (assignment_of s)) same))

module _ (b : Below) (c : Context) where
  conditional-Starts : (e : Numbered ExprTree) → Starts (punct (codes "?")) (conditional b c e)
  unfolding conditional
  conditional-Starts e = token-Starts _ _ _

  assignment-Starts : (e : Numbered ExprTree) → Starts (is_assignment c.angle) (assignment b c e)
  unfolding assignment
  assignment-Starts e = token-Starts _ _ _

  -- what is chosen behind an operand of the loosest operators
  abbrev other : Numbered ExprTree → Production (Numbered ExprTree)
  other left = when (is_assignment c.angle) (assignment b c left) (give left)

  abbrev pick : Numbered ExprTree → Production (Numbered ExprTree)
  pick left = when (punct (codes "?")) (conditional b c left) (other left)

  data Picked (left : Numbered ExprTree) (l : ℕ) (ts behind : List Piece) (y : Numbered ExprTree) : Type 0 where
    Condition : (conditional b c left).whole l ts behind y → Picked left l ts behind y
    Assigns : (assignment b c left).whole l ts behind y → Picked left l ts behind y
    Alone : (give left).whole l ts behind y → Picked left l ts behind y

  picked : (left : Numbered ExprTree) (l : ℕ) (ts behind : List Piece) (y : Numbered ExprTree) → (pick left).whole l ts behind y → Picked left l ts behind y
  picked left l ts behind y w = go (when_cases (punct (codes "?")) (conditional b c left) (other left) l ts behind y w)
    where
      last : (assignment b c left).whole l ts behind y ⊎ (give left).whole l ts behind y → Picked left l ts behind y
      last (inl w) = Assigns w
      last (inr w) = Alone w

      go : (conditional b c left).whole l ts behind y ⊎ (other left).whole l ts behind y → Picked left l ts behind y
      go (inl w) = Condition w
      go (inr w) = last (when_cases (is_assignment c.angle) (assignment b c left) (give left) l ts behind y w)

  pick_of : (left : Numbered ExprTree) (l : ℕ) (ts behind : List Piece) (y : Numbered ExprTree) → begins (behind_lor c) behind ≡ false → Picked left l ts behind y → (pick left).whole l ts behind y
  pick_of left l ts behind y n (Condition w) = when_first (punct (codes "?")) (conditional b c left) (other left) l ts behind y ((conditional-Starts left).begins_so l ts behind y w) w
  pick_of left l ts behind y n (Assigns w) =
      let e = (assignment-Starts left).begins_so l ts behind y w in
      when_second (punct (codes "?")) (conditional b c left) (other left) l ts behind y (no_other (punct (codes "?")) (is_assignment c.angle) (question c.angle) (ts ++ behind) e)
      (when_first (is_assignment c.angle) (assignment b c left) (give left) l ts behind y e w)
  pick_of left l ts behind y n (Alone w) =
      let e = neither (punct (codes "?")) (is_assignment c.angle) (ts ++ behind) (ap (λ (s : List Piece). begins (behind_lor c) (s ++ behind)) w.0 ∙ n) in
      when_second (punct (codes "?")) (conditional b c left) (other left) l ts behind y e.0
      (when_second (is_assignment c.angle) (assignment b c left) (give left) l ts behind y e.1 w)

  data Begun (left : Numbered ExprTree) (l : ℕ) (ts : List Piece) : Type 0 where
    Condition_begun : (conditional b c left).front l ts → Begun left l ts
    Assigns_begun : (assignment b c left).front l ts → Begun left l ts
    Nothing : ts ≡ [] → Begun left l ts

  begun : (left : Numbered ExprTree) (l : ℕ) (ts : List Piece) → (pick left).front l ts → Begun left l ts
  begun left l ts k = go (when_fronts (punct (codes "?")) (conditional b c left) (other left) l ts k)
    where
      last : (assignment b c left).front l ts ⊎ (ts ≡ []) → Begun left l ts
      last (inl k) = Assigns_begun k
      last (inr k) = Nothing k

      go : (conditional b c left).front l ts ⊎ (other left).front l ts → Begun left l ts
      go (inl k) = Condition_begun k
      go (inr k) = last (when_fronts (is_assignment c.angle) (assignment b c left) (give left) l ts k)

  nothing_begun : (left : Numbered ExprTree) (l : ℕ) (ts : List Piece) → ts ≡ [] → (pick left).front l ts
  nothing_begun left l ts e =
      let none : (q : Piece → Bool) → begins q ts ≡ false = λ q. ap (λ (s : List Piece). begins q s) e ∙ begins_none q in
      second_front (punct (codes "?")) (conditional b c left) (other left) l ts (none (punct (codes "?")))
      (second_front (is_assignment c.angle) (assignment b c left) (give left) l ts (none (is_assignment c.angle)) e)

  begun_of : (left : Numbered ExprTree) (l : ℕ) (ts : List Piece) → Begun left l ts → (pick left).front l ts
  begun_of left l ts (Condition_begun k) = go ((conditional-Starts left).begun_so l ts k)
    where
      go : (ts ≡ []) ⊎ (begins (punct (codes "?")) ts ≡ true) → (pick left).front l ts
      go (inl e) = nothing_begun left l ts e
      go (inr e) = first_front (punct (codes "?")) (conditional b c left) (other left) l ts e k
  begun_of left l ts (Assigns_begun k) = go ((assignment-Starts left).begun_so l ts k)
    where
      go : (ts ≡ []) ⊎ (begins (is_assignment c.angle) ts ≡ true) → (pick left).front l ts
      go (inl e) = nothing_begun left l ts e
      go (inr e) =
          second_front (punct (codes "?")) (conditional b c left) (other left) l ts (no_other (punct (codes "?")) (is_assignment c.angle) (question c.angle) ts e)
          (first_front (is_assignment c.angle) (assignment b c left) (give left) l ts e k)
  begun_of left l ts (Nothing e) = nothing_begun left l ts e

  module _ (n : ℕ) where
    -- the production as an operand of the loosest operators, and what is chosen
    regrouped : (l : ℕ) (ts behind : List Piece) (y : Numbered ExprTree) → (expr b c n).whole l ts behind y → (lor b c n >>= pick).whole l ts behind y
    unfolding expr expr_behind operand
    regrouped l ts behind y w = left_whole (unary b c n) (rests b 10 c) pick l ts behind y w

    grouped_back : (l : ℕ) (ts behind : List Piece) (y : Numbered ExprTree) → (lor b c n >>= pick).whole l ts behind y → (expr b c n).whole l ts behind y
    unfolding expr expr_behind operand
    grouped_back l ts behind y w = right_whole (unary b c n) (rests b 10 c) pick l ts behind y w

    regrouped_front : (l : ℕ) (ts : List Piece) → (expr b c n).front l ts → (lor b c n >>= pick).front l ts
    unfolding expr expr_behind operand
    regrouped_front l ts k = left_front (unary b c n) (rests b 10 c) pick l ts k

    front_back : (l : ℕ) (ts : List Piece) → (lor b c n >>= pick).front l ts → (expr b c n).front l ts
    unfolding expr expr_behind operand
    front_back l ts k = right_front (unary b c n) (rests b 10 c) pick l ts k

    to_printed : (l : ℕ) (ts behind : List Piece) (y : Numbered ExprTree) → (lor b c n >>= pick).whole l ts behind y → (printed_expr b c n).whole l ts behind y
    unfolding printed_expr
    to_printed l ts behind y (left, us, vs, e, w, v) = go (picked left l vs behind y v)
      where
        go : Picked left l vs behind y → (printed_expr b c n).whole l ts behind y
        go (Condition v) = inl (left, us, vs, e, w, inl v)
        go (Assigns v) = inr (left, us, vs, e, w, v)
        go (Alone v) = inl (left, us, vs, e, w, inr v)

    from_printed : (l : ℕ) (ts behind : List Piece) (y : Numbered ExprTree) → begins (behind_lor c) behind ≡ false → (printed_expr b c n).whole l ts behind y → (lor b c n >>= pick).whole l ts behind y
    unfolding printed_expr
    from_printed l ts behind y h (inl (left, us, vs, e, w, inl v)) = (left, us, vs, e, w, pick_of left l vs behind y h (Condition v))
    from_printed l ts behind y h (inl (left, us, vs, e, w, inr v)) = (left, us, vs, e, w, pick_of left l vs behind y h (Alone v))
    from_printed l ts behind y h (inr (left, us, vs, e, w, v)) = (left, us, vs, e, w, pick_of left l vs behind y h (Assigns v))

    to_printed_front : (l : ℕ) (ts : List Piece) → (lor b c n >>= pick).front l ts → (printed_expr b c n).front l ts
    unfolding printed_expr
    to_printed_front l ts (inl k) = inl (inl k)
    to_printed_front l ts (inr (left, us, vs, e, w, k)) = go (begun left l vs k)
      where
        go : Begun left l vs → (printed_expr b c n).front l ts
        go (Condition_begun k) = inl (inr (left, us, vs, e, w, inl k))
        go (Assigns_begun k) = inr (inr (left, us, vs, e, w, k))
        go (Nothing k) = inl (inr (left, us, vs, e, w, inr k))

    from_printed_front : (l : ℕ) (ts : List Piece) → (printed_expr b c n).front l ts → (lor b c n >>= pick).front l ts
    unfolding printed_expr
    from_printed_front l ts (inl (inl k)) = inl k
    from_printed_front l ts (inl (inr (left, us, vs, e, w, inl k))) = inr (left, us, vs, e, w, begun_of left l vs (Condition_begun k))
    from_printed_front l ts (inl (inr (left, us, vs, e, w, inr k))) = inr (left, us, vs, e, w, begun_of left l vs (Nothing k))
    from_printed_front l ts (inr (inl k)) = inl k
    from_printed_front l ts (inr (inr (left, us, vs, e, w, k))) = inr (left, us, vs, e, w, begun_of left l vs (Assigns_begun k))

    pub expr_printed : IsAsPrinted (expr b c n) (behind_lor c) (printed_expr b c n)
    expr_printed = record {
      same_trees = λ l ts behind y h. (λ w. to_printed l ts behind y (regrouped l ts behind y w), λ w. grouped_back l ts behind y (from_printed l ts behind y h w));
      same_beginnings = λ l ts. (λ k. to_printed_front l ts (regrouped_front l ts k), λ k. front_back l ts (from_printed_front l ts k));
    }
