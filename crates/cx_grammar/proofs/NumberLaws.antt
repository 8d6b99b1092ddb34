-- The laws of node numbers, of a family of productions at each of whose levels the nodes are counted.
use Rattle.std.proofs.Common.{length-append, ℕ, ◌+◌, ◌*◌, ◌≤◌, Bool, true, false, List, [], ◌∷◌, length, if◌then◌else◌, arith}
use Rattle.cx_lexer.specs.Tokens.{TokenTree}
use Rattle.cx_tree.specs.Trees.{Mark}
use Rattle.cx_tree.specs.Nodes.{expr_nodes, type_nodes}
use Rattle.cx_grammar.specs.Pieces.{Piece, First, Second, All, as_piece, is_double, halves, pieces}
use Rattle.cx_grammar.specs.Names.{Context}
use Rattle.cx_grammar.specs.Types.{type_id}
use Rattle.cx_grammar.specs.Expressions.{levels, expr, clause}
use Rattle.cx_grammar.specs.Laws.{Levelled, IsTree, NumberLaws}
use Rattle.cx_grammar.proofs.Counts.{Yields, Counted}
use Rattle.cx_grammar.proofs.NumbersTypes.{type_id-Yields}
use Rattle.cx_grammar.proofs.NumbersExpressions.{levels-Counts, expr-Yields, clause-Yields}

two_at_most : (b : Bool) (t : TokenTree) → length (if b then as_piece t First ∷ as_piece t Second ∷ [] else as_piece t All ∷ []) ≤ 2
two_at_most true t = omega arith
two_at_most false t = omega arith

-- a token has two pieces at most
length-pieces : (ts : List TokenTree) → length (pieces ts) ≤ 2 * length ts
length-pieces [] = omega arith
length-pieces (t ∷ ts) =
    let e = length-append (halves t) (pieces ts) in
    omega (arith, length-pieces ts, two_at_most (is_double t) t, e)

module _ {A : Type 0} (nodes : A → List Mark) (n : ℕ) (p : Levelled (A × ℕ)) (h : (level : ℕ) → Yields (p level) 0 (λ k x. Counted n 0 (nodes x.0) x.1 k)) where
  counted : (ts : List Piece) (x : A) (m : ℕ) → IsTree p ts (x, m) → Counted n 0 (nodes x) m (0 + length ts)
  counted ts x m t = (h t.1.level).yields t.0 ts [] (x, m) t.1.whole

  number_laws : NumberLaws nodes n p
  number_laws = record {
    numbered = λ ts x m t. (counted ts x m t).numbers;
    next = λ ts x m t. (counted ts x m t).next;
    for_pieces = λ ts x m t. let g = counted ts x m t in omega (arith, g.next, g.few);
    for_tokens = λ ts x m t. let g = counted (pieces ts) x m t in omega (arith, g.next, g.few, length-pieces ts);
  }

module _ (requires : Bool) (c : Context) (n : ℕ) where
  pub expr_numbers : NumberLaws expr_nodes n (λ level. expr (levels requires level) c n)
  expr_numbers = number_laws expr_nodes n (λ level. expr (levels requires level) c n) (λ level. expr-Yields (levels-Counts requires level) c n 0)

  pub type_numbers : NumberLaws type_nodes n (λ level. type_id (levels requires level) c n)
  type_numbers = number_laws type_nodes n (λ level. type_id (levels requires level) c n) (λ level. type_id-Yields (levels-Counts requires level) c n 0)

  pub clause_numbers : NumberLaws expr_nodes n (λ level. clause (levels requires level) c n)
  clause_numbers = number_laws expr_nodes n (λ level. clause (levels requires level) c n) (λ level. clause-Yields (levels-Counts requires level) c n 0)
