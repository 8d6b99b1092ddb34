-- The laws of node numbers, of a family of productions at each of whose levels the nodes are counted.
use Rattle.std.proofs.Common.{length-append, ℕ, ◌+◌, ◌*◌, ◌≤◌, Bool, true, false, List, [], ◌∷◌, length, if◌then◌else◌, arith}
use Rattle.cx_lexer.specs.Tokens.{TokenTree}
use Rattle.cx_scope.specs.Frames.{Frames}
use Rattle.cx_tree.specs.Trees.{Mark}
use Rattle.cx_tree.specs.Declarations.{DeclTree}
use Rattle.cx_grammar.specs.Pieces.{Piece, First, Second, All, as_piece, is_double, halves, pieces}
use Rattle.cx_grammar.specs.Names.{Context}
use Rattle.cx_grammar.specs.Types.{Numbered, Named}
use Rattle.cx_grammar.specs.Statements.{stmt}
use Rattle.cx_grammar.specs.Declarations.{decl, unit, unit_levels}
use Rattle.cx_grammar.specs.Laws.{Levelled, IsTree, NumberLaws}
use Rattle.cx_grammar.proofs.Counts.{Yields, Counted}
use Rattle.cx_grammar.proofs.NumbersTypes.{Of, OfNamed}
use Rattle.cx_tree.specs.UnitNodes.{stmt_nodes, decl_nodes}
use Rattle.cx_grammar_laws.specs.NodeLaws.{NamedNumberLaws, UnitNumberLaws}
use Rattle.cx_grammar_laws.proofs.NumbersStatements.{stmt-Yields}
use Rattle.cx_grammar_laws.proofs.NumbersDeclarations.{OfUnit, decl-Yields, unit-Yields, unit_levels-Counts}

two_at_most : (b : Bool) (t : TokenTree) → length (if b then as_piece t First ∷ as_piece t Second ∷ [] else as_piece t All ∷ []) ≤ 2
two_at_most true t = omega arith
two_at_most false t = omega arith

-- a token has two pieces at most
length-pieces : (ts : List TokenTree) → length (pieces ts) ≤ 2 * length ts
length-pieces [] = omega arith
length-pieces (t ∷ ts) =
    let e = length-append (halves t) (pieces ts) in
    omega (arith, length-pieces ts, two_at_most (is_double t) t, e)

module _ {A : Type 0} (nodes : A → List Mark) (n : ℕ) (p : Levelled (Named A)) (h : (level : ℕ) → Yields (p level) 0 (OfNamed nodes n 0)) where
  counted : (ts : List Piece) (x : A) (m : ℕ) (names : Frames) → IsTree p ts (x, m, names) → Counted n 0 (nodes x) m (0 + length ts)
  counted ts x m names t = (h t.1.level).yields t.0 ts [] (x, m, names) t.1.whole

  named_laws : NamedNumberLaws nodes n p
  named_laws = record {
    numbered = λ ts x m names t. (counted ts x m names t).numbers;
    next = λ ts x m names t. (counted ts x m names t).next;
    for_pieces = λ ts x m names t. let g = counted ts x m names t in omega (arith, g.next, g.few);
    for_tokens = λ ts x m names t. let g = counted (pieces ts) x m names t in omega (arith, g.next, g.few, length-pieces ts);
  }

module _ {A : Type 0} (nodes : A → List Mark) (n : ℕ) (p : Levelled (Numbered A)) (h : (level : ℕ) → Yields (p level) 0 (Of nodes n 0)) where
  unnamed_counted : (ts : List Piece) (x : A) (m : ℕ) → IsTree p ts (x, m) → Counted n 0 (nodes x) m (0 + length ts)
  unnamed_counted ts x m t = (h t.1.level).yields t.0 ts [] (x, m) t.1.whole

  pub number_laws : NumberLaws nodes n p
  number_laws = record {
    numbered = λ ts x m t. (unnamed_counted ts x m t).numbers;
    next = λ ts x m t. (unnamed_counted ts x m t).next;
    for_pieces = λ ts x m t. let g = unnamed_counted ts x m t in omega (arith, g.next, g.few);
    for_tokens = λ ts x m t. let g = unnamed_counted (pieces ts) x m t in omega (arith, g.next, g.few, length-pieces ts);
  }

module _ (requires : Bool) (c : Context) (n : ℕ) where
  pub stmt_numbers : NamedNumberLaws stmt_nodes n (λ level. stmt (unit_levels requires level) c n)
  stmt_numbers = named_laws stmt_nodes n (λ level. stmt (unit_levels requires level) c n) (λ level. stmt-Yields (unit_levels-Counts requires level) c n 0)

  pub decl_numbers : NamedNumberLaws decl_nodes n (λ level. decl (unit_levels requires level) c n)
  decl_numbers = named_laws decl_nodes n (λ level. decl (unit_levels requires level) c n) (λ level. decl-Yields (unit_levels-Counts requires level) c n 0)

unit_counted : (requires : Bool) (ts : List Piece) (x : List DeclTree) → IsTree (λ level. unit (unit_levels requires level)) ts x → OfUnit (0 + length ts) x
unit_counted requires ts x t = (unit-Yields (unit_levels-Counts requires t.1.level)).yields t.0 ts [] x t.1.whole

pub unit_numbers : (requires : Bool) → UnitNumberLaws (λ level. unit (unit_levels requires level))
unit_numbers requires = record {
  numbered = λ ts x t. (unit_counted requires ts x t).1.numbers;
  for_pieces = λ ts x t. let g = (unit_counted requires ts x t).1 in omega (arith, g.few);
  for_tokens = λ ts x t. let g = (unit_counted requires (pieces ts) x t).1 in omega (arith, g.few, length-pieces ts);
}
