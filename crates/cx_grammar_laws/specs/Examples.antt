-- Requires-expressions as examples ([expr.prim.req]): texts, and the trees that they are meant to be. In them T is a
-- type, C a concept, and x a value; the place of a token is its number in the text.
use Rattle.std.specs.Prelude.{ℕ, Bool, false, true, List, [], ◌∷◌, Result, Ok, Err, Option, Some, None, codes}
use Rattle.cx_base.specs.Refusal.{Passed}
use Rattle.cx_base.specs.declared.kind.Kind.TheVariants as fault
use Rattle.cx_base.specs.declared.limit.Limit.TheVariants as limits
use Rattle.cx_base.specs.declared.place.Place.{Place}
use Rattle.cx_lexer.specs.declared.token.TokenKind.TheVariants as kind
use Rattle.cx_scope.specs.Frames.{entered, noted}
use Rattle.cx_scope.specs.declared.name_kind.NameKind.TheVariants as names
use Rattle.cx_tree.specs.declared.operators.BinaryOperator.TheVariants as binary
use Rattle.cx_tree.specs.Trees.{ExprTree, NameTree, BinaryTree, RequiresTree, TypeTree, OfCore, TypeNameTree, no_argument, LocalTrees, no_local, and_local, RequirementTrees, and_simple, and_required_type, and_compound, and_constrained, and_nested, no_requirement}
use Rattle.cx_grammar.specs.Pieces.{Piece, All, as_piece}
use Rattle.cx_grammar.specs.Production.{Stopped, At}
use Rattle.cx_grammar.specs.Words.{refused}
use Rattle.cx_grammar.specs.Types.{Numbered, numbered}
use Rattle.cx_grammar.specs.Expressions.{levels, expr}

abbrev pub at : ℕ → Place
at n = record { line = 1; col = n }

abbrev pub word : List ℕ → ℕ → Piece
word text n = as_piece (record { kind = kind.Word; text = text; at = at n }) All

abbrev pub sign : List ℕ → ℕ → Piece
sign text n = as_piece (record { kind = kind.Punct; text = text; at = at n }) All

abbrev pub name : List ℕ → ℕ → Piece
name text n = as_piece (record { kind = kind.Name; text = text; at = at n }) All

-- What is read of some tokens as an expression, where so many constructs are open and requires-expressions are read or
-- not.
abbrev pub reading : Bool → ℕ → List Piece → Result (Numbered ExprTree × List Piece) Stopped
reading requires load ts =
    (expr (levels requires 5) (record { names = noted (noted (entered []) (codes "T") names.TypeName) (codes "C") names.Concept; angle = 0; load = load }) 0).read 256 ts

-- the expression x, and the type T with or without `&`, at a place
abbrev pub x : ℕ → ℕ → ExprTree
x n place = NameTree (numbered n (at place)) (codes "x")

abbrev pub t : ℕ → ℕ → Bool → TypeTree
t n place reference = OfCore (numbered n (at place)) false (TypeNameTree (codes "T")) reference

-- a requires-expression of one node number and place, without parameters
abbrev pub requires_tree : ℕ → ℕ → RequirementTrees → ExprTree
requires_tree n place rs = RequiresTree (numbered n (at place)) no_local rs

abbrev pub simple : ℕ → ℕ → ExprTree → RequirementTrees
simple n place e = and_simple (numbered n (at place)) e no_requirement

-- ---- what is read: the text, its tree with the number of the next node, and the token behind it

-- requires { x ; requires x ; { x } -> C ; { x } ; typename T :: x ; } ;
abbrev pub kinds_text : List Piece
kinds_text =
    word (codes "requires") 1 ∷ sign (codes "{") 2 ∷ name (codes "x") 3 ∷ sign (codes ";") 4 ∷ word (codes "requires") 5 ∷ name (codes "x") 6 ∷ sign (codes ";") 7
    ∷ sign (codes "{") 8 ∷ name (codes "x") 9 ∷ sign (codes "}") 10 ∷ sign (codes "->") 11 ∷ name (codes "C") 12 ∷ sign (codes ";") 13
    ∷ sign (codes "{") 14 ∷ name (codes "x") 15 ∷ sign (codes "}") 16 ∷ sign (codes ";") 17
    ∷ word (codes "typename") 18 ∷ name (codes "T") 19 ∷ sign (codes "::") 20 ∷ name (codes "x") 21 ∷ sign (codes ";") 22 ∷ sign (codes "}") 23 ∷ sign (codes ";") 24 ∷ []

abbrev pub kinds_tree : Numbered ExprTree
kinds_tree = (
  requires_tree 11 1
      (and_simple (numbered 1 (at 3)) (x 0 3)
      (and_nested (numbered 3 (at 5)) (x 2 6)
      (and_constrained (numbered 6 (at 8)) (x 4 9) (numbered 5 (at 12)) (codes "C") no_argument
      (and_compound (numbered 8 (at 14)) (x 7 15)
      (and_required_type (numbered 10 (at 18)) (t 9 19 false) (codes "x" ∷ []) no_requirement))))),
  12,
)

-- requires ( T x , T & ) { x ; } ;
abbrev pub locals_text : List Piece
locals_text =
    word (codes "requires") 1 ∷ sign (codes "(") 2 ∷ name (codes "T") 3 ∷ name (codes "x") 4 ∷ sign (codes ",") 5 ∷ name (codes "T") 6 ∷ sign (codes "&") 7 ∷ sign (codes ")") 8
    ∷ sign (codes "{") 9 ∷ name (codes "x") 10 ∷ sign (codes ";") 11 ∷ sign (codes "}") 12 ∷ sign (codes ";") 13 ∷ []

abbrev pub locals_tree : Numbered ExprTree
locals_tree = (
  RequiresTree (numbered 6 (at 1))
      (and_local (numbered 1 (at 4)) (t 0 3 false) (Some (codes "x")) (and_local (numbered 3 (at 6)) (t 2 6 true) None no_local))
      (simple 5 10 (x 4 10)),
  7,
)

-- requires ( void ) { x ; } ;
abbrev pub void_text : List Piece
void_text =
    word (codes "requires") 1 ∷ sign (codes "(") 2 ∷ word (codes "void") 3 ∷ sign (codes ")") 4 ∷ sign (codes "{") 5 ∷ name (codes "x") 6 ∷ sign (codes ";") 7 ∷ sign (codes "}") 8 ∷ sign (codes ";") 9 ∷ []

-- requires ( T T ) { T ; } ; where the parameter T is a value from behind it on
abbrev pub hiding_text : List Piece
hiding_text =
    word (codes "requires") 1 ∷ sign (codes "(") 2 ∷ name (codes "T") 3 ∷ name (codes "T") 4 ∷ sign (codes ")") 5 ∷ sign (codes "{") 6 ∷ name (codes "T") 7 ∷ sign (codes ";") 8 ∷ sign (codes "}") 9 ∷ sign (codes ";") 10 ∷ []

abbrev pub hiding_tree : Numbered ExprTree
hiding_tree = (RequiresTree (numbered 4 (at 1)) (and_local (numbered 1 (at 4)) (t 0 3 false) (Some (codes "T")) no_local) (simple 3 7 (NameTree (numbered 2 (at 7)) (codes "T"))), 5)

-- x && requires { requires requires { x ; } ; } ;
abbrev pub nested_text : List Piece
nested_text =
    name (codes "x") 1 ∷ sign (codes "&&") 2 ∷ word (codes "requires") 3 ∷ sign (codes "{") 4 ∷ word (codes "requires") 5 ∷ word (codes "requires") 6 ∷ sign (codes "{") 7 ∷ name (codes "x") 8
    ∷ sign (codes ";") 9 ∷ sign (codes "}") 10 ∷ sign (codes ";") 11 ∷ sign (codes "}") 12 ∷ sign (codes ";") 13 ∷ []

abbrev pub nested_tree : Numbered ExprTree
nested_tree = (BinaryTree (numbered 6 (at 1)) binary.And (x 0 1) (requires_tree 5 3 (and_nested (numbered 4 (at 5)) (requires_tree 3 6 (simple 2 8 (x 1 8))) no_requirement)), 7)

-- ---- what is refused

-- requires { }
abbrev pub empty_text : List Piece
empty_text = word (codes "requires") 1 ∷ sign (codes "{") 2 ∷ sign (codes "}") 3 ∷ []

-- requires { requires { : a nested requirement is an expression
abbrev pub braced_text : List Piece
braced_text = word (codes "requires") 1 ∷ sign (codes "{") 2 ∷ word (codes "requires") 3 ∷ sign (codes "{") 4 ∷ []

-- requires { typename T ; : the name of a type alone is no type requirement
abbrev pub bare_text : List Piece
bare_text = word (codes "requires") 1 ∷ sign (codes "{") 2 ∷ word (codes "typename") 3 ∷ name (codes "T") 4 ∷ sign (codes ";") 5 ∷ []

-- requires ( T T , T ) : the second T is no type any more
abbrev pub hidden_text : List Piece
hidden_text = word (codes "requires") 1 ∷ sign (codes "(") 2 ∷ name (codes "T") 3 ∷ name (codes "T") 4 ∷ sign (codes ",") 5 ∷ name (codes "T") 6 ∷ sign (codes ")") 7 ∷ []

-- requires ( T T ) { T ; } + T ; : behind it T is a type again, which is no operand
abbrev pub forgotten_text : List Piece
forgotten_text =
    word (codes "requires") 1 ∷ sign (codes "(") 2 ∷ name (codes "T") 3 ∷ name (codes "T") 4 ∷ sign (codes ")") 5 ∷ sign (codes "{") 6 ∷ name (codes "T") 7 ∷ sign (codes ";") 8 ∷ sign (codes "}") 9
    ∷ sign (codes "+") 10 ∷ name (codes "T") 11 ∷ sign (codes ";") 12 ∷ []

-- requires { x ; } ;
abbrev pub short_text : List Piece
short_text = word (codes "requires") 1 ∷ sign (codes "{") 2 ∷ name (codes "x") 3 ∷ sign (codes ";") 4 ∷ sign (codes "}") 5 ∷ sign (codes ";") 6 ∷ []

abbrev pub syntax_at : {A : Type 0} → ℕ → Result A Stopped
syntax_at n = Err (At (refused fault.Syntax (at n)))

abbrev pub unsupported_at : {A : Type 0} → ℕ → Result A Stopped
unsupported_at n = Err (At (refused fault.Unsupported (at n)))

abbrev pub depth_at : {A : Type 0} → ℕ → Result A Stopped
depth_at n = Err (At (Passed limits.Depth (at n)))
