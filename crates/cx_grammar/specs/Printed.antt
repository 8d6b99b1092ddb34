-- The grammar as it is printed. Some productions above are factored, so that the next token tells what to read; here
-- they stand with their alternatives and repetitions as the text of the grammar has them, with no reader.
use Rattle.std.specs.Prelude.{◌≡◌, ◌⊎◌, ◌↔◌, ℕ, zero, suc, ◌+◌, Bool, false, ◌||◌, List, [], ◌∷◌, ◌++◌, codes}
use Rattle.cx_tree.specs.Trees.{ExprTree, BinaryTree, MemberTree, CallTree, PostfixTree, exprs}
use Rattle.cx_tree.specs.declared.operators.BinaryOperator.{BinaryOperator}
use Rattle.cx_tree.specs.declared.operators.PostfixOperator.{PostfixOperator}
use Rattle.cx_grammar.specs.Pieces.{Piece}
use Rattle.cx_grammar.specs.Production.{Production, give, token, closed, begins}
use Rattle.cx_grammar.specs.Words.{punct, any_name}
use Rattle.cx_grammar.specs.Names.{Context, deeper, inside}
use Rattle.cx_grammar.specs.Types.{Numbered, Calling, NoCall, MayCall, MustCall, Below}
use Rattle.cx_grammar.specs.Expressions.{levels, marked, exprs_until, primary, is_step, postfix_operator, operator, operand, is_assignment, conditional, assignment}

-- Trees and beginnings, as those of a production. The tokens behind a tree are told.
pub record Relation (A : Type 0) : Type 1 where
  pub whole : ℕ → List Piece → List Piece → A → Type 0
  pub front : ℕ → List Piece → Type 0

abbrev pub trees_of : {A : Type 0} → Production A → Relation A
trees_of p = record { whole = p.whole; front = p.front }

-- One, then another.
infixl 10 ◌>>=◌
abbrev pub ◌>>=◌ : {A B : Type 0} → Relation A → (A → Relation B) → Relation B
p >>= f = record {
  whole = λ limit ts behind y. (x : _) × (us vs : List Piece) × (ts ≡ us ++ vs) × p.whole limit us (vs ++ behind) x × (f x).whole limit vs behind y;
  front = λ limit ts. p.front limit ts ⊎ ((x : _) × (us vs : List Piece) × (ts ≡ us ++ vs) × p.whole limit us vs x × (f x).front limit vs);
}

-- One or the other.
abbrev pub or : {A : Type 0} → Relation A → Relation A → Relation A
or p q = record {
  whole = λ limit ts behind x. p.whole limit ts behind x ⊎ q.whole limit ts behind x;
  front = λ limit ts. p.front limit ts ⊎ q.front limit ts;
}

-- One, or no token and a value.
abbrev pub optional : {A : Type 0} → Relation A → A → Relation A
optional p x = or p (trees_of (give x))

-- A production is what is printed: they have the same trees with the same values, where no token of some kind stands
-- behind them, and the same beginnings.
pub record IsAsPrinted {A : Type 0} (p : Production A) (goes_on : Piece → Bool) (q : Relation A) : Type 0 where
  pub same_trees : (limit : ℕ) (ts behind : List Piece) (x : A) → begins goes_on behind ≡ false → p.whole limit ts behind x ↔ q.whole limit ts behind x
  pub same_beginnings : (limit : ℕ) (ts : List Piece) → p.front limit ts ↔ q.front limit ts

-- ---- expr = lor [ "?" expr ":" expr ] | lor assign expr

abbrev pub lor : Below → Context → ℕ → Production (Numbered ExprTree)
lor b c n = operand b 10 c n

-- what goes on behind an expression
abbrev pub behind_lor : Context → Piece → Bool
behind_lor c t = punct (codes "?") t || is_assignment c.angle t

unfoldable pub printed_expr : Below → Context → ℕ → Relation (Numbered ExprTree)
printed_expr b c n = or
    (do
      left ← trees_of (lor b c n)
      optional (trees_of (conditional b c left)) left)
    (do
      left ← trees_of (lor b c n)
      trees_of (assignment b c left))

-- ---- binary operators of a level: operand { operator operand }, grouped from the left

-- an operator and its right operand
abbrev pub Joined : Type 0
Joined = BinaryOperator × Numbered ExprTree

-- the node of an operator is behind its right operand
abbrev pub grouped : Numbered ExprTree → List Joined → Numbered ExprTree
grouped left [] = left
grouped left ((o, right) ∷ more) = grouped (BinaryTree (marked right.1 left.0) o left.0 right.0, right.1 + 1) more

-- None or more operators of a level with their operands, each one construct deeper, nested so many levels deep at most.
unfoldable pub joined : Bool → ℕ → ℕ → Context → ℕ → Relation (List Joined)
joined requires zero level c n = optional
    (do
      o ← trees_of (operator level c)
      trees_of closed)
    []
joined requires (suc depth) level c n = optional
    (do
      o ← trees_of (operator level c)
      right ← trees_of (operand (levels requires depth) level (deeper c) n)
      more ← joined requires depth level (deeper c) (right.1 + 1)
      trees_of (give ((o, right) ∷ more)))
    []

-- An expression of the operators up to a level.
unfoldable pub printed_operand : Bool → ℕ → ℕ → Context → ℕ → Relation (Numbered ExprTree)
printed_operand requires depth level c n = do
  left ← trees_of (operand (levels requires depth) level c n)
  more ← joined requires depth level c left.1
  trees_of (give (grouped left more))

-- ---- postfix = primary { "." Name | "(" [ args ] ")" | "++" | "--" }

-- What stands behind a primary: a member, a call's arguments with the number of the next node, a step.
pub data Suffix : Type 0 where
  Dot : (name : List ℕ) → Suffix
  Arguments : Numbered (List ExprTree) → Suffix
  Step : PostfixOperator → Suffix

abbrev pub applied : Numbered ExprTree → Suffix → Numbered ExprTree
applied e (Dot name) = (MemberTree (marked e.1 e.0) e.0 name, e.1 + 1)
applied e (Arguments es) = (CallTree (marked es.1 e.0) e.0 (exprs es.0), es.1 + 1)
applied e (Step o) = (PostfixTree (marked e.1 e.0) o e.0, e.1 + 1)

abbrev pub applied_all : Numbered ExprTree → List Suffix → Numbered ExprTree
applied_all e [] = e
applied_all e (s ∷ more) = applied_all (applied e s) more

-- what stands behind a suffix
abbrev pub Behind : Type 1
Behind = Calling → Context → ℕ → Relation (List Suffix)

abbrev pub dotted : Behind → Context → ℕ → Relation (List Suffix)
dotted behind c n = do
  dot ← trees_of (token c.load (punct (codes ".")))
  name ← trees_of (token (c.load + 1) any_name)
  more ← behind MayCall (deeper c) (n + 1)
  trees_of (give (Dot name.token.text ∷ more))

abbrev pub stepped : Behind → Context → ℕ → Relation (List Suffix)
stepped behind c n = do
  t ← trees_of (token c.load is_step)
  more ← behind NoCall (deeper c) (n + 1)
  trees_of (give (Step (postfix_operator t) ∷ more))

-- the arguments are nested so many levels deep at most
abbrev pub called_with : Bool → ℕ → Behind → Context → ℕ → Relation (List Suffix)
called_with requires zero behind c n = do
  open_round ← trees_of (token (c.load + 1) (punct (codes "(")))
  trees_of closed
called_with requires (suc depth) behind c n = do
  open_round ← trees_of (token (c.load + 1) (punct (codes "(")))
  es ← trees_of (exprs_until (codes ")") (levels requires depth) (inside (deeper c)) n)
  close_round ← trees_of (token ((deeper c).load + 1) (punct (codes ")")))
  more ← behind NoCall (deeper c) (es.1 + 1)
  trees_of (give (Arguments es ∷ more))

-- A call stands only where one may; where one must stand, nothing else does.
abbrev pub allowed : Calling → (call others : Relation (List Suffix)) → Relation (List Suffix)
allowed NoCall call others = optional others []
allowed MayCall call others = or call (optional others [])
allowed MustCall call others = call

-- None or more suffixes, each one construct deeper, nested so many levels deep at most.
unfoldable pub suffixes : Bool → ℕ → Behind
suffixes requires zero calling c n =
    allowed calling (called_with requires zero (λ calling c n. trees_of closed) c n) (or (dotted (λ calling c n. trees_of closed) c n) (stepped (λ calling c n. trees_of closed) c n))
suffixes requires (suc depth) calling c n =
    allowed calling (called_with requires (suc depth) (suffixes requires depth) c n) (or (dotted (suffixes requires depth) c n) (stepped (suffixes requires depth) c n))

unfoldable pub printed_postfix : Bool → ℕ → Context → ℕ → Relation (Numbered ExprTree)
printed_postfix requires depth c n = do
  p ← trees_of (primary (levels requires depth) c n)
  more ← suffixes requires depth p.1 c p.0.1
  trees_of (give (applied_all p.0 more))

-- what goes on behind a postfix expression
abbrev pub behind_postfix : Piece → Bool
behind_postfix t = punct (codes "(") t || (punct (codes ".") t || is_step t)
