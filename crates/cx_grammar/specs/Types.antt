-- Types as they are written ([dcl.type]), and what every production below stands on.
use Rattle.std.specs.Prelude.{ℕ, ◌+◌, Bool, true, false, ◌||◌, ◌&&◌, nat_le, List, [], ◌∷◌, ◌++◌, codes, if◌then◌else◌}
use Rattle.cx_base.specs.declared.place.Place.{Place}
use Rattle.cx_base.specs.declared.value.Scalar.{Scalar}
use Rattle.cx_base.specs.declared.value.Scalar.TheVariants as scalar
use Rattle.cx_tree.specs.Trees.{Mark, ExprTree, TypeTree, OfCore, CoreTree, ScalarTree, VoidTree, TypeNameTree, ClassTree, MemberTypeTree, DecltypeTree, ArgumentTree, arguments}
use Rattle.cx_scope.specs.Frames.{Frames}
use Rattle.cx_grammar.specs.Pieces.{Piece}
use Rattle.cx_grammar.specs.Production.{Production, give, ◌>>=◌, token, when, given, repeat}
use Rattle.cx_grammar.specs.Words.{is_all, is_first, is_second, word, punct, any_name}
use Rattle.cx_grammar.specs.Names.{Context, deeper, inside, listed, type_name, class_name}

-- What a production gives: a tree, and the number of the next node.
abbrev pub Numbered : Type 0 → Type 0
Numbered A = A × ℕ

-- What is given where names may be declared: a tree, the number of the next node, and the names behind it.
abbrev pub Named : Type 0 → Type 0
Named A = A × ℕ × Frames

-- Where a piece of a tree stands that has no node of its own, with the piece.
abbrev pub Placed : Type 0 → Type 0
Placed A = Place × A

-- How a call may follow an expression.
pub data Calling : Type 0 where
  NoCall MayCall MustCall : Calling

-- The productions that stand within constructs: one more construct is open there. It is told whether requires-expressions
-- are read: the language has them, and the parsers read none yet.
pub record Below : Type 1 where
  pub requires : Bool
  pub expr : Context → ℕ → Production (Numbered ExprTree)
  pub unary : Context → ℕ → Production (Numbered ExprTree)
  pub binary_rest : ℕ → Context → Numbered ExprTree → Production (Numbered ExprTree)
  pub operand : ℕ → Context → ℕ → Production (Numbered ExprTree)
  pub tail : Calling → Context → Numbered ExprTree → Production (Numbered ExprTree)
  pub called : Context → Numbered ExprTree → Production (Numbered ExprTree)
  pub type : Context → ℕ → Production (Numbered TypeTree)
  pub core : Context → ℕ → Production (Numbered (Placed CoreTree))
  pub argument : Context → ℕ → Production (Numbered ArgumentTree)
  pub clause_primary : Context → ℕ → Production (Numbered ExprTree)
  pub and_rest : Context → Numbered ExprTree → Production (Numbered ExprTree)
  pub conjunction : Context → ℕ → Production (Numbered ExprTree)
  pub or_rest : Context → Numbered ExprTree → Production (Numbered ExprTree)

abbrev pub numbered : ℕ → Place → Mark
numbered n at = record { node = n; at = at }

-- ---- scalars ([dcl.type.simple])

-- whether the next token is the word `int`; it is passed over
unfoldable pub maybe_int : Context → Scalar → Production Scalar
maybe_int c s = when (word (codes "int"))
    (do
      i ← token c.load (word (codes "int"))
      give s)
    (give s)

-- `long long`, then `int` or not
unfoldable pub long_long : Context → Scalar → Production Scalar
long_long c s = do
  first ← token c.load (word (codes "long"))
  second ← token c.load (word (codes "long"))
  maybe_int c s

-- behind `long long`
unfoldable pub behind_long_long : Context → Production Scalar
behind_long_long c = when (word (codes "unsigned"))
    (do
      u ← token c.load (word (codes "unsigned"))
      maybe_int c scalar.ULongLong)
    (maybe_int c scalar.LongLong)

-- behind `signed` or `unsigned`
unfoldable pub behind_sign : Context → Scalar → Scalar → Production Scalar
behind_sign c short long = when (word (codes "long")) (long_long c long) (maybe_int c short)

abbrev pub placed_scalar : Piece → Scalar → Placed CoreTree
placed_scalar t s = (t.token.at, ScalarTree s)

-- the scalars of one word
unfoldable pub one_word : Piece → Bool
one_word p = word (codes "bool") p || word (codes "int") p || word (codes "signed") p || word (codes "unsigned") p

abbrev pub scalar_of_word : Piece → Scalar
scalar_of_word p = if word (codes "bool") p then scalar.Bool else if word (codes "unsigned") p then scalar.Unsigned else scalar.Int

-- behind the first word of a scalar
unfoldable pub scalar_behind : Context → Piece → Production Scalar
scalar_behind c t =
    given (word (codes "signed") t) (behind_sign c scalar.Int scalar.LongLong)
    (given (word (codes "unsigned") t) (behind_sign c scalar.Unsigned scalar.ULongLong) (give (scalar_of_word t)))

unfoldable pub word_core : Context → Production (Placed CoreTree)
word_core c = do
  t ← token c.load one_word
  s ← scalar_behind c t
  give (placed_scalar t s)

unfoldable pub long_core : Context → Production (Placed CoreTree)
long_core c = do
  first ← token c.load (word (codes "long"))
  second ← token c.load (word (codes "long"))
  s ← behind_long_long c
  give (placed_scalar first s)

-- bool; int; signed, signed int; unsigned, unsigned int; signed and unsigned long long, with int or not;
-- long long, long long int, long long unsigned, long long unsigned int
unfoldable pub scalar_core : Context → Production (Placed CoreTree)
scalar_core c = when one_word (word_core c) (long_core c)

-- ---- lists of template arguments ([temp.names])

-- what closes a list of template arguments: `>`, or a half of `>>`, whose first half closes only where two are open
unfoldable pub closes : ℕ → Piece → Bool
closes angle p =
    (is_all p.half && punct (codes ">") p) || (is_first p.half && nat_le 2 angle) || (is_second p.half && nat_le 1 angle)

unfoldable pub more_argument : Below → Context → Numbered (List ArgumentTree) → Production (Numbered (List ArgumentTree))
more_argument b c so_far = do
  comma ← token c.load (punct (codes ","))
  a ← b.argument c so_far.1
  give (so_far.0 ++ a.0 ∷ [], a.1)

-- one or more arguments
unfoldable pub some_arguments : Below → Context → ℕ → Production (Numbered (List ArgumentTree))
some_arguments b c n = do
  first ← b.argument c n
  repeat (punct (codes ",")) (more_argument b c) (first.0 ∷ [], first.1)

-- `<`, one or more arguments, `>`
unfoldable pub argument_list : Below → Context → ℕ → Production (Numbered (List ArgumentTree))
argument_list b c n = do
  less ← token (c.load + 1) (punct (codes "<"))
  all ← some_arguments b (listed c) n
  greater ← token (c.load + 1) (closes (c.angle + 1))
  give all

-- ---- names behind `::`

unfoldable pub more_name : Context → List (List ℕ) → Production (List (List ℕ))
more_name c so_far = do
  colons ← token c.load (punct (codes "::"))
  name ← token c.load any_name
  give (so_far ++ name.token.text ∷ [])

-- one or more
unfoldable pub qualified_names : Context → Production (List (List ℕ))
qualified_names c = do
  colons ← token c.load (punct (codes "::"))
  name ← token c.load any_name
  repeat (punct (codes "::")) (more_name c) (name.token.text ∷ [])

-- ---- cores

unfoldable pub class_core : Below → Context → ℕ → Production (Numbered (Placed CoreTree))
class_core b c n = do
  name ← token c.load (class_name c)
  args ← argument_list b c n
  give ((name.token.at, ClassTree name.token.text (arguments args.0)), args.1)

unfoldable pub type_name_core : Context → ℕ → Production (Numbered (Placed CoreTree))
type_name_core c n = do
  name ← token c.load (type_name c)
  give ((name.token.at, TypeNameTree name.token.text), n)

-- The name of a type, or a class template with arguments: what may stand before `::`.
unfoldable pub head_core : Below → Context → ℕ → Production (Numbered (Placed CoreTree))
head_core b c n = when (class_name c) (class_core b c n) (type_name_core c n)

-- a core as a type without `const` and `&`, which is a node
abbrev pub as_type : Numbered (Placed CoreTree) → Numbered TypeTree
as_type core = (OfCore (numbered core.1 core.0.0) false core.0.1 false, core.1 + 1)

-- `typename`, a head, names
unfoldable pub member_core : Below → Context → ℕ → Production (Numbered (Placed CoreTree))
member_core b c n = do
  word' ← token c.load (word (codes "typename"))
  head ← head_core b c n
  names ← qualified_names c
  give ((word'.token.at, MemberTypeTree (as_type head).0 names), (as_type head).1)

unfoldable pub decltype_core : Below → Context → ℕ → Production (Numbered (Placed CoreTree))
decltype_core b c n = do
  word' ← token c.load (word (codes "decltype"))
  open_round ← token (c.load + 1) (punct (codes "("))
  e ← b.expr (inside c) n
  close_round ← token (c.load + 1) (punct (codes ")"))
  give ((word'.token.at, DecltypeTree e.0), e.1)

unfoldable pub void_core : Context → ℕ → Production (Numbered (Placed CoreTree))
void_core c n = do
  t ← token c.load (word (codes "void"))
  give ((t.token.at, VoidTree), n)

unfoldable pub scalar_only : Context → ℕ → Production (Numbered (Placed CoreTree))
scalar_only c n = do
  s ← scalar_core c
  give (s, n)

-- A core.
unfoldable pub core : Below → Context → ℕ → Production (Numbered (Placed CoreTree))
core b c n =
    when any_name (head_core b c n)
    (when (word (codes "typename")) (member_core b c n)
    (when (word (codes "decltype")) (decltype_core b c n)
    (when (word (codes "void")) (void_core c n) (scalar_only c n))))

-- ---- types

-- the place of a type
abbrev pub type_place : TypeTree → Place
type_place (OfCore m constant core reference) = m.at

-- where `const` is not there yet
unfoldable pub maybe_const : Context → Bool → Production Bool
maybe_const c true = give true
maybe_const c false = when (word (codes "const"))
    (do
      t ← token (c.load + 1) (word (codes "const"))
      give true)
    (give false)

unfoldable pub maybe_reference : Context → Production Bool
maybe_reference c = when (punct (codes "&"))
    (do
      t ← token (c.load + 1) (punct (codes "&"))
      give true)
    (give false)

-- behind a core: `const`, where there is none before the core, and `&`. The node's place is told.
unfoldable pub type_behind : Context → Place → Bool → Numbered CoreTree → Production (Numbered TypeTree)
type_behind c at before core' = do
  constant ← maybe_const c before
  reference ← maybe_reference c
  give (OfCore (numbered core'.1 at) constant core'.0 reference, core'.1 + 1)

unfoldable pub const_type : Below → Context → ℕ → Production (Numbered TypeTree)
const_type b c n = do
  t ← token c.load (word (codes "const"))
  k ← b.core (deeper c) n
  type_behind c t.token.at true (k.0.1, k.1)

unfoldable pub bare_type : Below → Context → ℕ → Production (Numbered TypeTree)
bare_type b c n = do
  k ← b.core (deeper c) n
  type_behind c k.0.0 false (k.0.1, k.1)

-- A type. It is a construct from its core on.
unfoldable pub type_id : Below → Context → ℕ → Production (Numbered TypeTree)
type_id b c n = when (word (codes "const")) (const_type b c n) (bare_type b c n)
