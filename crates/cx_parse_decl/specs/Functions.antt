-- The production of a unit of functions: what of the grammar of units is read so far.
--
--   unit     = { function } End
--   function = "int" Name "(" ")" block
--
-- Loads, names and places are those of the whole grammar's units, and so are the trees.
use Rattle.std.specs.Prelude.{ℕ, ◌+◌, Bool, false, [], ◌∷◌, ◌++◌, Some, None, codes}
use Rattle.cx_base.specs.declared.value.Scalar.TheVariants as scalar
use Rattle.cx_scope.specs.declared.name_kind.NameKind.TheVariants as names
use Rattle.cx_scope.specs.Frames.{Frames, noted, entered}
use Rattle.cx_tree.specs.Trees.{OfCore, ScalarTree}
use Rattle.cx_tree.specs.Statements.{StmtTree}
use Rattle.cx_tree.specs.Declarations.{DeclTree, FunctionDecl, UnitTree}
use Rattle.cx_grammar.specs.Pieces.{Piece}
use Rattle.cx_grammar.specs.Production.{Production, give, ◌>>=◌, token, repeat}
use Rattle.cx_grammar.specs.Words.{word, punct, any_name}
use Rattle.cx_grammar.specs.Names.{Context, deeper, with_names}
use Rattle.cx_grammar.specs.Types.{Numbered, numbered, Named}
use Rattle.cx_grammar.specs.Statements.{Within, block}
use Rattle.cx_grammar.specs.Declarations.{no_specifiers, is_end_kind, is_not_end}

-- the function that was read: its type is `int`, it has no parameters, and its body is a block
abbrev pub function_of : ℕ → Piece → Piece → Numbered StmtTree → DeclTree
function_of n int name body = FunctionDecl (record {
  mark = numbered body.1 name.token.at;
  specifiers = no_specifiers;
  result = OfCore (numbered n int.token.at) false (ScalarTree scalar.Int) false;
  name = name.token.text;
  parameters = [];
  is_const = false;
  trailing = None;
  body = Some body.0;
})

-- the names behind the head of a function
abbrev pub with_function : Frames → Piece → Frames
with_function frames name = noted frames name.token.text names.Function

-- A function, within its own construct: its name is declared behind its parameters, of which there are none, and known
-- in its body. The core of its type is one construct deeper.
unfoldable pub function : Within → Context → ℕ → Production (Named DeclTree)
function b c n = do
  int ← token (c.load + 1) (word (codes "int"))
  name ← token c.load any_name
  open_round ← token (c.load + 1) (punct (codes "("))
  close_round ← token (c.load + 1) (punct (codes ")"))
  body ← block b (with_names c (entered (with_function c.names name))) (n + 1)
  give (function_of n int name body, body.1 + 1, with_function c.names name)

unfoldable pub more_function : Within → Context → Named UnitTree → Production (Named UnitTree)
more_function b c so_far = do
  f ← function b (deeper (with_names c so_far.2)) so_far.1
  give (so_far.0 ++ f.0 ∷ [], f.1, f.2)

-- where a unit stands
abbrev pub outermost : Context
outermost = record { names = entered []; angle = 0; load = 0 }

abbrev pub is_end : Piece → Bool
is_end p = is_end_kind p.token.kind

-- A unit: functions, each a construct, up to the end. What b has stands within their bodies.
unfoldable pub unit : Within → Production UnitTree
unit b = do
  fs ← repeat is_not_end (more_function b outermost) ([], 0, entered [])
  end ← token 0 is_end
  give fs.0
