-- Where a production stands.
use Rattle.std.specs.Prelude.{Option, None, Some, ℕ, ◌+◌, Bool, true, false, ◌&&◌}
use Rattle.cx_scope.specs.declared.name_kind.NameKind.{NameKind}
use Rattle.cx_scope.specs.declared.name_kind.NameKind.TheVariants.{Value, TypeName, ClassTemplate, Function, FunctionTemplate, Concept}
use Rattle.cx_scope.specs.Frames.{Frames, kind_in}
use Rattle.cx_grammar.specs.Pieces.{Piece}
use Rattle.cx_grammar.specs.Words.{any_name}

-- The kinds of names, those declared before; how many lists of template arguments are open with no other bracket
-- within; how many constructs are open.
pub record Context : Type 0 where
  pub names : Frames
  pub angle : ℕ
  pub load : ℕ

-- within one more construct
abbrev pub deeper : Context → Context
deeper c = record c { load = c.load + 1 }

-- within one more pair of brackets
abbrev pub inside : Context → Context
inside c = record { names = c.names; angle = 0; load = c.load + 1 }

-- within one more list of template arguments
abbrev pub listed : Context → Context
listed c = record { names = c.names; angle = c.angle + 1; load = c.load + 1 }

-- where other names are known
abbrev pub with_names : Context → Frames → Context
with_names c names = record c { names = names }

-- whether two kinds are one
abbrev pub same_kind : NameKind → NameKind → Bool
same_kind Value Value = true
same_kind TypeName TypeName = true
same_kind ClassTemplate ClassTemplate = true
same_kind Function Function = true
same_kind FunctionTemplate FunctionTemplate = true
same_kind Concept Concept = true
same_kind a b = false

-- whether a name is of some kind; one that is not declared is a value
abbrev pub is_kind : NameKind → Option NameKind → Bool
is_kind wanted None = same_kind wanted Value
is_kind wanted (Some kind) = same_kind wanted kind

-- A name of some kind.
unfoldable pub kind_name : NameKind → Context → Piece → Bool
kind_name wanted c p = any_name p && is_kind wanted (kind_in c.names p.token.text)

-- The name of a type, of a class template, of a function template, of a concept.
abbrev pub type_name : Context → Piece → Bool
type_name = kind_name TypeName

abbrev pub class_name : Context → Piece → Bool
class_name = kind_name ClassTemplate

abbrev pub template_name : Context → Piece → Bool
template_name = kind_name FunctionTemplate

abbrev pub concept_name : Context → Piece → Bool
concept_name = kind_name Concept
