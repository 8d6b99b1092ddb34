-- Types as they are written ([dcl.type]), and lists of template arguments ([temp.names]).
use Rattle.std.specs.Prelude.{ℕ, Bool, true, false, List, [], ◌∷◌, ◌++◌}
use Rattle.cx_base.specs.declared.place.Place.{Place}
use Rattle.cx_tokens.specs.declared.word.Word.TheVariants as word'
use Rattle.cx_tokens.specs.declared.punctuator.Punctuator.TheVariants as punctuator
use Rattle.cx_tokens.specs.Pieces.{Piece}
use Rattle.cx_names.specs.declared.name_kind.NameKind.TheVariants as names
use Rattle.cx_syntax.specs.declared.context.Context.{Context}
use Rattle.cx_syntax.specs.Contexts.{deeper}
use Rattle.cx_syntax.specs.Productions.{Production, give, ◌>>=◌, token, when, given, repeat}
use Rattle.cx_syntax.specs.Combinators.{node, flag, in_parentheses, in_angles, separated}
use Rattle.cx_syntax.specs.Classes.{word, punct, any_name, name_of}
use Rattle.cx_syntax.specs.Precedence.{expression_level}
use Rattle.cx_productions.specs.Trees.{mark, TypeTree, OfCore, VoidTree, TypeNameTree, ClassTree, MemberTypeTree, DecltypeTree, ArgumentTree, arguments}
use Rattle.cx_productions.specs.Below.{Below}
use Rattle.cx_productions.specs.Scalars.{Core, scalar_core}

-- list = "<" argument { "," argument } ">"
unfoldable pub argument_list : Below → Context → Production (List ArgumentTree)
argument_list b c = in_angles c (λ inner. separated inner (b.argument inner))

-- ---- names after a type

-- "::" Name
unfoldable pub member_name : Context → Production (List ℕ)
member_name c = do
  colons ← token c (punct punctuator.ColonColon)
  name ← token c any_name
  give name.token.text

unfoldable pub more_names : Context → List (List ℕ) → Production (List (List ℕ))
more_names c so_far = do
  name ← member_name c
  give (so_far ++ name ∷ [])

-- names = "::" Name { "::" Name }
unfoldable pub member_names : Context → Production (List (List ℕ))
member_names c = do
  first ← member_name c
  repeat (λ so_far. punct punctuator.ColonColon) (more_names c) (first ∷ [])

-- ---- cores

-- a core as a type without `const` and `&`
unfoldable pub as_type : Core → Production TypeTree
as_type k = do
  n ← node
  give (OfCore (mark n k.at) false k.at k.tree false)

-- Class list
unfoldable pub class_core : Below → Context → Production Core
class_core b c = do
  name ← token c (name_of names.ClassTemplate)
  args ← argument_list b c
  give (record { at = name.token.at; tree = ClassTree name.token.text (arguments args) })

-- Type
unfoldable pub type_name_core : Context → Production Core
type_name_core c = do
  name ← token c (name_of names.TypeName)
  give (record { at = name.token.at; tree = TypeNameTree name.token.text })

-- head = Type | Class list
unfoldable pub head_core : Below → Context → Production Core
head_core b c = when (name_of names.ClassTemplate) (class_core b c) (type_name_core c)

-- "typename" head names
unfoldable pub member_core : Below → Context → Production Core
member_core b c = do
  first ← token c (word word'.Typename)
  k ← head_core b c
  head ← as_type k
  names ← member_names c
  give (record { at = first.token.at; tree = MemberTypeTree head names })

-- "decltype" "(" expr ")"
unfoldable pub decltype_core : Below → Context → Production Core
decltype_core b c = do
  first ← token c (word word'.Decltype)
  operand ← in_parentheses c (b.expr expression_level)
  give (record { at = first.token.at; tree = DecltypeTree operand.item })

abbrev pub void_at : Piece → Core
void_at t = record { at = t.token.at; tree = VoidTree }

unfoldable pub void_core : Context → Production Core
void_core c = do
  t ← token c (word word'.Void)
  give (void_at t)

-- core = scalar | "void" | head | "typename" head names | "decltype" "(" expr ")"
unfoldable pub core : Below → Context → Production Core
core b c =
    when any_name (head_core b c)
    (when (word word'.Typename) (member_core b c)
    (when (word word'.Decltype) (decltype_core b c)
    (when (word word'.Void) (void_core c) (scalar_core c))))

-- ---- types: a type is a construct from its core on

-- [ "const" ], where none is before the core
unfoldable pub const_after : Context → Bool → Production Bool
const_after c before = given before (give true) (flag (deeper c) (word word'.Const))

-- [ "const" ] [ "&" ], after a core. The node stands at the type's first token.
unfoldable pub type_after : Context → Place → Bool → Core → Production TypeTree
type_after c at before k = do
  constant ← const_after c before
  reference ← flag (deeper c) (punct punctuator.Ampersand)
  n ← node
  give (OfCore (mark n at) constant k.at k.tree reference)

-- "const" core [ "&" ]
unfoldable pub const_type : Below → Context → Production TypeTree
const_type b c = do
  t ← token c (word word'.Const)
  k ← core b (deeper c)
  type_after c t.token.at true k

-- core [ "const" ] [ "&" ]
unfoldable pub plain_type : Below → Context → Production TypeTree
plain_type b c = do
  k ← core b (deeper c)
  type_after c k.at false k

-- type = [ "const" ] core [ "const" ] [ "&" ]     (const once)
unfoldable pub type_id : Below → Context → Production TypeTree
type_id b c = when (word word'.Const) (const_type b c) (plain_type b c)
