-- Primary expressions ([expr.prim]), and casts ([expr.static.cast], [expr.type.conv]).
--
--     primary = Int | "true" | "false" | Name | FunctionTemplate list | Concept list
--             | head names | core "{" [ exprs ] "}" | "(" expr ")"
--             | "static_cast" "<" type ">" "(" expr ")"
--             | "__is_same" "(" type "," type ")" | "__out" "(" expr ")" | requires
--
-- Before a list in braces a scalar is one word. A name of a type or of a class template is no primary alone.
use Rattle.std.specs.Prelude.{ℕ, Bool, true, false, List, Option, Some, None}
use Rattle.cx_base.specs.declared.place.Place.{Place}
use Rattle.cx_base.specs.declared.value.Scalar.{Scalar}
use Rattle.cx_base.specs.declared.value.Scalar.TheVariants as scalar
use Rattle.cx_tokens.specs.declared.word.Word.{Word}
use Rattle.cx_tokens.specs.declared.word.Word.TheVariants as word'
use Rattle.cx_tokens.specs.declared.punctuator.Punctuator.TheVariants as punctuator
use Rattle.cx_tokens.specs.Literals.{type_of, value_of}
use Rattle.cx_names.specs.declared.name_kind.NameKind.{NameKind}
use Rattle.cx_names.specs.declared.name_kind.NameKind.TheVariants as names
use Rattle.cx_syntax.specs.declared.context.Context.{Context}
use Rattle.cx_syntax.specs.Contexts.{deeper, inside}
use Rattle.cx_syntax.specs.Productions.{Production, Class, give, ◌>>=◌, token, when}
use Rattle.cx_syntax.specs.Combinators.{node, in_parentheses, in_braces, in_angles, separated_until}
use Rattle.cx_syntax.specs.Classes.{word, punct, any_name, name_of, literal, ◌or◌}
use Rattle.cx_syntax.specs.Precedence.{expression_level}
use Rattle.cx_productions.specs.declared.calling.Calling.{Calling}
use Rattle.cx_productions.specs.declared.calling.Calling.TheVariants as calling
use Rattle.cx_productions.specs.Trees.{mark, ExprTree, IntTree, BoolTree, NameTree, TemplateTree, QualifiedTree, ListTree, GroupTree, StaticCastTree, IsSameTree, OutTree, exprs, arguments}
use Rattle.cx_productions.specs.Below.{Below}
use Rattle.cx_productions.specs.Scalars.{Core, scalar_word, scalar_of_word, scalar_at}
use Rattle.cx_productions.specs.Types.{argument_list, member_names, as_type, head_core, core, type_id}
use Rattle.cx_productions.specs.Requires.{requires_expr}

-- An operand, and whether a call may follow it: one follows a name, a name with arguments and a member alone.
pub record Operand : Type 0 where
  pub tree : ExprTree
  pub calling : Calling

abbrev pub with_calling : Calling → Production ExprTree → Production Operand
with_calling calls p = do
  e ← p
  give (record { tree = e; calling = calls })

-- exprs = expr { "," expr }, or none, up to what closes the list
unfoldable pub expr_list : Class → Below → Context → Production (List ExprTree)
expr_list close b c = separated_until close c (b.expr expression_level c)

-- ---- literals

-- the type of a literal; each token that is a literal has one
abbrev pub scalar_or_int : Option Scalar → Scalar
scalar_or_int None = scalar.Int
scalar_or_int (Some s) = s

-- Int
unfoldable pub int_literal : Context → Production ExprTree
int_literal c = do
  t ← token c literal
  n ← node
  give (IntTree (mark n t.token.at) (scalar_or_int (type_of t.token.text)) (value_of t.token.text))

-- "true" | "false"
unfoldable pub truth : Word → Bool → Context → Production ExprTree
truth w value c = do
  t ← token c (word w)
  n ← node
  give (BoolTree (mark n t.token.at) value)

-- ---- brackets

-- "(" expr ")"
unfoldable pub group : Below → Context → Production ExprTree
group b c = do
  inner ← in_parentheses c (b.expr expression_level)
  n ← node
  give (GroupTree (mark n inner.at) inner.item)

-- "static_cast" "<" type ">" "(" expr ")"
unfoldable pub static_cast : Below → Context → Production ExprTree
static_cast b c = do
  first ← token c (word word'.StaticCast)
  to ← in_angles c (type_id b)
  operand ← in_parentheses c (b.expr expression_level)
  n ← node
  give (StaticCastTree (mark n first.token.at) to operand.item)

-- "__is_same" "(" type "," type ")"
unfoldable pub is_same : Below → Context → Production ExprTree
is_same b c = do
  first ← token c (word word'.IsSame)
  opening ← token (deeper c) (punct punctuator.LeftParenthesis)
  left ← type_id b (inside c)
  comma ← token (inside c) (punct punctuator.Comma)
  right ← type_id b (inside c)
  closing ← token (deeper c) (punct punctuator.RightParenthesis)
  n ← node
  give (IsSameTree (mark n first.token.at) left right)

-- "__out" "(" expr ")"
unfoldable pub out : Below → Context → Production ExprTree
out b c = do
  first ← token c (word word'.Out)
  operand ← in_parentheses c (b.expr expression_level)
  n ← node
  give (OutTree (mark n first.token.at) operand.item)

-- ---- what begins with a type: the core is a construct, and a node of a type

-- "{" [ exprs ] "}", after a core
unfoldable pub list_after : Below → Context → Core → Production ExprTree
list_after b c k = do
  of ← as_type k
  items ← in_braces c (expr_list (punct punctuator.RightBrace) b)
  n ← node
  give (ListTree (mark n k.at) of (exprs items.item))

-- names, after a head
unfoldable pub names_after : Context → Core → Production ExprTree
names_after c k = do
  head ← as_type k
  names ← member_names c
  n ← node
  give (QualifiedTree (mark n k.at) head names)

-- "{" [ exprs ] "}" | names, after a head
unfoldable pub after_head : Below → Context → Core → Production ExprTree
after_head b c k = when (punct punctuator.LeftBrace) (list_after b c k) (names_after c k)

-- the name of a type or of a class template
unfoldable pub head_name : Class
head_name = name_of names.TypeName or name_of names.ClassTemplate

-- a word that begins a core that is no scalar
unfoldable pub core_word : Class
core_word = word word'.Void or word word'.Typename or word word'.Decltype

-- head names | head "{" [ exprs ] "}"
unfoldable pub head_primary : Below → Context → Production ExprTree
head_primary b c = do
  k ← head_core b (deeper c)
  after_head b c k

-- core "{" [ exprs ] "}"
unfoldable pub core_primary : Below → Context → Production ExprTree
core_primary b c = do
  k ← core b (deeper c)
  list_after b c k

unfoldable pub scalar_primary : Below → Context → Production ExprTree
scalar_primary b c = do
  t ← token (deeper c) scalar_word
  list_after b c (scalar_at t (scalar_of_word t))

-- ---- names ([expr.prim.id.unqual])

-- Name
unfoldable pub name_alone : Context → Production ExprTree
name_alone c = do
  t ← token c any_name
  n ← node
  give (NameTree (mark n t.token.at) t.token.text)

-- Name [ list ]: a name of a template, and how it is called with its arguments
unfoldable pub template_name : NameKind → Calling → Below → Context → Production Operand
template_name kind calls b c = do
  t ← token c (name_of kind)
  when (punct punctuator.Less)
      (do
        args ← argument_list b c
        n ← node
        give (record { tree = TemplateTree (mark n t.token.at) t.token.text (arguments args); calling = calls }))
      (do
        n ← node
        give (record { tree = NameTree (mark n t.token.at) t.token.text; calling = calling.May }))

-- ---- primaries

-- what begins with a word, or a group
unfoldable pub word_primary : Below → Context → Production ExprTree
word_primary b c =
    when (word word'.True) (truth word'.True true c)
    (when (word word'.False) (truth word'.False false c)
    (when (word word'.IsSame) (is_same b c)
    (when (word word'.Out) (out b c)
    (when (word word'.Requires) (requires_expr b c) (group b c)))))

-- The primaries that stand in the clause of a requires too.
unfoldable pub simple_primary : Below → Context → Production Operand
simple_primary b c =
    when literal (with_calling calling.Never (int_literal c))
    (when (name_of names.FunctionTemplate) (template_name names.FunctionTemplate calling.Must b c)
    (when (name_of names.Concept) (template_name names.Concept calling.May b c)
    (when any_name (with_calling calling.May (name_alone c))
    (with_calling calling.Never (word_primary b c)))))

-- A primary expression.
unfoldable pub primary : Below → Context → Production Operand
primary b c =
    when head_name (with_calling calling.Never (head_primary b c))
    (when core_word (with_calling calling.Never (core_primary b c))
    (when scalar_word (with_calling calling.Never (scalar_primary b c))
    (when (word word'.StaticCast) (with_calling calling.Never (static_cast b c))
    (simple_primary b c))))
