-- Requires-expressions ([expr.prim.req]), and constraints of types ([temp.param]), which stand in them.
use Rattle.std.specs.Prelude.{List, [], ◌∷◌, Option, Some, None, false}
use Rattle.cx_tokens.specs.declared.word.Word.TheVariants as word'
use Rattle.cx_tokens.specs.declared.punctuator.Punctuator.TheVariants as punctuator
use Rattle.cx_tokens.specs.Pieces.{Piece}
use Rattle.cx_names.specs.declared.name_kind.NameKind.TheVariants as names
use Rattle.cx_syntax.specs.declared.context.Context.{Context}
use Rattle.cx_syntax.specs.Contexts.{deeper}
use Rattle.cx_syntax.specs.Productions.{Production, give, ◌>>=◌, token, when, repeat}
use Rattle.cx_syntax.specs.Combinators.{node, note, in_scope, optional, maybe, in_parentheses, in_braces, one_more_item}
use Rattle.cx_syntax.specs.Classes.{word, punct, any_name, name_of, any_but}
use Rattle.cx_syntax.specs.Precedence.{expression_level, logical_or_level}
use Rattle.cx_productions.specs.Trees.{mark, ExprTree, RequiresTree, place_of, TypeTree, OfCore, CoreTree, MemberTypeTree, type_place, ArgumentTree, arguments, ConstraintTree, LocalTree, locals, RequirementTree, SimpleRequirement, TypeRequirement, CompoundRequirement, NestedRequirement, requirements}
use Rattle.cx_productions.specs.Below.{Below}
use Rattle.cx_productions.specs.Scalars.{Core}
use Rattle.cx_productions.specs.Types.{argument_list, member_names, as_type, class_core, type_name_core, type_id}
use Rattle.cx_productions.specs.Parameters.{parameter_list}

-- constraint = Concept [ list ]
unfoldable pub constraint : Below → Context → Production ConstraintTree
constraint b c = do
  name ← token c (name_of names.Concept)
  args ← optional (punct punctuator.Less) (argument_list b c) []
  n ← node
  give (record { mark = mark n name.token.at; name = name.token.text; args = arguments args })

-- ---- local parameters: each is declared at its name

-- [ Name ], after a type
unfoldable pub local_after : Context → TypeTree → Production LocalTree
local_after c of = when any_name
    (do
      name ← token c any_name
      noted ← note name.token.text names.Value
      n ← node
      give (record { mark = mark n name.token.at; type = of; name = Some name.token.text }))
    (do
      n ← node
      give (record { mark = mark n (type_place of); type = of; name = None }))

-- parameter = type [ Name ]
unfoldable pub local : Below → Context → Production LocalTree
local b c = do
  of ← type_id b c
  local_after c of

-- [ parameters ]
unfoldable pub local_list : Below → Context → Production (List LocalTree)
local_list b c = parameter_list c (local_after c) (local b c)

-- [ "(" [ parameters ] ")" ]
unfoldable pub maybe_locals : Below → Context → Production (List LocalTree)
maybe_locals b c = when (punct punctuator.LeftParenthesis)
    (do
      ps ← in_parentheses c (local_list b)
      give ps.item)
    (give [])

-- ---- requirements: each is a construct, and its tokens stand within it

-- expr ";"
unfoldable pub simple_requirement : Below → Context → Production RequirementTree
simple_requirement b c = do
  e ← b.expr expression_level c
  semicolon ← token c (punct punctuator.Semicolon)
  n ← node
  give (SimpleRequirement (mark n (place_of e)) e)

-- names, after a head: a member type, which stands at a piece
unfoldable pub required_member : Context → Piece → Core → Production Core
required_member c first k = do
  head ← as_type k
  names ← member_names c
  give (record { at = first.token.at; tree = MemberTypeTree head names })

-- Class list [ names ] | Type names, after the word `typename`
unfoldable pub required_core : Below → Context → Piece → Production Core
required_core b c first = when (name_of names.ClassTemplate)
    (do
      k ← class_core b c
      optional (punct punctuator.ColonColon) (required_member c first k) k)
    (do
      k ← type_name_core c
      required_member c first k)

-- "typename" head names ";" | "typename" Class list ";". What it names is a type, which stands at `typename`.
unfoldable pub type_requirement : Below → Context → Production RequirementTree
type_requirement b c = do
  first ← token c (word word'.Typename)
  k ← required_core b c first
  t ← node
  semicolon ← token c (punct punctuator.Semicolon)
  n ← node
  give (TypeRequirement (mark n first.token.at) (OfCore (mark t first.token.at) false k.at k.tree false))

-- "->" constraint
unfoldable pub result_constraint : Below → Context → Production ConstraintTree
result_constraint b c = do
  arrow ← token c (punct punctuator.Arrow)
  constraint b c

-- "{" expr "}" [ "->" constraint ] ";"
unfoldable pub compound_requirement : Below → Context → Production RequirementTree
compound_requirement b c = do
  e ← in_braces c (b.expr expression_level)
  k ← maybe (punct punctuator.Arrow) (result_constraint b c)
  semicolon ← token c (punct punctuator.Semicolon)
  n ← node
  give (CompoundRequirement (mark n e.at) e.item k)

-- "requires" binary ";"
unfoldable pub nested_requirement : Below → Context → Production RequirementTree
nested_requirement b c = do
  first ← token c (word word'.Requires)
  e ← b.expr logical_or_level c
  semicolon ← token c (punct punctuator.Semicolon)
  n ← node
  give (NestedRequirement (mark n first.token.at) e)

-- requirement = type requirement | nested requirement | compound requirement | simple requirement. The words `typename`
-- and `requires` begin no expression there.
unfoldable pub requirement : Below → Context → Production RequirementTree
requirement b c =
    when (word word'.Typename) (type_requirement b c)
    (when (word word'.Requires) (nested_requirement b c)
    (when (punct punctuator.LeftBrace) (compound_requirement b c)
    (simple_requirement b c)))

-- requirement { requirement }, up to `}`
unfoldable pub requirement_list : Below → Context → Production (List RequirementTree)
requirement_list b c = do
  first ← requirement b (deeper c)
  repeat (λ so_far. any_but (punct punctuator.RightBrace)) (one_more_item (requirement b (deeper c))) (first ∷ [])

-- requires = "requires" [ "(" [ parameters ] ")" ] "{" requirement { requirement } "}". The names of its parameters are
-- forgotten after it.
unfoldable pub requires_expr : Below → Context → Production ExprTree
requires_expr b c = do
  first ← token c (word word'.Requires)
  in_scope (do
    ps ← maybe_locals b c
    rs ← in_braces c (requirement_list b)
    n ← node
    give (RequiresTree (mark n first.token.at) (locals ps) (requirements rs.item)))
