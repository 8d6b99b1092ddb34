-- Requires-expressions ([expr.prim.req]), and constraints of types ([temp.param]), which stand in them.
use Rattle.std.specs.Prelude.{ℕ, ◌+◌, not, Bool, false, List, [], ◌∷◌, ◌++◌, codes, Option, Some, None}
use Rattle.cx_scope.specs.Frames.{noted, entered}
use Rattle.cx_scope.specs.declared.name_kind.NameKind.TheVariants.{Value}
use Rattle.cx_tree.specs.Trees.{ExprTree, RequiresTree, TypeTree, VoidTree, ConstraintTree, LocalTree, RequirementTree, SimpleRequirement, TypeRequirement, CompoundRequirement, NestedRequirement, expr_mark, arguments, locals, requirements}
use Rattle.cx_grammar.specs.Pieces.{Piece}
use Rattle.cx_grammar.specs.Production.{Production, give, ◌>>=◌, token, when, given, repeat, unread}
use Rattle.cx_grammar.specs.Words.{word, punct, any_name}
use Rattle.cx_grammar.specs.Names.{Context, deeper, inside, with_names, class_name, concept_name}
use Rattle.cx_grammar.specs.Types.{Numbered, Named, Below, numbered, argument_list, as_type, class_core, type_name_core, qualified_names, type_place, type_id, type_behind}

-- A concept with arguments or without.
unfoldable pub constraint : Below → Context → ℕ → Production (Numbered ConstraintTree)
constraint b c n = do
  name ← token c.load (concept_name c)
  when (punct (codes "<"))
      (do
        args ← argument_list b c n
        give (record { mark = numbered args.1 name.token.at; name = name.token.text; args = arguments args.0 }, args.1 + 1))
      (give (record { mark = numbered n name.token.at; name = name.token.text; args = arguments [] }, n + 1))

-- ---- local parameters ([expr.prim.req])

-- the name of a local parameter, or none; it is declared at once
unfoldable pub local_behind : Context → Numbered TypeTree → Production (Named LocalTree)
local_behind c of = when any_name
    (do
      name ← token c.load any_name
      give (record { mark = numbered of.1 name.token.at; type = of.0; name = Some name.token.text }, of.1 + 1, noted c.names name.token.text Value))
    (give (record { mark = numbered of.1 (type_place of.0); type = of.0; name = None }, of.1 + 1, c.names))

unfoldable pub local : Below → Context → ℕ → Production (Named LocalTree)
local b c n = do
  of ← type_id b c n
  local_behind c of

abbrev pub more_local : Below → Context → Named (List LocalTree) → Production (Named (List LocalTree))
more_local b c so_far = do
  comma ← token c.load (punct (codes ","))
  p ← local b (with_names c so_far.2) so_far.1
  give (so_far.0 ++ p.0 ∷ [], p.1, p.2)

unfoldable pub locals_behind : Below → Context → Named LocalTree → Production (Named (List LocalTree))
locals_behind b c first = repeat (punct (codes ",")) (more_local b c) (first.0 ∷ [], first.1, first.2)

-- `void` alone is no parameter; the first parameter may be of a type that begins with it
unfoldable pub void_locals : Below → Context → ℕ → Production (Named (List LocalTree))
void_locals b c n = do
  t ← token c.load (word (codes "void"))
  when (punct (codes ")"))
      (give ([], n, c.names))
      (do
        of ← type_behind c t.token.at false (VoidTree, n)
        first ← local_behind c of
        locals_behind b c first)

-- none or more, within `(` and `)`
unfoldable pub some_locals : Below → Context → ℕ → Production (Named (List LocalTree))
some_locals b c n =
    when (punct (codes ")")) (give ([], n, c.names))
    (when (word (codes "void")) (void_locals b c n)
    (do
      first ← local b c n
      locals_behind b c first))

-- `(`, parameters, `)`, or nothing
unfoldable pub maybe_locals : Below → Context → ℕ → Production (Named (List LocalTree))
maybe_locals b c n = when (punct (codes "("))
    (do
      open_round ← token (c.load + 1) (punct (codes "("))
      ps ← some_locals b (inside c) n
      close_round ← token (c.load + 1) (punct (codes ")"))
      give ps)
    (give ([], n, c.names))

-- ---- requirements. Each is a construct: its tokens stand within it.

-- an expression, `;` ([expr.prim.req.simple])
unfoldable pub simple_requirement : Below → Context → ℕ → Production (Numbered RequirementTree)
simple_requirement b c n = do
  e ← b.expr (deeper c) n
  semicolon ← token (c.load + 1) (punct (codes ";"))
  give (SimpleRequirement (numbered e.1 ((expr_mark e.0).at)) e.0, e.1 + 1)

-- names behind `::`, or none
unfoldable pub maybe_names : Context → Production (List (List ℕ))
maybe_names c = when (punct (codes "::")) (qualified_names c) (give [])

-- a class template with arguments, behind which names may stand, or the name of a type, behind which they must
unfoldable pub required_type : Below → Context → ℕ → Production (Numbered (TypeTree × List (List ℕ)))
required_type b c n = when (class_name c)
    (do
      k ← class_core b c n
      names ← maybe_names c
      give (((as_type k).0, names), (as_type k).1))
    (do
      k ← type_name_core c n
      names ← qualified_names c
      give (((as_type k).0, names), (as_type k).1))

-- `typename`, a type, `;` ([expr.prim.req.type]). The type is no construct of its own there.
unfoldable pub type_requirement : Below → Context → ℕ → Production (Numbered RequirementTree)
type_requirement b c n = do
  word' ← token (c.load + 1) (word (codes "typename"))
  of ← required_type b (deeper c) n
  semicolon ← token (c.load + 1) (punct (codes ";"))
  give (TypeRequirement (numbered of.1 word'.token.at) of.0.0 of.0.1, of.1 + 1)

-- `->` and a concept, with its arguments or without, or nothing
unfoldable pub maybe_constraint : Below → Context → ℕ → Production (Numbered (Option ConstraintTree))
maybe_constraint b c n = when (punct (codes "->"))
    (do
      arrow ← token c.load (punct (codes "->"))
      k ← constraint b c n
      give (Some k.0, k.1))
    (give (None, n))

-- an expression in braces, with a constraint of its type or without, `;` ([expr.prim.req.compound])
unfoldable pub compound_requirement : Below → Context → ℕ → Production (Numbered RequirementTree)
compound_requirement b c n = do
  open_brace ← token (c.load + 1 + 1) (punct (codes "{"))
  e ← b.expr (inside (deeper c)) n
  close_brace ← token (c.load + 1 + 1) (punct (codes "}"))
  k ← maybe_constraint b (deeper c) e.1
  semicolon ← token (c.load + 1) (punct (codes ";"))
  give (CompoundRequirement (numbered k.1 open_brace.token.at) e.0 k.0, k.1 + 1)

-- `requires`, binary operators of all levels with their operands, `;` ([expr.prim.req.nested])
unfoldable pub nested_requirement : Below → Context → ℕ → Production (Numbered RequirementTree)
nested_requirement b c n = do
  word' ← token (c.load + 1) (word (codes "requires"))
  e ← b.operand 10 (deeper c) n
  semicolon ← token (c.load + 1) (punct (codes ";"))
  give (NestedRequirement (numbered e.1 word'.token.at) e.0, e.1 + 1)

-- A requirement. The words `typename` and `requires` begin no expression there.
unfoldable pub requirement : Below → Context → ℕ → Production (Numbered RequirementTree)
requirement b c n =
    when (word (codes "typename")) (type_requirement b c n)
    (when (word (codes "requires")) (nested_requirement b c n)
    (when (punct (codes "{")) (compound_requirement b c n)
    (simple_requirement b c n)))

abbrev pub is_not_closing : Piece → Bool
is_not_closing p = not (punct (codes "}") p)

abbrev pub more_requirement : Below → Context → Numbered (List RequirementTree) → Production (Numbered (List RequirementTree))
more_requirement b c so_far = do
  r ← requirement b c so_far.1
  give (so_far.0 ++ r.0 ∷ [], r.1)

-- one or more, up to `}`
unfoldable pub some_requirements : Below → Context → ℕ → Production (Numbered (List RequirementTree))
some_requirements b c n = do
  first ← requirement b c n
  repeat is_not_closing (more_requirement b c) (first.0 ∷ [], first.1)

-- ---- requires-expressions

-- Its word, local parameters or none, requirements in braces. The names of its parameters are forgotten behind it.
unfoldable pub requires_expr : Below → Context → ℕ → Production (Numbered ExprTree)
requires_expr b c n = do
  word' ← token c.load (word (codes "requires"))
  ps ← maybe_locals b (with_names c (entered c.names)) n
  open_brace ← token (c.load + 1) (punct (codes "{"))
  rs ← some_requirements b (inside (with_names c ps.2)) ps.1
  close_brace ← token (c.load + 1) (punct (codes "}"))
  give (RequiresTree (numbered rs.1 word'.token.at) (locals ps.0) (requirements rs.0), rs.1 + 1)

-- A requires-expression where these are read; else the word is unsupported.
unfoldable pub maybe_requires : Below → Context → ℕ → Production (Numbered ExprTree)
maybe_requires b c n = given b.requires (requires_expr b c n) (unread (word (codes "requires")))
