-- Requires-expressions as they are printed ([expr.prim.req]): with their alternatives and repetitions as the text of the
-- grammar has them, with no reader.
use Rattle.std.specs.Prelude.{◌≡◌, ℕ, zero, suc, ◌+◌, Bool, false, ◌||◌, List, [], ◌∷◌, ◌++◌, codes, Option, Some, None}
use Rattle.cx_scope.specs.Frames.{noted, entered}
use Rattle.cx_scope.specs.declared.name_kind.NameKind.TheVariants.{Value}
use Rattle.cx_tree.specs.Trees.{ExprTree, RequiresTree, TypeTree, VoidTree, ConstraintTree, LocalTree, RequirementTree, TypeRequirement, CompoundRequirement, locals, requirements}
use Rattle.cx_grammar.specs.Pieces.{Piece}
use Rattle.cx_grammar.specs.Production.{give, token, begins}
use Rattle.cx_grammar.specs.Words.{word, punct, any_name}
use Rattle.cx_grammar.specs.Names.{Context, deeper, inside, with_names}
use Rattle.cx_grammar.specs.Types.{Numbered, Below, Named, numbered, as_type, class_core, head_core, qualified_names, type_place, type_behind, type_id}
use Rattle.cx_grammar.specs.Requires.{constraint, simple_requirement, nested_requirement}
use Rattle.cx_grammar.specs.Printed.{Relation, trees_of, ◌>>=◌, or, optional}

-- What does not begin with a token of some kind.
abbrev pub unless : {A : Type 0} → (Piece → Bool) → Relation A → Relation A
unless q r = record {
  whole = λ limit ts behind x. (begins q (ts ++ behind) ≡ false) × r.whole limit ts behind x;
  front = λ limit ts. (begins q ts ≡ false) × r.front limit ts;
}

-- whether a token of some kind is all that there is
abbrev pub is_alone : (Piece → Bool) → List Piece → Bool
is_alone q (t ∷ []) = q t
is_alone q other = false

-- What is more than one token of some kind. Such a token may be the beginning of it.
abbrev pub not_alone : {A : Type 0} → (Piece → Bool) → Relation A → Relation A
not_alone q r = record {
  whole = λ limit ts behind x. (is_alone q ts ≡ false) × r.whole limit ts behind x;
  front = r.front;
}

-- One again and again, so many times.
abbrev pub turns : {A : Type 0} → ℕ → (A → Relation A) → A → Relation A
turns zero step x = trees_of (give x)
turns (suc n) step x = step x >>= turns n step

-- ... any number of times.
abbrev pub any_number : {A : Type 0} → (A → Relation A) → A → Relation A
any_number step x = record {
  whole = λ limit ts behind y. (n : ℕ) × (turns n step x).whole limit ts behind y;
  front = λ limit ts. (n : ℕ) × (turns n step x).front limit ts;
}

-- ---- req = "typename" qual ";" | "typename" Class "<" targs ">" ";" | "requires" lor ";"
--          | "{" expr "}" [ "->" cref ] ";" | expr ";"
-- where Class is the name of a class template, cref a concept with arguments or without, and no expr begins with
-- "typename" or "requires".

-- qual = head "::" Name { "::" Name }, where a head is the name of a type or Class "<" targs ">"
abbrev pub qual : Below → Context → ℕ → Relation (Numbered (TypeTree × List (List ℕ)))
qual b c n = do
  head ← trees_of (head_core b c n)
  names ← trees_of (qualified_names c)
  trees_of (give (((as_type head).0, names), (as_type head).1))

-- Class "<" targs ">"
abbrev pub class_alone : Below → Context → ℕ → Relation (Numbered (TypeTree × List (List ℕ)))
class_alone b c n = do
  head ← trees_of (class_core b c n)
  trees_of (give (((as_type head).0, []), (as_type head).1))

abbrev pub printed_type_requirement : Below → Context → ℕ → Relation (Numbered RequirementTree)
printed_type_requirement b c n = do
  word' ← trees_of (token (c.load + 1) (word (codes "typename")))
  of ← or (qual b (deeper c) n) (class_alone b (deeper c) n)
  semicolon ← trees_of (token (c.load + 1) (punct (codes ";")))
  trees_of (give (TypeRequirement (numbered of.1 word'.token.at) of.0.0 of.0.1, of.1 + 1))

abbrev pub arrow_constraint : Below → Context → ℕ → Relation (Numbered (Option ConstraintTree))
arrow_constraint b c n = do
  arrow ← trees_of (token c.load (punct (codes "->")))
  k ← trees_of (constraint b c n)
  trees_of (give (Some k.0, k.1))

abbrev pub printed_compound_requirement : Below → Context → ℕ → Relation (Numbered RequirementTree)
printed_compound_requirement b c n = do
  open_brace ← trees_of (token (c.load + 1 + 1) (punct (codes "{")))
  e ← trees_of (b.expr (inside (deeper c)) n)
  close_brace ← trees_of (token (c.load + 1 + 1) (punct (codes "}")))
  k ← optional (arrow_constraint b (deeper c) e.1) (None, e.1)
  semicolon ← trees_of (token (c.load + 1) (punct (codes ";")))
  trees_of (give (CompoundRequirement (numbered k.1 open_brace.token.at) e.0 k.0, k.1 + 1))

abbrev pub begins_no_expr : Piece → Bool
begins_no_expr t = word (codes "typename") t || word (codes "requires") t

unfoldable pub printed_requirement : Below → Context → ℕ → Relation (Numbered RequirementTree)
printed_requirement b c n =
    or (printed_type_requirement b c n)
    (or (trees_of (nested_requirement b c n))
    (or (printed_compound_requirement b c n)
    (unless begins_no_expr (trees_of (simple_requirement b c n)))))

-- ---- req { req }

abbrev pub another_requirement : Below → Context → Numbered (List RequirementTree) → Relation (Numbered (List RequirementTree))
another_requirement b c so_far = do
  r ← printed_requirement b c so_far.1
  trees_of (give (so_far.0 ++ r.0 ∷ [], r.1))

abbrev pub printed_requirements : Below → Context → ℕ → Relation (Numbered (List RequirementTree))
printed_requirements b c n = do
  first ← printed_requirement b c n
  any_number (another_requirement b c) (first.0 ∷ [], first.1)

-- ---- rparams = "void" | type [ Name ] { "," type [ Name ] }
-- where "void" alone is no parameter.

abbrev pub void_alone : Context → ℕ → Relation (Named (List LocalTree))
void_alone c n = do
  word' ← trees_of (token c.load (word (codes "void")))
  trees_of (give ([], n, c.names))

-- [ Name ]; the name is declared at once
abbrev pub maybe_local_name : Context → Numbered TypeTree → Relation (Named LocalTree)
maybe_local_name c of = optional
    (do
      name ← trees_of (token c.load any_name)
      trees_of (give (record { mark = numbered of.1 name.token.at; type = of.0; name = Some name.token.text }, of.1 + 1, noted c.names name.token.text Value)))
    (record { mark = numbered of.1 (type_place of.0); type = of.0; name = None }, of.1 + 1, c.names)

-- The first type. Where it begins with "void", that word is no part of the type's construct, as it may be all that there
-- is.
abbrev pub first_type : Below → Context → ℕ → Relation (Numbered TypeTree)
first_type b c n = or
    (unless (word (codes "void")) (trees_of (type_id b c n)))
    (do
      word' ← trees_of (token c.load (word (codes "void")))
      trees_of (type_behind c word'.token.at false (VoidTree, n)))

-- type [ Name ]
abbrev pub printed_local : Below → Context → ℕ → Relation (Named LocalTree)
printed_local b c n = do
  of ← trees_of (type_id b c n)
  maybe_local_name c of

abbrev pub another_local : Below → Context → Named (List LocalTree) → Relation (Named (List LocalTree))
another_local b c so_far = do
  comma ← trees_of (token c.load (punct (codes ",")))
  p ← printed_local b (with_names c so_far.2) so_far.1
  trees_of (give (so_far.0 ++ p.0 ∷ [], p.1, p.2))

abbrev pub typed_locals : Below → Context → ℕ → Relation (Named (List LocalTree))
typed_locals b c n = do
  of ← first_type b c n
  first ← maybe_local_name c of
  any_number (another_local b c) (first.0 ∷ [], first.1, first.2)

abbrev pub printed_locals : Below → Context → ℕ → Relation (Named (List LocalTree))
printed_locals b c n = or (void_alone c n) (not_alone (word (codes "void")) (typed_locals b c n))

-- ---- reqexpr = "requires" [ "(" [ rparams ] ")" ] "{" req { req } "}"

abbrev pub round_locals : Below → Context → ℕ → Relation (Named (List LocalTree))
round_locals b c n = do
  open_round ← trees_of (token (c.load + 1) (punct (codes "(")))
  ps ← optional (printed_locals b (inside c) n) ([], n, c.names)
  close_round ← trees_of (token (c.load + 1) (punct (codes ")")))
  trees_of (give ps)

unfoldable pub printed_requires_expr : Below → Context → ℕ → Relation (Numbered ExprTree)
printed_requires_expr b c n = do
  word' ← trees_of (token c.load (word (codes "requires")))
  ps ← optional (round_locals b (with_names c (entered c.names)) n) ([], n, entered c.names)
  open_brace ← trees_of (token (c.load + 1) (punct (codes "{")))
  rs ← printed_requirements b (inside (with_names c ps.2)) ps.1
  close_brace ← trees_of (token (c.load + 1) (punct (codes "}")))
  trees_of (give (RequiresTree (numbered rs.1 word'.token.at) (locals ps.0) (requirements rs.0), rs.1 + 1))
