-- Productions as the text of the grammar has them: alternatives, whatever their first tokens are.
use Rattle.std.specs.Prelude.{◌≡◌, Option, None, Some, ℕ, ◌+◌, Bool, true, false, not, codes}
use Rattle.cx_base.specs.declared.place.Place.{Place}
use Rattle.cx_scope.specs.Frames.{noted}
use Rattle.cx_scope.specs.declared.name_kind.NameKind.TheVariants as names
use Rattle.cx_tree.specs.Trees.{ArgumentTree}
use Rattle.cx_tree.specs.Statements.{WrittenType, OfType, OfAuto, StmtTree}
use Rattle.cx_tree.specs.Declarations.{ParameterTree, MemberTree, FieldMember, FunctionMember, DeclTree, ConstantDecl, FunctionDecl}
use Rattle.cx_grammar.specs.Pieces.{Piece}
use Rattle.cx_grammar.specs.Production.{give, token}
use Rattle.cx_grammar.specs.Words.{word, punct, any_name}
use Rattle.cx_grammar.specs.Printed.{Relation, trees_of, ◌>>=◌, or, optional}
use Rattle.cx_grammar.specs.Names.{Context}
use Rattle.cx_grammar.specs.Types.{Numbered, Below, numbered, type_id, Named, type_place}
use Rattle.cx_grammar.specs.Expressions.{expr, type_argument, value_argument}
use Rattle.cx_grammar.specs.Requires.{constraint}
use Rattle.cx_grammar.specs.Statements.{Within, place_or, auto_behind, typed_variable, constrained_auto, plain_auto, variable, expr_stmt}
use Rattle.cx_grammar.specs.Declarations.{no_specifiers, specifiers, constant_behind, function_behind, is_member_specifier}

-- ---- targ = type | carg, where carg is an expression: within a list it has no assignment, and `>` is no operator

unfoldable pub printed_argument : Below → Context → ℕ → Relation (Numbered ArgumentTree)
printed_argument b c n = or
    (do
      t ← trees_of (type_id b c n)
      trees_of (give (type_argument t)))
    (do
      e ← trees_of (expr b c n)
      trees_of (give (value_argument e)))

-- ---- [ "constexpr" ] variable | expr ";"

-- nothing goes on behind what ends with `;`
abbrev pub nothing : Piece → Bool
nothing t = false

unfoldable pub printed_open_stmt : Below → Context → ℕ → Relation (Named StmtTree)
printed_open_stmt b c n = or
    (do
      is_constexpr ← optional
          (do
            t ← trees_of (token c.load (word (codes "constexpr")))
            trees_of (give true))
          false
      trees_of (variable b c is_constexpr n))
    (trees_of (expr_stmt b c n))

-- ---- variable = type Name init ";" | [ "const" ] [ constraint ] "auto" [ "const" ] [ "&" ] Name "=" expr ";"

-- `auto` behind a constraint or alone; the place of a `const` before them is told
abbrev pub maybe_constrained : Below → Context → ℕ → Option Place → Bool → Bool → Relation (Named StmtTree)
maybe_constrained b c n at is_constexpr before = or (trees_of (constrained_auto b c at is_constexpr before n)) (trees_of (plain_auto b c at is_constexpr before n))

unfoldable pub printed_variable : Below → Context → Bool → ℕ → Relation (Named StmtTree)
printed_variable b c is_constexpr n = or
    (trees_of (typed_variable b c is_constexpr n))
    (or
    (maybe_constrained b c n None is_constexpr false)
    (do
      t ← trees_of (token c.load (word (codes "const")))
      maybe_constrained b c n (Some t.token.at) is_constexpr true))

-- ---- param = type [ Name ], and where `auto` may stand [ "const" ] [ constraint ] "auto" [ "const" ] [ "&" ] [ Name ]

-- the name of a parameter, or none
abbrev pub maybe_named : Context → Place → Numbered WrittenType → Relation (Named ParameterTree)
maybe_named c at of = optional
    (do
      name ← trees_of (token c.load any_name)
      trees_of (give (record { mark = numbered of.1 name.token.at; type = of.0; name = Some name.token.text }, of.1 + 1, noted c.names name.token.text names.Value)))
    (record { mark = numbered of.1 at; type = of.0; name = None }, of.1 + 1, c.names)

abbrev pub typed_name : Below → Context → ℕ → Relation (Named ParameterTree)
typed_name b c n = do
  of ← trees_of (type_id b c n)
  maybe_named c (type_place of.0) (OfType of.0, of.1)

-- `auto` behind a constraint, and alone; the place of a `const` before them is told
abbrev pub constrained_name : Below → Context → ℕ → Option Place → Bool → Relation (Named ParameterTree)
constrained_name b c n at before = do
  k ← trees_of (constraint b c n)
  a ← trees_of (auto_behind c (Some (place_or k.0.mark.at at)) before (Some k.0) k.1)
  maybe_named c a.0.mark.at (OfAuto a.0, a.1)

abbrev pub auto_name : Context → ℕ → Option Place → Bool → Relation (Named ParameterTree)
auto_name c n at before = do
  a ← trees_of (auto_behind c at before None n)
  maybe_named c a.0.mark.at (OfAuto a.0, a.1)

abbrev pub maybe_constrained_parameter : Below → Context → ℕ → Option Place → Bool → Relation (Named ParameterTree)
maybe_constrained_parameter b c n at before = or (constrained_name b c n at before) (auto_name c n at before)

unfoldable pub printed_parameter : Bool → Below → Context → ℕ → Relation (Named ParameterTree)
printed_parameter false b c n = typed_name b c n
printed_parameter true b c n = or
    (typed_name b c n)
    (or
    (maybe_constrained_parameter b c n None false)
    (do
      t ← trees_of (token c.load (word (codes "const")))
      maybe_constrained_parameter b c n (Some t.token.at) true))

-- ---- what is declared with a type and a name

-- what stands only where something holds
abbrev pub where_so : {A : Type 0} → Bool → Relation A → Relation A
where_so is r = record {
  whole = λ limit ts behind x. (is ≡ true) × r.whole limit ts behind x;
  front = λ limit ts. (is ≡ true) × r.front limit ts;
}

-- ---- in the unit: specs type Name init ";", where `constexpr` is among the specifiers | specs type Name "(" params ")" ...

abbrev pub printed_constant : Within → Context → ℕ → Relation (Named DeclTree)
printed_constant b c n = do
  s ← trees_of (specifiers c no_specifiers)
  of ← trees_of (type_id b.base c n)
  name ← trees_of (token c.load any_name)
  where_so s.is_constexpr
      (do
        v ← trees_of (constant_behind b.base c s of name)
        trees_of (give (ConstantDecl v.0, v.1, v.2)))

abbrev pub printed_function : Within → Context → ℕ → Relation (Named DeclTree)
printed_function b c n = do
  s ← trees_of (specifiers c no_specifiers)
  of ← trees_of (type_id b.base c n)
  name ← trees_of (token c.load any_name)
  f ← trees_of (function_behind false false b c s of name)
  trees_of (give (FunctionDecl f.0, f.1, f.2))

unfoldable pub printed_variable_or_function : Within → Context → ℕ → Relation (Named DeclTree)
printed_variable_or_function b c n = or (printed_constant b c n) (printed_function b c n)

-- ---- in a class: specs type Name ";", where the specifiers are none | specs type Name "(" params ")" ...; `static` is not
-- among the specifiers

abbrev pub printed_field : Within → Context → ℕ → Relation (Named MemberTree)
printed_field b c n = do
  s ← trees_of (specifiers c (record { is_inline = false; is_static = true; is_constexpr = false }))
  of ← trees_of (type_id b.base c n)
  name ← trees_of (token c.load any_name)
  where_so (not (is_member_specifier s))
      (do
        semicolon ← trees_of (token c.load (punct (codes ";")))
        trees_of (give (FieldMember (numbered of.1 name.token.at) of.0 name.token.text, of.1 + 1, noted c.names name.token.text names.Value)))

abbrev pub printed_member_function : Bool → Within → Context → ℕ → Relation (Named MemberTree)
printed_member_function templated b c n = do
  s ← trees_of (specifiers c (record { is_inline = false; is_static = true; is_constexpr = false }))
  of ← trees_of (type_id b.base c n)
  name ← trees_of (token c.load any_name)
  f ← trees_of (function_behind true templated b c (record s { is_static = false }) of name)
  trees_of (give (FunctionMember f.0, f.1, f.2))

unfoldable pub printed_field_or_function : Bool → Within → Context → ℕ → Relation (Named MemberTree)
printed_field_or_function templated b c n = or (printed_field b c n) (printed_member_function templated b c n)
