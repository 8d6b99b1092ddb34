-- Declarations ([dcl.dcl], [dcl.fct], [class.mem], [temp]) and units.
use Rattle.std.specs.Prelude.{ℕ, ◌+◌, zero, suc, Bool, true, false, ◌||◌, ◌&&◌, not, List, [], ◌∷◌, ◌++◌, codes, Option, Some, None}
use Rattle.cx_base.specs.declared.place.Place.{Place}
use Rattle.cx_base.specs.declared.value.Scalar.{Scalar}
use Rattle.cx_base.specs.declared.value.Scalar.TheVariants as scalar
use Rattle.cx_lexer.specs.declared.token.TokenKind.{TokenKind}
use Rattle.cx_lexer.specs.declared.token.TokenKind.TheVariants as kind
use Rattle.cx_scope.specs.declared.name_kind.NameKind.{NameKind}
use Rattle.cx_scope.specs.declared.name_kind.NameKind.TheVariants as names
use Rattle.cx_scope.specs.Frames.{Frames, noted, entered}
use Rattle.cx_tree.specs.Trees.{ExprTree, TypeTree, ConstraintTree, CoreTree, ScalarTree, VoidTree, arguments}
use Rattle.cx_tree.specs.Statements.{WrittenType, OfType, OfAuto, StmtTree}
use Rattle.cx_tree.specs.Declarations.{Specifiers, ParameterTree, FunctionTree, AliasTree, ConstantTree, MemberTree, EmptyMember, AliasMember, FieldMember, ConstantMember, FunctionMember, StructTree, TemplateParameterTree, TypeParameter, ConstrainedParameter, ValueParameter, TemplatedTree, FunctionTemplate, StructTemplate, ConceptDefinition, Specialisation, DeclTree, EmptyDecl, AssertDecl, AliasDecl, ConstantDecl, FunctionDecl, StructDecl, TemplateDecl}
use Rattle.cx_grammar.specs.Pieces.{Piece}
use Rattle.cx_grammar.specs.Production.{Production, give, ◌>>=◌, token, when, given, repeat, closed}
use Rattle.cx_grammar.specs.Words.{word, punct, any_name}
use Rattle.cx_grammar.specs.Names.{Context, deeper, inside, listed, with_names, concept_name, class_name}
use Rattle.cx_grammar.specs.Types.{Numbered, Named, Below, numbered, type_place, argument_list, closes, type_id, type_behind, scalar_core}
use Rattle.cx_grammar.specs.Expressions.{expr, rests, unary, clause, levels}
use Rattle.cx_grammar.specs.Requires.{constraint, is_not_closing}
use Rattle.cx_grammar.specs.Statements.{Within, auto_behind, assertion, init, block, stmt, bare_stmt, for_head}

-- ---- specifiers: each at most once

abbrev pub no_specifiers : Specifiers
no_specifiers = record { is_inline = false; is_static = false; is_constexpr = false }

abbrev pub is_free : Specifiers → Piece → Bool
is_free s p = (word (codes "inline") p && not s.is_inline) || (word (codes "static") p && not s.is_static) || (word (codes "constexpr") p && not s.is_constexpr)

abbrev pub with_specifier : Specifiers → Piece → Specifiers
with_specifier s p = record {
  is_inline = s.is_inline || word (codes "inline") p;
  is_static = s.is_static || word (codes "static") p;
  is_constexpr = s.is_constexpr || word (codes "constexpr") p;
}

-- at most so many more
unfoldable pub specifiers_from : ℕ → Context → Specifiers → Production Specifiers
specifiers_from zero c s = give s
specifiers_from (suc n) c s = when (is_free s)
    (do
      t ← token c.load (is_free s)
      specifiers_from n c (with_specifier s t))
    (give s)

abbrev pub specifiers : Context → Specifiers → Production Specifiers
specifiers c s = specifiers_from 3 c s

-- nothing fits here
abbrev pub no_piece : Piece → Bool
no_piece p = false

-- ---- parameters ([dcl.fct])

-- the name of a parameter, or none; it is declared at once
unfoldable pub parameter_behind : Context → Place → Numbered WrittenType → Production (Named ParameterTree)
parameter_behind c at of = when any_name
    (do
      name ← token c.load any_name
      give (record { mark = numbered of.1 name.token.at; type = of.0; name = Some name.token.text }, of.1 + 1, noted c.names name.token.text names.Value))
    (give (record { mark = numbered of.1 at; type = of.0; name = None }, of.1 + 1, c.names))

unfoldable pub typed_parameter : Context → Numbered TypeTree → Production (Named ParameterTree)
typed_parameter c of = parameter_behind c (type_place of.0) (OfType of.0, of.1)

unfoldable pub auto_parameter : Context → Option Place → Bool → Option ConstraintTree → ℕ → Production (Named ParameterTree)
auto_parameter c at before constrained n = do
  a ← auto_behind c at before constrained n
  parameter_behind c a.0.mark.at (OfAuto a.0, a.1)

-- a type, or `auto` where it may stand, behind `const` or not
unfoldable pub const_parameter : Bool → Below → Context → ℕ → Production (Named ParameterTree)
const_parameter autos b c n = do
  t ← token c.load (word (codes "const"))
  when (λ p. autos && concept_name c p)
      (do
        k ← constraint b c n
        auto_parameter c (Some t.token.at) true (Some k.0) k.1)
      (when (λ p. autos && word (codes "auto") p) (auto_parameter c (Some t.token.at) true None n)
      (do
        k ← b.core (deeper c) n
        of ← type_behind c t.token.at true (k.0.1, k.1)
        typed_parameter c of))

unfoldable pub parameter : Bool → Below → Context → ℕ → Production (Named ParameterTree)
parameter autos b c n =
    when (word (codes "const")) (const_parameter autos b c n)
    (when (λ p. autos && concept_name c p)
    (do
      k ← constraint b c n
      auto_parameter c (Some k.0.mark.at) false (Some k.0) k.1)
    (when (λ p. autos && word (codes "auto") p) (auto_parameter c None false None n)
    (do
      of ← type_id b c n
      typed_parameter c of)))

abbrev pub more_parameter : Bool → Below → Context → Named (List ParameterTree) → Production (Named (List ParameterTree))
more_parameter autos b c so_far = do
  comma ← token c.load (punct (codes ","))
  p ← parameter autos b (with_names c so_far.2) so_far.1
  give (so_far.0 ++ p.0 ∷ [], p.1, p.2)

unfoldable pub parameters_behind : Bool → Below → Context → Named ParameterTree → Production (Named (List ParameterTree))
parameters_behind autos b c first = repeat (punct (codes ",")) (more_parameter autos b c) (first.0 ∷ [], first.1, first.2)

-- `void` alone is no parameter; the first parameter may be of a type that begins with it
unfoldable pub void_parameters : Bool → Below → Context → ℕ → Production (Named (List ParameterTree))
void_parameters autos b c n = do
  t ← token c.load (word (codes "void"))
  when (punct (codes ")"))
      (give ([], n, c.names))
      (do
        of ← type_behind c t.token.at false (VoidTree, n)
        first ← typed_parameter c of
        parameters_behind autos b c first)

unfoldable pub parameters : Bool → Below → Context → ℕ → Production (Named (List ParameterTree))
parameters autos b c n =
    when (punct (codes ")")) (give ([], n, c.names))
    (when (word (codes "void")) (void_parameters autos b c n)
    (do
      first ← parameter autos b c n
      parameters_behind autos b c first))

abbrev pub is_auto_type : WrittenType → Bool
is_auto_type (OfAuto a) = true
is_auto_type (OfType t) = false

abbrev pub has_auto : List ParameterTree → Bool
has_auto [] = false
has_auto (p ∷ ps) = is_auto_type p.type || has_auto ps

-- ---- functions ([dcl.fct.def])

-- the kind of a function that is a template or none
abbrev pub function_kind : Bool → NameKind
function_kind true = names.FunctionTemplate
function_kind false = names.Function

-- A function of the unit in a template is a template, and so is one with an `auto` parameter ([dcl.fct]); a member of a
-- class template is none.
abbrev pub declared_kind : Bool → Bool → List ParameterTree → NameKind
declared_kind is_member templated ps = function_kind ((templated && not is_member) || has_auto ps)

-- a name declared in the scope round the innermost one
abbrev pub noted_outside : Frames → List ℕ → NameKind → Frames
noted_outside [] name k = []
noted_outside (f ∷ fs) name k = f ∷ noted fs name k

-- the head of a function up to its `)`
pub record Head : Type 0 where
  pub parameters : List ParameterTree
  pub templated : Bool

unfoldable pub trailing : Bool → Below → Context → ℕ → Production (Numbered (Option ExprTree))
trailing templated b c n = when (λ p. templated && word (codes "requires") p)
    (do
      word' ← token c.load (word (codes "requires"))
      e ← clause b c n
      give (Some e.0, e.1))
    (give (None, n))

unfoldable pub maybe_const_member : Bool → Context → Production Bool
maybe_const_member is_member c = when (λ p. is_member && word (codes "const") p)
    (do
      t ← token c.load (word (codes "const"))
      give true)
    (give false)

unfoldable pub function_body : Within → Context → ℕ → Production (Numbered (Option StmtTree))
function_body b c n = when (punct (codes ";"))
    (do
      t ← token c.load (punct (codes ";"))
      give (None, n))
    (do
      body ← block b c n
      give (Some body.0, body.1))

-- Behind the name of a function: it is declared behind its parameters, and they are forgotten behind it.
unfoldable pub function_behind : Bool → Bool → Within → Context → Specifiers → Numbered TypeTree → Piece → Production (Named FunctionTree)
function_behind is_member templated b c s result name = do
  open_round ← token (c.load + 1) (punct (codes "("))
  ps ← b.parameters (not is_member) (inside (with_names c (entered c.names))) result.1
  close_round ← token (c.load + 1) (punct (codes ")"))
  is_const ← maybe_const_member is_member c
  clause' ← trailing (templated || has_auto ps.0) b.base (with_names c (noted_outside ps.2 name.token.text (declared_kind is_member templated ps.0))) ps.1
  body ← function_body b (with_names c (noted_outside ps.2 name.token.text (declared_kind is_member templated ps.0))) clause'.1
  give (
    record { mark = numbered body.1 name.token.at; specifiers = s; result = result.0; name = name.token.text; parameters = ps.0; is_const = is_const; trailing = clause'.0; body = body.0 },
    body.1 + 1,
    noted c.names name.token.text (declared_kind is_member templated ps.0),
  )

-- ---- constants of the unit and static ones, aliases

-- behind the name of a variable: it is declared before its initialiser ([basic.scope.pdecl])
unfoldable pub constant_behind : Below → Context → Specifiers → Numbered TypeTree → Piece → Production (Named ConstantTree)
constant_behind b c s of name = do
  i ← init b (with_names c (noted c.names name.token.text names.Value)) of.1
  semicolon ← token c.load (punct (codes ";"))
  give (record { mark = numbered i.1 name.token.at; specifiers = s; type = of.0; name = name.token.text; init = i.0 }, i.1 + 1, noted c.names name.token.text names.Value)

unfoldable pub alias : Below → Context → ℕ → Production (Named AliasTree)
alias b c n = do
  word' ← token c.load (word (codes "using"))
  name ← token c.load any_name
  equal ← token c.load (punct (codes "="))
  of ← type_id b c n
  semicolon ← token c.load (punct (codes ";"))
  give (record { mark = numbered of.1 name.token.at; name = name.token.text; type = of.0 }, of.1 + 1, noted c.names name.token.text names.TypeName)

-- a variable or a function of the unit: a variable is constexpr
unfoldable pub variable_or_function : Within → Context → ℕ → Production (Named DeclTree)
variable_or_function b c n = do
  s ← specifiers c no_specifiers
  of ← type_id b.base c n
  name ← token c.load any_name
  when (λ p. s.is_constexpr && not (punct (codes "(") p))
      (do
        v ← constant_behind b.base c s of name
        give (ConstantDecl v.0, v.1, v.2))
      (do
        f ← function_behind false false b c s of name
        give (FunctionDecl f.0, f.1, f.2))

-- ---- structs ([class])

-- a static constant: it is constexpr
unfoldable pub static_member : Below → Context → ℕ → Production (Named MemberTree)
static_member b c n = do
  word' ← token c.load (word (codes "static"))
  s ← specifiers c (record { is_inline = false; is_static = true; is_constexpr = false })
  of ← given s.is_constexpr (type_id b c n) (do t ← token c.load no_piece; type_id b c n)
  name ← token c.load any_name
  v ← constant_behind b c s of name
  give (ConstantMember v.0, v.1, v.2)

abbrev pub is_member_specifier : Specifiers → Bool
is_member_specifier s = s.is_inline || s.is_constexpr

-- a field, which has no specifiers, or a member function, which is not static
unfoldable pub field_or_function : Bool → Within → Context → ℕ → Production (Named MemberTree)
field_or_function templated b c n = do
  s ← specifiers c (record { is_inline = false; is_static = true; is_constexpr = false })
  of ← type_id b.base c n
  name ← token c.load any_name
  when (λ p. not (is_member_specifier s) && punct (codes ";") p)
      (do
        semicolon ← token c.load (punct (codes ";"))
        give (FieldMember (numbered of.1 name.token.at) of.0 name.token.text, of.1 + 1, noted c.names name.token.text names.Value))
      (do
        f ← function_behind true templated b c (record s { is_static = false }) of name
        give (FunctionMember f.0, f.1, f.2))

unfoldable pub struct_member : Bool → Within → Context → ℕ → Production (Named MemberTree)
struct_member templated b c n =
    when (punct (codes ";")) (do t ← token c.load (punct (codes ";")); give (EmptyMember (numbered n t.token.at), n + 1, c.names))
    (when (word (codes "using")) (do a ← alias b.base c n; give (AliasMember a.0, a.1, a.2))
    (when (word (codes "static")) (static_member b.base c n)
    (field_or_function templated b c n)))

abbrev pub more_member : Bool → Within → Context → Named (List MemberTree) → Production (Named (List MemberTree))
more_member templated b c so_far = do
  m ← struct_member templated b (with_names c so_far.2) so_far.1
  give (so_far.0 ++ m.0 ∷ [], m.1, m.2)

-- what stands in the braces of a struct; it is read within them
unfoldable pub members : Bool → Within → Context → ℕ → Production (Numbered (List MemberTree))
members templated b c n = do
  ms ← repeat is_not_closing (more_member templated b c) ([], n, c.names)
  give (ms.0, ms.1)

-- `{`, members, `}`, `;`: the names of members are forgotten behind them
unfoldable pub struct_body : Bool → Within → Context → ℕ → Production (Numbered (List MemberTree))
struct_body templated b c n = do
  open_brace ← token (c.load + 1) (punct (codes "{"))
  ms ← b.members templated (inside (with_names c (entered c.names))) n
  close_brace ← token (c.load + 1) (punct (codes "}"))
  semicolon ← token c.load (punct (codes ";"))
  give ms

-- behind the name of a struct
unfoldable pub struct_behind : Bool → Within → Context → NameKind → Piece → ℕ → Production (Named StructTree)
struct_behind templated b c k name n = do
  ms ← struct_body templated b (with_names c (noted c.names name.token.text k)) n
  give (record { mark = numbered ms.1 name.token.at; name = name.token.text; members = ms.0 }, ms.1 + 1, noted c.names name.token.text k)

unfoldable pub struct : Within → Context → ℕ → Production (Named DeclTree)
struct b c n = do
  word' ← token c.load (word (codes "struct"))
  name ← token c.load any_name
  s ← struct_behind false b c names.TypeName name n
  give (StructDecl s.0, s.1, s.2)

-- ---- template parameters ([temp.param])

abbrev pub named_as : NameKind → Frames → Option Piece → Frames
named_as k frames None = frames
named_as k frames (Some name) = noted frames name.token.text k

abbrev pub text_of_name : Option Piece → Option (List ℕ)
text_of_name None = None
text_of_name (Some name) = Some name.token.text

abbrev pub place_of_name : Place → Option Piece → Place
place_of_name at None = at
place_of_name at (Some name) = name.token.at

unfoldable pub maybe_name : Context → Production (Option Piece)
maybe_name c = when any_name
    (do
      name ← token c.load any_name
      give (Some name))
    (give None)

unfoldable pub default_type : Below → Context → ℕ → Production (Numbered (Option TypeTree))
default_type b c n = when (punct (codes "="))
    (do
      equal ← token c.load (punct (codes "="))
      of ← type_id b c n
      give (Some of.0, of.1))
    (give (None, n))

-- within the list of parameters an expression has no assignment, and `>` is no operator
unfoldable pub default_value : Below → Context → ℕ → Production (Numbered (Option ExprTree))
default_value b c n = when (punct (codes "="))
    (do
      equal ← token c.load (punct (codes "="))
      e ← expr b c n
      give (Some e.0, e.1))
    (give (None, n))

abbrev pub is_typename : Piece → Bool
is_typename p = word (codes "typename") p || word (codes "class") p

unfoldable pub type_parameter : Below → Context → ℕ → Production (Named TemplateParameterTree)
type_parameter b c n = do
  word' ← token c.load is_typename
  name ← maybe_name c
  default ← default_type b c n
  give (TypeParameter (numbered default.1 (place_of_name word'.token.at name)) (text_of_name name) default.0, default.1 + 1, named_as names.TypeName c.names name)

unfoldable pub constrained_parameter : Below → Context → ℕ → Production (Named TemplateParameterTree)
constrained_parameter b c n = do
  k ← constraint b c n
  name ← maybe_name c
  default ← default_type b c k.1
  give (ConstrainedParameter (numbered default.1 (place_of_name k.0.mark.at name)) k.0 (text_of_name name) default.0, default.1 + 1, named_as names.TypeName c.names name)

abbrev pub scalar_of : CoreTree → Scalar
scalar_of (ScalarTree s) = s
scalar_of other = scalar.Int

unfoldable pub value_parameter : Below → Context → ℕ → Production (Named TemplateParameterTree)
value_parameter b c n = do
  s ← scalar_core c
  name ← maybe_name c
  default ← default_value b c n
  give (ValueParameter (numbered default.1 (place_of_name s.0 name)) (scalar_of s.1) (text_of_name name) default.0, default.1 + 1, named_as names.Value c.names name)

unfoldable pub template_parameter : Below → Context → ℕ → Production (Named TemplateParameterTree)
template_parameter b c n =
    when is_typename (type_parameter b c n)
    (when (concept_name c) (constrained_parameter b c n)
    (value_parameter b c n))

abbrev pub more_template_parameter : Below → Context → Named (List TemplateParameterTree) → Production (Named (List TemplateParameterTree))
more_template_parameter b c so_far = do
  comma ← token c.load (punct (codes ","))
  p ← template_parameter b (with_names c so_far.2) so_far.1
  give (so_far.0 ++ p.0 ∷ [], p.1, p.2)

-- none or more, within `<` and `>`
unfoldable pub template_parameters : Below → Context → ℕ → Production (Named (List TemplateParameterTree))
template_parameters b c n = when (closes c.angle) (give ([], n, c.names))
    (do
      first ← template_parameter b c n
      repeat (punct (codes ",")) (more_template_parameter b c) (first.0 ∷ [], first.1, first.2))

abbrev pub is_empty : List TemplateParameterTree → Bool
is_empty [] = true
is_empty (p ∷ ps) = false

abbrev pub is_constrained : TemplateParameterTree → Bool
is_constrained (ConstrainedParameter m k name default) = true
is_constrained other = false

abbrev pub any_constrained : List TemplateParameterTree → Bool
any_constrained [] = false
any_constrained (p ∷ ps) = is_constrained p || any_constrained ps

-- ---- templates ([temp.pre], [temp.concept], [temp.class.spec], [temp.expl.spec])

-- What a template gives: what it declares, the number of the next node, and the name that it declares with its kind,
-- if it declares a new one.
abbrev pub Templated : Type 0
Templated = TemplatedTree × ℕ × Option (List ℕ × NameKind)

unfoldable pub concept : Below → Context → ℕ → Production Templated
concept b c n = do
  word' ← token c.load (word (codes "concept"))
  name ← token c.load any_name
  equal ← token c.load (punct (codes "="))
  u ← unary b c n
  e ← rests b 10 c u
  semicolon ← token c.load (punct (codes ";"))
  give (ConceptDefinition (numbered e.1 name.token.at) name.token.text e.0, e.1 + 1, Some (name.token.text, names.Concept))

-- a specialisation, behind its class template's name; a member of a full one is no template
unfoldable pub specialisation : Bool → Within → Context → Piece → ℕ → Production Templated
specialisation full b c name n = do
  args ← argument_list b.base c n
  ms ← struct_body (not full) b c args.1
  give (Specialisation (record { mark = numbered ms.1 name.token.at; name = name.token.text; members = ms.0 }) (arguments args.0), ms.1 + 1, None)

unfoldable pub templated_struct : Bool → Within → Context → ℕ → Production Templated
templated_struct full b c n = do
  word' ← token c.load (word (codes "struct"))
  name ← token c.load (λ p. any_name p && (not full || class_name c p))
  when (λ p. class_name c name && (full || punct (codes "<") p))
      (specialisation full b c name n)
      (do
        s ← struct_behind true b (with_names c (noted_outside c.names name.token.text names.ClassTemplate)) names.ClassTemplate name n
        give (StructTemplate s.0, s.1, Some (name.token.text, names.ClassTemplate)))

unfoldable pub templated_function : Within → Context → ℕ → Production Templated
templated_function b c n = do
  s ← specifiers c no_specifiers
  of ← type_id b.base c n
  name ← token c.load any_name
  f ← function_behind false true b c s of name
  give (FunctionTemplate f.0, f.1, Some (name.token.text, names.FunctionTemplate))

-- A concept has no clause before it and no constrained parameter. An empty list of parameters stands before a
-- specialisation alone.
unfoldable pub templated : List TemplateParameterTree → Bool → Within → Context → ℕ → Production Templated
templated ps has_clause b c n =
    when (λ p. is_empty ps || word (codes "struct") p) (templated_struct (is_empty ps) b c n)
    (when (λ p. word (codes "concept") p && not has_clause && not (any_constrained ps)) (concept b.base c n)
    (templated_function b c n))

unfoldable pub maybe_clause : Below → Context → ℕ → Production (Numbered (Option ExprTree))
maybe_clause b c n = when (word (codes "requires"))
    (do
      word' ← token c.load (word (codes "requires"))
      e ← clause b c n
      give (Some e.0, e.1))
    (give (None, n))

abbrev pub is_some_clause : Option ExprTree → Bool
is_some_clause None = false
is_some_clause (Some e) = true

abbrev pub declared_name : Frames → Option (List ℕ × NameKind) → Frames
declared_name frames None = frames
declared_name frames (Some d) = noted frames d.0 d.1

unfoldable pub template : Within → Context → ℕ → Production (Named DeclTree)
template b c n = do
  word' ← token c.load (word (codes "template"))
  less ← token (c.load + 1) (punct (codes "<"))
  ps ← b.template_parameters (listed (with_names c (entered c.names))) n
  greater ← token (c.load + 1) (closes (c.angle + 1))
  k ← maybe_clause b.base (with_names c ps.2) ps.1
  t ← templated ps.0 (is_some_clause k.0) b (with_names c ps.2) k.1
  give (TemplateDecl (numbered t.1 word'.token.at) ps.0 k.0 t.0, t.1 + 1, declared_name c.names t.2)

-- ---- declarations and units

-- A declaration, within its own construct.
unfoldable pub decl : Within → Context → ℕ → Production (Named DeclTree)
decl b c n =
    when (punct (codes ";")) (do t ← token c.load (punct (codes ";")); give (EmptyDecl (numbered n t.token.at), n + 1, c.names))
    (when (word (codes "static_assert")) (do a ← assertion b.base c n; give (AssertDecl a.0, a.1, c.names))
    (when (word (codes "using")) (do a ← alias b.base c n; give (AliasDecl a.0, a.1, a.2))
    (when (word (codes "struct")) (struct b c n)
    (when (word (codes "template")) (template b c n)
    (variable_or_function b c n)))))

-- The productions whose constructs are nested so many levels deep at most, requires-expressions being read or not.
unfoldable pub unit_levels : Bool → ℕ → Within
unit_levels requires zero = record {
  base = levels requires zero;
  stmt = λ c n. closed;
  bare = λ c n. closed;
  head = λ c n. closed;
  parameters = λ autos c n. closed;
  members = λ templated' c n. closed;
  template_parameters = λ c n. closed;
  decl = λ c n. closed;
}
unit_levels requires (suc n) = record {
  base = levels requires (suc n);
  stmt = stmt (unit_levels requires n);
  bare = bare_stmt (unit_levels requires n);
  head = for_head (levels requires n);
  parameters = λ autos. parameters autos (levels requires n);
  members = λ templated'. members templated' (unit_levels requires n);
  template_parameters = template_parameters (levels requires n);
  decl = decl (unit_levels requires n);
}

abbrev pub is_end_kind : TokenKind → Bool
is_end_kind kind.End = true
is_end_kind other = false

abbrev pub is_not_end : Piece → Bool
is_not_end p = not (is_end_kind p.token.kind)

abbrev pub more_decl : Within → Context → Named (List DeclTree) → Production (Named (List DeclTree))
more_decl b c so_far = do
  d ← b.decl (deeper (with_names c so_far.2)) so_far.1
  give (so_far.0 ++ d.0 ∷ [], d.1, d.2)

-- A unit: declarations, each a construct, up to the end.
unfoldable pub unit : Within → Production (List DeclTree)
unit b = do
  ds ← repeat is_not_end (more_decl b (record { names = entered []; angle = 0; load = 0 })) ([], 0, entered [])
  end ← token 0 (λ p. is_end_kind p.token.kind)
  give ds.0
