-- Declarations ([dcl.dcl], [dcl.fct], [class.mem], [temp]).
use Rattle.std.specs.Prelude.{ℕ, Bool, true, false, ◌||◌, ◌&&◌, not, List, [], ◌∷◌, Option, Some, None, is_some}
use Rattle.std.specs.List.{list_any}
use Rattle.cx_base.specs.declared.place.Place.{Place}
use Rattle.cx_base.specs.declared.value.Scalar.{Scalar}
use Rattle.cx_base.specs.declared.value.Scalar.TheVariants as scalar
use Rattle.cx_tokens.specs.declared.word.Word.TheVariants as words
use Rattle.cx_tokens.specs.declared.punctuator.Punctuator.TheVariants as punctuator
use Rattle.cx_tokens.specs.Pieces.{Piece, is_word}
use Rattle.cx_names.specs.declared.name_kind.NameKind.{NameKind}
use Rattle.cx_names.specs.declared.name_kind.NameKind.TheVariants as names
use Rattle.cx_syntax.specs.declared.context.Context.{Context}
use Rattle.cx_syntax.specs.Contexts.{deeper}
use Rattle.cx_syntax.specs.Productions.{Production, Class, give, ◌>>=◌, token, when, given, repeat}
use Rattle.cx_syntax.specs.Classes.{word, punct, any_name, name_of, nothing, ◌or◌, where_holds, any_but, closing}
use Rattle.cx_syntax.specs.Precedence.{expression_level, logical_or_level}
use Rattle.cx_syntax.specs.Combinators.{node, note, note_around, in_scope, maybe, flag, in_parentheses, in_braces, in_angles, separated, items_until}
use Rattle.cx_productions.specs.Trees.{mark, ExprTree, TypeTree, CoreTree, ScalarTree, type_place, arguments, ConstraintTree}
use Rattle.cx_productions.specs.StatementTrees.{WrittenType, OfType, OfAuto, StmtTree}
use Rattle.cx_productions.specs.DeclarationTrees.{Specifiers, ParameterTree, FunctionTree, AliasTree, ConstantTree, MemberTree, EmptyMember, AliasMember, FieldMember, ConstantMember, FunctionMember, StructTree, TemplateParameterTree, TypeParameter, ConstrainedParameter, ValueParameter, TemplatedTree, FunctionTemplate, StructTemplate, ConceptDefinition, Specialisation, DeclTree, EmptyDecl, AssertDecl, AliasDecl, ConstantDecl, FunctionDecl, StructDecl, TemplateDecl, templated_place}
use Rattle.cx_productions.specs.Below.{Below}
use Rattle.cx_productions.specs.Statements.{Within, place_or, auto_after, assertion, init, block}
use Rattle.cx_productions.specs.Scalars.{scalar_core}
use Rattle.cx_productions.specs.Types.{argument_list, core, type_after, type_id}
use Rattle.cx_productions.specs.Parameters.{parameter_list}
use Rattle.cx_productions.specs.Requires.{constraint}
use Rattle.cx_productions.specs.Expressions.{expr}
use Rattle.cx_productions.specs.Clauses.{clause}

-- ---- specifiers ([dcl.spec]): each at most once

abbrev pub no_specifiers : Specifiers
no_specifiers = record { is_inline = false; is_static = false; is_constexpr = false }

-- those of a member that is not static: the word is taken
abbrev pub all_but_static : Specifiers
all_but_static = record { is_inline = false; is_static = true; is_constexpr = false }

-- a specifier that does not stand there yet
unfoldable pub free_specifier : Specifiers → Class
free_specifier s = where_holds (not s.is_inline) (word words.Inline) or where_holds (not s.is_static) (word words.Static) or where_holds (not s.is_constexpr) (word words.Constexpr)

abbrev pub with_specifier : Specifiers → Piece → Specifiers
with_specifier s p = record {
  is_inline = s.is_inline || is_word words.Inline p.token.kind;
  is_static = s.is_static || is_word words.Static p.token.kind;
  is_constexpr = s.is_constexpr || is_word words.Constexpr p.token.kind;
}

unfoldable pub one_more_specifier : Context → Specifiers → Production Specifiers
one_more_specifier c s = do
  t ← token c (free_specifier s)
  give (with_specifier s t)

-- spec = { "inline" | "static" | "constexpr" }, each at most once, with those that stand there already
unfoldable pub specifiers : Context → Specifiers → Production Specifiers
specifiers c s = repeat free_specifier (one_more_specifier c) s

-- ---- parameters ([dcl.fct])

-- the place of a name, or another one where there is none; the text of a name
abbrev pub place_of_name : Place → Option Piece → Place
place_of_name at None = at
place_of_name at (Some name) = name.token.at

abbrev pub text_of_name : Option Piece → Option (List ℕ)
text_of_name None = None
text_of_name (Some name) = Some name.token.text

-- [ Name ]
unfoldable pub maybe_name : Context → Production (Option Piece)
maybe_name c = maybe any_name (token c any_name)

-- a name is declared, if there is one
unfoldable pub note_maybe : NameKind → Option Piece → Production (Unit {0})
note_maybe kind None = give tt
note_maybe kind (Some name) = note name.token.text kind

-- [ Name ], after the type of a parameter: it is declared at once
unfoldable pub parameter_after : Context → Place → WrittenType → Production ParameterTree
parameter_after c at of = do
  name ← maybe_name c
  noted ← note_maybe names.Value name
  n ← node
  give (record { mark = mark n (place_of_name at name); type = of; name = text_of_name name })

unfoldable pub typed_parameter : Context → TypeTree → Production ParameterTree
typed_parameter c of = parameter_after c (type_place of) (OfType of)

unfoldable pub auto_parameter : Context → Option Place → Bool → Option ConstraintTree → Production ParameterTree
auto_parameter c at is_const constrained = do
  a ← auto_after c at is_const constrained
  parameter_after c a.mark.at (OfAuto a)

unfoldable pub constrained_parameter : Below → Context → Option Place → Bool → Production ParameterTree
constrained_parameter b c at is_const = do
  k ← constraint b c
  auto_parameter c (Some (place_or k.mark.at at)) is_const (Some k)

-- after `const`
unfoldable pub const_parameter : Bool → Below → Context → Production ParameterTree
const_parameter autos b c = do
  t ← token c (word words.Const)
  when (where_holds autos (name_of names.Concept)) (constrained_parameter b c (Some t.token.at) true)
      (when (where_holds autos (word words.Auto)) (auto_parameter c (Some t.token.at) true None)
      (do
        k ← core b (deeper c)
        of ← type_after c t.token.at true k
        typed_parameter c of))

-- type [ Name ]
unfoldable pub plain_parameter : Below → Context → Production ParameterTree
plain_parameter b c = do
  of ← type_id b c
  typed_parameter c of

-- param = ( type | autotype ) [ Name ], where `auto` may stand or not
unfoldable pub parameter : Bool → Below → Context → Production ParameterTree
parameter autos b c =
    when (word words.Const) (const_parameter autos b c)
    (when (where_holds autos (name_of names.Concept)) (constrained_parameter b c None false)
    (when (where_holds autos (word words.Auto)) (auto_parameter c None false None)
    (plain_parameter b c)))

-- [ "void" | param { "," param } ], up to `)`
unfoldable pub parameters : Bool → Below → Context → Production (List ParameterTree)
parameters autos b c = parameter_list c (typed_parameter c) (parameter autos b c)

abbrev pub is_auto_type : WrittenType → Bool
is_auto_type (OfAuto a) = true
is_auto_type (OfType t) = false

abbrev pub has_auto : List ParameterTree → Bool
has_auto ps = list_any (λ p. is_auto_type p.type) ps

-- ---- functions ([dcl.fct.def])

-- Where a function is declared: as a member or not, and within a template or not.
pub record Surroundings : Type 0 where
  pub is_member : Bool
  pub templated : Bool

-- A function of the unit in a template is a template, and so is one with an `auto` parameter ([dcl.fct]); a member of a
-- class template is none.
abbrev pub is_template : Surroundings → List ParameterTree → Bool
is_template s ps = (s.templated && not s.is_member) || has_auto ps

abbrev pub function_kind : Bool → NameKind
function_kind true = names.FunctionTemplate
function_kind false = names.Function

-- how many scopes stand between the parameters of a function and the scope in which its name is declared, which for a
-- function template is around the scope of the template's parameters
abbrev pub scopes_between : Surroundings → ℕ
scopes_between s = go (s.templated && not s.is_member)
  where
    go : Bool → ℕ
    go true = 2
    go false = 1

-- [ "requires" clause ], where it may stand: before the body of a template, and after a templated function ([dcl.decl])
unfoldable pub maybe_clause : Bool → Below → Context → Production (Option ExprTree)
maybe_clause templated b c = when (where_holds templated (word words.Requires))
    (do
      start ← token c (word words.Requires)
      e ← clause b c
      give (Some e))
    (give None)

-- block | ";"
unfoldable pub function_body : Within → Context → Production (Option StmtTree)
function_body b c = when (punct punctuator.Semicolon)
    (do
      t ← token c (punct punctuator.Semicolon)
      give None)
    (do
      body ← block b c
      give (Some body))

-- [ "const" ] [ trailing ] ( block | ";" ), after the parameters of a function
unfoldable pub function_rest : Surroundings → Within → Context → Specifiers → TypeTree → Piece → List ParameterTree → Production FunctionTree
function_rest s b c specified result name ps = do
  is_const ← flag c (where_holds s.is_member (word words.Const))
  k ← maybe_clause (s.templated || has_auto ps) b.base c
  body ← function_body b c
  n ← node
  give (record { mark = mark n name.token.at; specifiers = specified; result = result; name = name.token.text; parameters = ps; is_const = is_const; trailing = k; body = body })

-- "(" [ params ] ")" [ "const" ] [ trailing ] ( block | ";" ), after the name of a function, which is declared after its
-- `)`
unfoldable pub function_parts : Surroundings → Within → Context → Specifiers → TypeTree → Piece → Production FunctionTree
function_parts s b c specified result name = do
  ps ← in_parentheses c (parameters (not s.is_member) b.base)
  noted ← note_around (scopes_between s) name.token.text (function_kind (is_template s ps.item))
  function_rest s b c specified result name ps.item

-- its parameters are forgotten after it
unfoldable pub function_after : Surroundings → Within → Context → Specifiers → TypeTree → Piece → Production FunctionTree
function_after s b c specified result name = in_scope (function_parts s b c specified result name)

-- ---- constants of the unit and static ones, aliases

-- init ";", after the name of a constant, which is declared before its initialiser ([basic.scope.pdecl])
unfoldable pub constant_after : Below → Context → Specifiers → TypeTree → Piece → Production ConstantTree
constant_after b c specified of name = do
  noted ← note name.token.text names.Value
  i ← init b c
  semicolon ← token c (punct punctuator.Semicolon)
  n ← node
  give (record { mark = mark n name.token.at; specifiers = specified; type = of; name = name.token.text; init = i })

-- alias = "using" Name "=" type ";": the name is declared after its type
unfoldable pub alias : Below → Context → Production AliasTree
alias b c = do
  start ← token c (word words.Using)
  name ← token c any_name
  equal ← token c (punct punctuator.Equal)
  of ← type_id b c
  semicolon ← token c (punct punctuator.Semicolon)
  n ← node
  noted ← note name.token.text names.TypeName
  give (record { mark = mark n name.token.at; name = name.token.text; type = of })

-- a function of the unit
abbrev pub of_unit : Surroundings
of_unit = record { is_member = false; templated = false }

-- init ";", after the name of a constant, which has `constexpr`; else what comes after the name of a function
unfoldable pub constant_or_function_after : Within → Context → Specifiers → TypeTree → Piece → Production DeclTree
constant_or_function_after b c s of name = when (where_holds s.is_constexpr (any_but (punct punctuator.LeftParenthesis)))
    (do
      v ← constant_after b.base c s of name
      give (ConstantDecl v))
    (do
      f ← function_after of_unit b c s of name
      give (FunctionDecl f))

-- var = spec type Name init ";" (a specifier is `constexpr`), func = spec type Name "(" ..: told apart after the name
unfoldable pub variable_or_function : Within → Context → Production DeclTree
variable_or_function b c = do
  s ← specifiers c no_specifiers
  of ← type_id b.base c
  name ← token c any_name
  constant_or_function_after b c s of name

-- ---- structs ([class])

-- type, where a specifier is `constexpr`; else nothing fits
unfoldable pub static_type : Below → Context → Specifiers → Production TypeTree
static_type b c s = given s.is_constexpr (type_id b c)
    (do
      t ← token c nothing
      type_id b c)

-- "static" spec type Name init ";" (a specifier is `constexpr`, none is `static`)
unfoldable pub static_member : Below → Context → Production MemberTree
static_member b c = do
  start ← token c (word words.Static)
  s ← specifiers c all_but_static
  of ← static_type b c s
  name ← token c any_name
  v ← constant_after b c s of name
  give (ConstantMember v)

abbrev pub is_member_specifier : Specifiers → Bool
is_member_specifier s = s.is_inline || s.is_constexpr

-- ";", after the name of a field
unfoldable pub field_after : Context → TypeTree → Piece → Production MemberTree
field_after c of name = do
  semicolon ← token c (punct punctuator.Semicolon)
  n ← node
  noted ← note name.token.text names.Value
  give (FieldMember (mark n name.token.at) of name.token.text)

-- ";", after the name of a field, which has no specifier; else what comes after the name of a function
unfoldable pub field_or_function_after : Bool → Within → Context → Specifiers → TypeTree → Piece → Production MemberTree
field_or_function_after templated b c s of name = when (where_holds (not (is_member_specifier s)) (punct punctuator.Semicolon))
    (field_after c of name)
    (do
      f ← function_after (record { is_member = true; templated = templated }) b c (record s { is_static = false }) of name
      give (FunctionMember f))

-- type Name ";" | spec type Name "(" .. (no specifier is `static`): told apart after the name
unfoldable pub field_or_function : Bool → Within → Context → Production MemberTree
field_or_function templated b c = do
  s ← specifiers c all_but_static
  of ← type_id b.base c
  name ← token c any_name
  field_or_function_after templated b c s of name

unfoldable pub empty_member : Context → Production MemberTree
empty_member c = do
  t ← token c (punct punctuator.Semicolon)
  n ← node
  give (EmptyMember (mark n t.token.at))

unfoldable pub alias_member : Below → Context → Production MemberTree
alias_member b c = do
  a ← alias b c
  give (AliasMember a)

-- member, of a struct or of a class that is templated
unfoldable pub member : Bool → Within → Context → Production MemberTree
member templated b c =
    when (punct punctuator.Semicolon) (empty_member c)
    (when (word words.Using) (alias_member b.base c)
    (when (word words.Static) (static_member b.base c)
    (field_or_function templated b c)))

-- { member }, up to the brace that closes them
unfoldable pub members : Bool → Within → Context → Production (List MemberTree)
members templated b c = items_until (punct punctuator.RightBrace) (member templated b c)

-- "{" { member } "}" ";": the names of members are forgotten after them
unfoldable pub struct_body : Bool → Within → Context → Production (List MemberTree)
struct_body templated b c = do
  ms ← in_braces c (λ inner. in_scope (members templated b inner))
  semicolon ← token c (punct punctuator.Semicolon)
  give ms.item

-- ... as the struct of a name
unfoldable pub struct_after : Bool → Within → Context → Piece → Production StructTree
struct_after templated b c name = do
  ms ← struct_body templated b c
  n ← node
  give (record { mark = mark n name.token.at; name = name.token.text; members = ms })

-- struct = "struct" Name "{" { member } "}" ";": the name is declared at once
unfoldable pub struct_decl : Within → Context → Production DeclTree
struct_decl b c = do
  start ← token c (word words.Struct)
  name ← token c any_name
  noted ← note name.token.text names.TypeName
  s ← struct_after false b c name
  give (StructDecl s)

-- ---- template parameters ([temp.param]): each is declared after its default

-- [ "=" type ]
unfoldable pub default_type : Below → Context → Production (Option TypeTree)
default_type b c = when (punct punctuator.Equal)
    (do
      equal ← token c (punct punctuator.Equal)
      of ← type_id b c
      give (Some of))
    (give None)

-- [ "=" carg ]: within the list of parameters an expression has no assignment, and `>` is no operator
unfoldable pub default_value : Below → Context → Production (Option ExprTree)
default_value b c = when (punct punctuator.Equal)
    (do
      equal ← token c (punct punctuator.Equal)
      e ← expr b expression_level c
      give (Some e))
    (give None)

-- what begins a parameter of a type
unfoldable pub type_word : Class
type_word = word words.Typename or word words.Class

-- ( "typename" | "class" ) [ Name ] [ "=" type ]
unfoldable pub type_parameter : Below → Context → Production TemplateParameterTree
type_parameter b c = do
  start ← token c type_word
  name ← maybe_name c
  default ← default_type b c
  n ← node
  noted ← note_maybe names.TypeName name
  give (TypeParameter (mark n (place_of_name start.token.at name)) (text_of_name name) default)

-- cref [ Name ] [ "=" type ]
unfoldable pub constrained_type_parameter : Below → Context → Production TemplateParameterTree
constrained_type_parameter b c = do
  k ← constraint b c
  name ← maybe_name c
  default ← default_type b c
  n ← node
  noted ← note_maybe names.TypeName name
  give (ConstrainedParameter (mark n (place_of_name k.mark.at name)) k (text_of_name name) default)

abbrev pub scalar_of : CoreTree → Scalar
scalar_of (ScalarTree s) = s
scalar_of other = scalar.Int

-- scalar [ Name ] [ "=" carg ]
unfoldable pub value_parameter : Below → Context → Production TemplateParameterTree
value_parameter b c = do
  s ← scalar_core c
  name ← maybe_name c
  default ← default_value b c
  n ← node
  noted ← note_maybe names.Value name
  give (ValueParameter (mark n (place_of_name s.at name)) (scalar_of s.tree) (text_of_name name) default)

unfoldable pub template_parameter : Below → Context → Production TemplateParameterTree
template_parameter b c =
    when type_word (type_parameter b c)
    (when (name_of names.Concept) (constrained_type_parameter b c)
    (value_parameter b c))

-- [ tparam { "," tparam } ], up to `>`
unfoldable pub template_parameters : Below → Context → Production (List TemplateParameterTree)
template_parameters b c = when (closing c.lists) (give []) (separated c (template_parameter b c))

abbrev pub is_empty : List TemplateParameterTree → Bool
is_empty [] = true
is_empty (p ∷ ps) = false

abbrev pub is_constrained : TemplateParameterTree → Bool
is_constrained (ConstrainedParameter m k name default) = true
is_constrained other = false

abbrev pub any_constrained : List TemplateParameterTree → Bool
any_constrained ps = list_any is_constrained ps

-- ---- templates ([temp.pre], [temp.concept], [temp.class.spec], [temp.expl.spec]): what each declares is declared in the
-- scope around that of its parameters

-- "concept" Name "=" lor ";": the name is declared after the `;`
unfoldable pub concept : Below → Context → Production TemplatedTree
concept b c = do
  start ← token c (word words.Concept)
  name ← token c any_name
  equal ← token c (punct punctuator.Equal)
  e ← expr b logical_or_level c
  semicolon ← token c (punct punctuator.Semicolon)
  n ← node
  noted ← note_around 1 name.token.text names.Concept
  give (ConceptDefinition (mark n name.token.at) name.token.text e)

-- "<" targs ">" "{" { member } "}" ";", after the name of a class template; a member of a full specialisation is no
-- templated one
unfoldable pub specialisation : Bool → Within → Context → Piece → Production TemplatedTree
specialisation full b c name = do
  args ← argument_list b.base c
  s ← struct_after (not full) b c name
  give (Specialisation s (arguments args))

-- the name is declared at once
unfoldable pub struct_template : Within → Context → Piece → Production TemplatedTree
struct_template b c name = do
  noted ← note_around 1 name.token.text names.ClassTemplate
  s ← struct_after true b c name
  give (StructTemplate s)

-- the name of a class template: a specialisation where `<` stands after it, else a new template
unfoldable pub specialised_or_new : Within → Context → Production TemplatedTree
specialised_or_new b c = do
  name ← token c (name_of names.ClassTemplate)
  when (punct punctuator.Less) (specialisation false b c name) (struct_template b c name)

-- "struct" Name .. | "struct" CLASST "<" targs ">" ..: only a specialisation has an empty list of parameters, and it has
-- no other
unfoldable pub templated_struct : Bool → Within → Context → Production TemplatedTree
templated_struct full b c = do
  start ← token c (word words.Struct)
  given full
      (do
        name ← token c (name_of names.ClassTemplate)
        specialisation true b c name)
      (when (name_of names.ClassTemplate) (specialised_or_new b c)
      (do
        name ← token c any_name
        struct_template b c name))

-- a function in a template
abbrev pub of_template : Surroundings
of_template = record { is_member = false; templated = true }

unfoldable pub function_template : Within → Context → Production TemplatedTree
function_template b c = do
  s ← specifiers c no_specifiers
  of ← type_id b.base c
  name ← token c any_name
  f ← function_after of_template b c s of name
  give (FunctionTemplate f)

-- tbody, after a list of parameters and a clause or none. A concept has no clause before it and no constrained
-- parameter.
unfoldable pub templated : List TemplateParameterTree → Bool → Within → Context → Production TemplatedTree
templated ps has_clause b c =
    given (is_empty ps) (templated_struct true b c)
    (when (word words.Struct) (templated_struct false b c)
    (when (where_holds (not has_clause && not (any_constrained ps)) (word words.Concept)) (concept b.base c)
    (function_template b c)))

-- "<" [ tparams ] ">" [ "requires" clause ] tbody
unfoldable pub template_parts : Within → Context → Production DeclTree
template_parts b c = do
  ps ← in_angles c (template_parameters b.base)
  k ← maybe_clause true b.base c
  t ← templated ps (is_some k) b c
  n ← node
  give (TemplateDecl (mark n (templated_place t).at) ps k t)

-- template = "template" "<" [ tparams ] ">" [ "requires" clause ] tbody: its parameters are forgotten after it
unfoldable pub template : Within → Context → Production DeclTree
template b c = do
  start ← token c (word words.Template)
  in_scope (template_parts b c)

-- ---- declarations

unfoldable pub empty_decl : Context → Production DeclTree
empty_decl c = do
  t ← token c (punct punctuator.Semicolon)
  n ← node
  give (EmptyDecl (mark n t.token.at))

unfoldable pub assert_decl : Below → Context → Production DeclTree
assert_decl b c = do
  a ← assertion b c
  give (AssertDecl a)

unfoldable pub alias_decl : Below → Context → Production DeclTree
alias_decl b c = do
  a ← alias b c
  give (AliasDecl a)

-- A declaration, within its own construct.
unfoldable pub decl : Within → Context → Production DeclTree
decl b c =
    when (punct punctuator.Semicolon) (empty_decl c)
    (when (word words.StaticAssert) (assert_decl b.base c)
    (when (word words.Using) (alias_decl b.base c)
    (when (word words.Struct) (struct_decl b c)
    (when (word words.Template) (template b c)
    (variable_or_function b c)))))
