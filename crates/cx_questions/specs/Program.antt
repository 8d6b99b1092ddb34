-- A unit as the definitions see it: what each number means. Every function is total; what no number of the unit stands for
-- is of no account.
use Rattle.std.specs.Prelude.{ℕ, pos, Bool, false, List, [], map, Option, None}
use Rattle.cx_base.specs.declared.numbers.DeclId.{DeclId}
use Rattle.cx_base.specs.declared.numbers.NodeId.{NodeId}
use Rattle.cx_base.specs.declared.place.Place.{Place}
use Rattle.cx_base.specs.declared.value.Scalar.{Scalar}
use Rattle.cx_term.specs.Term.{Term, void}
use Rattle.cx_questions.specs.Forms.{Name, Mark, Expression, literal, TypeForm, void_type, ArgumentForm, Statement}
use Rattle.cx_base.specs.declared.value.Scalar.TheVariants as scalar

-- what a template parameter takes: a type, or a value of a scalar type
abbrev pub Parametric : Type 0
Parametric = Option Scalar

-- a template parameter with its default argument ([temp.param])
pub record TemplateParameter : Type 0 where
  pub kind : Parametric
  pub default : Option ArgumentForm

-- a parameter of a function: its type, its number among the locals, and whether it has a name
pub record Parameter : Type 0 where
  pub of : TypeForm
  pub local : ℕ
  pub is_named : Bool

-- A function or function template ([dcl.fct], [temp.fct]), by its first declaration. The constraints are, in order, the
-- type-constraints of its template parameters as concept-ids, the requires-clause, the type-constraints of its function
-- parameters, the trailing requires-clause. A member function of a class template has that template's positions.
pub record Function : Type 0 where
  pub at : Place
  pub name : Name
  -- the struct, class template or specialisation that it is a member of
  pub owner : Option DeclId
  pub is_template : Bool
  pub template_parameters : List TemplateParameter
  pub constraints : List Expression
  pub parameters : List Parameter
  pub result : TypeForm
  pub is_const : Bool
  pub is_constexpr : Bool
  -- the parameters as the definition numbers them, and the body, where there is a definition
  pub body : Option Statement

-- a constexpr variable of the unit, or a static constant of a struct ([class.static.data])
pub record Constant : Type 0 where
  pub at : Place
  pub name : Name
  pub of : TypeForm
  pub initialiser : Expression
  pub owner : Option DeclId

pub data Member : Type 0 where
  field : Name → TypeForm → Member
  member_alias : Name → TypeForm → Member
  static_constant : Name → DeclId → Member
  member_function : Name → DeclId → Member

-- A struct, class template or specialisation ([class], [temp.class]), its members in the order of the text. A
-- specialisation has the number of its template and the arguments that it is for. Its own type is that which it has inside.
pub record Struct : Type 0 where
  pub at : Place
  pub itself : Term
  pub is_template : Bool
  pub template_parameters : List TemplateParameter
  pub constraints : List Expression
  pub primary : Option DeclId
  pub specialised_for : List ArgumentForm
  pub members : List Member

-- a concept ([temp.concept])
pub record Concept : Type 0 where
  pub at : Place
  pub template_parameters : List TemplateParameter
  pub condition : Expression

-- what a number of a declaration stands for
pub data Declaration : Type 0 where
  a_function : Function → Declaration
  a_struct : Struct → Declaration
  a_concept : Concept → Declaration
  a_constant : Constant → Declaration
  -- a field of a struct, by its number among the fields, with its type
  a_field : ℕ → TypeForm → Declaration

-- The limits on what is made of a unit: the nodes of a tree and how deep they stand, the atoms of a normal form, the clauses
-- that are compared, the scalar values of a struct, the functions that are emitted. The limit on heights is given apart.
pub record Limits : Type 0 where
  pub nodes : ℕ
  pub depth : ℕ
  pub atoms : ℕ
  pub clauses : ℕ
  pub scalars : ℕ
  pub functions : ℕ

-- the limits of the profile
abbrev pub the_limits : Limits
the_limits = record { nodes = 65536; depth = 512; atoms = 4096; clauses = 1048576; scalars = 65536; functions = 65536 }

pub record Program : Type 0 where
  pub declaration : DeclId → Declaration
  -- the functions of the unit of a name, in order of declaration
  pub functions_named : Name → List DeclId
  -- the specialisations of a class template, in order of declaration
  pub specialisations : DeclId → List DeclId
  -- the expression at a node
  pub expression : NodeId → Expression
  -- whether the node stands in a template or a member of one ([temp.pre])
  pub is_templated : NodeId → Bool
  -- what the template parameters around a node take, by position
  pub positions : NodeId → List Parametric
  -- the locals that a requires-expression names and does not declare
  pub outer_locals : NodeId → List ℕ
  pub limits : Limits

-- a unit with other limits
abbrev pub with_limits : Program → Limits → Program
with_limits u l = record u { limits = l }

-- ---- what stands for a number that means something else

abbrev pub nowhere : Place
nowhere = record { line = 0; col = 0 }

abbrev pub no_mark : Mark
no_mark = record { node = record { 0 = 0 }; at = nowhere }

abbrev pub empty_function : Function
empty_function =
    record { at = nowhere; name = []; owner = None; is_template = false; template_parameters = []; constraints = []; parameters = []; result = void_type no_mark; is_const = false; is_constexpr = false; body = None }

abbrev pub empty_struct : Struct
empty_struct = record { at = nowhere; itself = void; is_template = false; template_parameters = []; constraints = []; primary = None; specialised_for = []; members = [] }

abbrev pub empty_concept : Concept
empty_concept = record { at = nowhere; template_parameters = []; condition = literal no_mark scalar.Bool (pos 1) }

abbrev pub empty_constant : Constant
empty_constant = record { at = nowhere; name = []; of = void_type no_mark; initialiser = literal no_mark scalar.Bool (pos 1); owner = None }

abbrev pub as_function : Declaration → Function
as_function (a_function f) = f
as_function _ = empty_function

abbrev pub as_struct : Declaration → Struct
as_struct (a_struct s) = s
as_struct _ = empty_struct

abbrev pub as_concept : Declaration → Concept
as_concept (a_concept c) = c
as_concept _ = empty_concept

abbrev pub as_constant : Declaration → Constant
as_constant (a_constant c) = c
as_constant _ = empty_constant

abbrev pub as_field : Declaration → TypeForm
as_field (a_field k t) = t
as_field _ = void_type no_mark

abbrev pub function_of : Program → DeclId → Function
function_of u d = as_function (u.declaration d)

abbrev pub struct_of : Program → DeclId → Struct
struct_of u d = as_struct (u.declaration d)

abbrev pub concept_of : Program → DeclId → Concept
concept_of u d = as_concept (u.declaration d)

abbrev pub constant_of : Program → DeclId → Constant
constant_of u d = as_constant (u.declaration d)

-- the type of a field as it is written
abbrev pub field_form : Program → DeclId → TypeForm
field_form u d = as_field (u.declaration d)

-- what the positions of template parameters take
abbrev pub kinds : List TemplateParameter → List Parametric
kinds ps = map (λ p. p.kind) ps

-- the place of a declaration: that of its name
abbrev pub declaration_place : Declaration → Place
declaration_place (a_function f) = f.at
declaration_place (a_struct s) = s.at
declaration_place (a_concept c) = c.at
declaration_place (a_constant c) = c.at
declaration_place (a_field k t) = nowhere

abbrev pub place_of_declaration : Program → DeclId → Place
place_of_declaration u d = declaration_place (u.declaration d)
