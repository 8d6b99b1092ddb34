-- Expressions, types, template arguments and statements in which every name is replaced by what it means. Each node has
-- its number and its place. What is written in the unit has its own places; a tree that was made has one for all its parts.
-- All definitions of the language stand on these trees.
use Rattle.std.specs.Prelude.{ℕ, ℤ, Bool, List, [], ◌∷◌, Option}
use Rattle.cx_base.specs.declared.numbers.DeclId.{DeclId}
use Rattle.cx_base.specs.declared.numbers.NodeId.{NodeId}
use Rattle.cx_base.specs.declared.place.Place.{Place}
use Rattle.cx_base.specs.declared.value.Scalar.{Scalar}
use Rattle.cx_term.specs.declared.word.Word.{Word}

-- the bytes of a name
abbrev pub Name : Type 0
Name = List ℕ

-- the number of a node, and the place of its first token
pub record Mark : Type 0 where
  pub node : NodeId
  pub at : Place

mutual
  -- expressions ([expr])
  pub data Expression : Type 0 where
    -- a literal, or a value that was put in place of a template parameter
    literal : Mark → Scalar → ℤ → Expression
    -- a variable or parameter by its number
    local_name : Mark → (local : ℕ) → Expression
    -- the value of a template parameter
    position_name : Mark → (position : ℕ) → Expression
    -- a field of the enclosing struct, by its number among the fields and its declaration
    field_name : Mark → (field : ℕ) → DeclId → Expression
    -- a constexpr variable of the unit, or a static constant of the enclosing struct
    constant_name : Mark → DeclId → Expression
    -- functions that are not called, as many as are visible; none for those of a struct
    functions_name : Mark → Name → (visible : ℕ) → Expression
    -- a name that means what is no value, as a concept
    other_name : Mark → DeclId → Expression
    parentheses : Mark → Expression → Expression
    -- + - ! ~, and ++ and -- on either side
    unary : Mark → Word → Expression → Expression
    -- all operators of two operands, assignments among them
    binary : Mark → Word → (left : Expression) → (right : Expression) → Expression
    conditional : Mark → (condition : Expression) → (chosen : Expression) → (otherwise : Expression) → Expression
    -- e.m
    dot : Mark → (object : Expression) → Name → Expression
    -- T::t::m, where only the last name means no type
    scope : Mark → (head : TypeForm) → (types : List Name) → Name → Expression
    call : Mark → Callee → Expressions → Expression
    -- T{..}
    list : Mark → TypeForm → Expressions → Expression
    -- static_cast
    cast : Mark → TypeForm → Expression → Expression
    -- __is_same, __out
    is_same : Mark → TypeForm → TypeForm → Expression
    out : Mark → Expression → Expression
    -- a concept with all its arguments ([expr.prim.id])
    concept_id : Mark → DeclId → ArgumentForms → Expression
    -- a requires-expression where it is written, and one that is named by its node, with the argument of each position
    -- that appears in it
    requires : Mark → RequiresParameters → Requirements → Expression
    requires_with : Mark → ArgumentForms → Expression

  pub data Expressions : Type 0 where
    no_expression : Expressions
    and_expression : Expression → Expressions → Expressions

  -- what a call names ([expr.call])
  pub data Callee : Type 0 where
    -- functions of the unit, as many of this name as are visible, without and with explicit template arguments
    functions : Mark → Name → (visible : ℕ) → Callee
    functions_with : Mark → Name → (visible : ℕ) → ArgumentForms → Callee
    -- member functions of the enclosing struct
    own_functions : Mark → Name → Callee
    -- member functions of an object
    object_functions : Mark → (object : Expression) → Name → Callee
    -- what is no function
    no_function : Expression → Callee

  -- types ([dcl.type]). Every part of a type has the type's first token as its place, but a template-id has its own besides
  pub data TypeForm : Type 0 where
    position_type : Mark → (position : ℕ) → TypeForm
    scalar_type : Mark → Scalar → TypeForm
    void_type : Mark → TypeForm
    struct_type : Mark → DeclId → TypeForm
    -- a class template with all its arguments
    template_id : Mark → (at : Place) → DeclId → ArgumentForms → TypeForm
    const_type : Mark → TypeForm → TypeForm
    reference_type : Mark → TypeForm → TypeForm
    -- T::t::u
    member_type : Mark → (head : TypeForm) → (types : List Name) → TypeForm
    decltype_type : Mark → Expression → TypeForm
    -- a name of a value where a type is wanted
    no_type : Mark → TypeForm

  -- template arguments ([temp.arg])
  pub data ArgumentForms : Type 0 where
    no_argument : ArgumentForms
    and_type : TypeForm → ArgumentForms → ArgumentForms
    and_value : Expression → ArgumentForms → ArgumentForms

  -- the local parameters of a requires-expression, each with its number among the locals, and whether it has a name
  pub data RequiresParameters : Type 0 where
    no_parameter : RequiresParameters
    and_parameter : Mark → TypeForm → (local : ℕ) → (is_named : Bool) → RequiresParameters → RequiresParameters

  -- requirements in order ([expr.prim.req])
  pub data Requirements : Type 0 where
    no_requirement : Requirements
    and_simple : Expression → Requirements → Requirements
    and_type_requirement : TypeForm → Requirements → Requirements
    and_compound : Expression → Requirements → Requirements
    -- { E } -> C<..>; the arguments are those after the first
    and_constrained : Expression → (constraint : Mark) → DeclId → ArgumentForms → Requirements → Requirements
    and_nested : Expression → Requirements → Requirements

-- a type-constraint: the concept and its arguments after the first ([temp.param])
pub record Constraint : Type 0 where
  pub mark : Mark
  pub concept : DeclId
  pub rest : ArgumentForms

-- a template argument by itself
pub data ArgumentForm : Type 0 where
  of_type : TypeForm → ArgumentForm
  of_value : Expression → ArgumentForm

-- the type of a variable: written, or `auto` with or without const, & and a constraint ([dcl.spec.auto])
pub data Declared : Type 0 where
  as_type : TypeForm → Declared
  as_auto : Mark → Option Constraint → (is_const : Bool) → (is_reference : Bool) → Declared

-- an initialiser: = e, or { .. } at a place ([dcl.init])
pub data Initialiser : Type 0 where
  equals : Expression → Initialiser
  braces : Mark → Expressions → Initialiser

-- statements ([stmt.stmt])
mutual
  pub data Statement : Type 0 where
    empty_statement : Mark → Statement
    block : Mark → Statements → Statement
    assertion : Mark → Expression → Statement
    break_statement : Mark → Statement
    continue_statement : Mark → Statement
    return_statement : Mark → Option Expression → Statement
    -- the last part is the else branch, or empty
    if_statement : Mark → (is_constexpr : Bool) → Expression → Statement → Statements → Statement
    while_statement : Mark → Expression → Statement → Statement
    -- the first part is a variable, an expression, or empty
    for_statement : Mark → (first : Statement) → (condition : Option Expression) → (step : Option Expression) → Statement → Statement
    variable : Mark → (is_constexpr : Bool) → Declared → (local : ℕ) → Initialiser → Statement
    expression_statement : Mark → Expression → Statement

  pub data Statements : Type 0 where
    no_statement : Statements
    and_statement : Statement → Statements → Statements

-- ---- lists of forms

abbrev pub argument_forms : ArgumentForms → List ArgumentForm
argument_forms no_argument = []
argument_forms (and_type t rest) = of_type t ∷ argument_forms rest
argument_forms (and_value e rest) = of_value e ∷ argument_forms rest

abbrev pub expressions : Expressions → List Expression
expressions no_expression = []
expressions (and_expression e rest) = e ∷ expressions rest

-- ---- marks

abbrev pub type_mark : TypeForm → Mark
type_mark (position_type m i) = m
type_mark (scalar_type m s) = m
type_mark (void_type m) = m
type_mark (struct_type m d) = m
type_mark (template_id m at d xs) = m
type_mark (const_type m t) = m
type_mark (reference_type m t) = m
type_mark (member_type m t names) = m
type_mark (decltype_type m e) = m
type_mark (no_type m) = m

abbrev pub mark_of : Expression → Mark
mark_of (literal m s n) = m
mark_of (local_name m k) = m
mark_of (position_name m i) = m
mark_of (field_name m k d) = m
mark_of (constant_name m d) = m
mark_of (functions_name m name n) = m
mark_of (other_name m d) = m
mark_of (parentheses m e) = m
mark_of (unary m w e) = m
mark_of (binary m w a b) = m
mark_of (conditional m c a b) = m
mark_of (dot m e name) = m
mark_of (scope m t names name) = m
mark_of (call m f xs) = m
mark_of (list m t xs) = m
mark_of (cast m t e) = m
mark_of (is_same m t u) = m
mark_of (out m e) = m
mark_of (concept_id m d xs) = m
mark_of (requires m ps rs) = m
mark_of (requires_with m xs) = m

-- the place of a type, of an expression, of a template argument
abbrev pub type_place : TypeForm → Place
type_place t = (type_mark t).at

abbrev pub place_of : Expression → Place
place_of e = (mark_of e).at

abbrev pub argument_place : ArgumentForm → Place
argument_place (of_type t) = type_place t
argument_place (of_value e) = place_of e

-- the place at which the class of a type is asked for: a template-id's own, else that of the type's first token
abbrev pub place_after_const : Place → TypeForm → Place
place_after_const first (template_id m at d xs) = at
place_after_const first (const_type m t) = place_after_const first t
place_after_const first (reference_type m t) = place_after_const first t
place_after_const first t = first

abbrev pub class_place : TypeForm → Place
class_place t = place_after_const (type_place t) t

-- an expression without the parentheses round it
abbrev pub stripped : Expression → Expression
stripped (parentheses m e) = stripped e
stripped e = e
