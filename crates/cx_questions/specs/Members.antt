-- Names, member access and qualified names as expressions ([expr.prim.id], [expr.ref], [class.qual]).
use Rattle.std.specs.Prelude.{if◌then◌else◌, ℕ, Bool, false, not, ◌||◌, List, Option, Some, None, slice_get, is_some}
use Rattle.std.specs.Option.{option_map_or, option_flatten}
use Rattle.std.specs.List.{filter_map}
use Rattle.cx_base.specs.declared.kind.Kind.TheVariants as kind
use Rattle.cx_base.specs.declared.numbers.DeclId.{DeclId}
use Rattle.cx_base.specs.declared.place.Place.{Place}
use Rattle.cx_term.specs.Term.{Term, val}
use Rattle.cx_term.specs.declared.typed.Cat.{Cat}
use Rattle.cx_term.specs.declared.typed.Cat.TheVariants as cat
use Rattle.cx_questions.specs.Answers.{Answer, given, soft, hard, ◌>>=◌, ◌>>◌, harden, must, present, in_case, in_turn}
use Rattle.cx_questions.specs.Forms.{Name, type_place}
use Rattle.cx_questions.specs.Program.{Program, Member, field, static_constant, member_function, struct_of, constant_of, field_form}
use Rattle.cx_questions.specs.Environments.{Environment, Typed, Class, Object, only_arguments}
use Rattle.cx_questions.specs.Questions.{Questions}
use Rattle.cx_questions.specs.TermTests.{is_const, is_ref, is_void, is_class, without_const, without_ref, with_const, const_if}
use Rattle.cx_questions.specs.Substitution.{made, at_name, member_type_of, substitute_type}
use Rattle.cx_questions.specs.Operators.{value_of, is_lvalue}

-- a name, or a member, with its declared type
abbrev pub declared_as : Cat → Term → Term → Typed
declared_as c declared t = record { of = t; category = c; declared = Some declared }

-- ---- what a name means in a class

abbrev pub field_name_of : Member → Option Name
field_name_of (field name t) = Some name
field_name_of _ = None

abbrev pub constant_name_of : Member → Option Name
constant_name_of (static_constant name d) = Some name
constant_name_of _ = None

abbrev pub constant_number_of : Member → Option DeclId
constant_number_of (static_constant name d) = Some d
constant_number_of _ = None

abbrev pub function_name_of : Member → Option Name
function_name_of (member_function name d) = Some name
function_name_of _ = None

module _ (u : Program) where
  abbrev pub members_of_class : Class → List Member
  members_of_class c = (struct_of u c.declaration).members

  -- the type of the field of a name, the static constant of a name, whether a member function has the name
  abbrev pub field_type : Class → Name → Option Term
  field_type c name = at_name name (filter_map field_name_of (members_of_class c)) c.fields

  abbrev pub constant_named : Class → Name → Option DeclId
  constant_named c name = at_name name (filter_map constant_name_of (members_of_class c)) (filter_map constant_number_of (members_of_class c))

  abbrev pub has_function : Class → Name → Bool
  has_function c name = is_some (at_name name (filter_map function_name_of (members_of_class c)) (filter_map function_name_of (members_of_class c)))

module _ (u : Program) (b : Questions) where
  -- ---- names

  -- a variable or parameter: its declared type without reference, an lvalue
  abbrev pub variable_typed : Environment → Place → ℕ → Answer Typed
  variable_typed env at k = present (option_flatten (slice_get env.variables k)) (soft kind.InvalidExpr at) >>= λ v. given (declared_as cat.Lvalue v.of (without_ref v.of))

  -- the value of a template parameter
  abbrev pub value_typed : Place → Term → Answer Typed
  value_typed at (val s n) = given (value_of s)
  value_typed at t = soft kind.InvalidExpr at

  abbrev pub object_is_const : Option Object → Bool
  object_is_const o = option_map_or (λ object. object.is_const) o false

  -- A field by its bare name follows the object of the member function. Its type is that of its declaration: no class is asked
  abbrev pub own_field_typed : Environment → Place → DeclId → Answer Typed
  own_field_typed env at d = do
    t ← harden (substitute_type u b (only_arguments env.arguments) (field_form u d))
    s ← made u at (const_if (object_is_const env.object) t)
    given (declared_as cat.Lvalue t s)

  -- A constant: its declared type with const. The type is not in an immediate context
  abbrev pub constant_typed : List Term → Place → DeclId → Answer Typed
  constant_typed arguments at d = do
    t ← harden (substitute_type u b (only_arguments arguments) (constant_of u d).of)
    must (not (is_ref t)) (hard kind.Unsupported (type_place (constant_of u d).of))
    must (not (is_void t)) (hard kind.InvalidType (type_place (constant_of u d).of))
    s ← made u at (with_const t)
    given (declared_as cat.Lvalue s s)

  -- ---- e.m

  abbrev pub object_category : Typed → Cat
  object_category e = if is_lvalue e then cat.Lvalue else cat.Xvalue

  -- after `.` a static constant and a member function that is not called are not supported
  abbrev pub no_field : Place → Class → Name → Answer Typed
  no_field at c name = must (not (is_some (constant_named u c name) || has_function u c name)) (hard kind.Unsupported at) >> soft kind.InvalidExpr at

  abbrev pub field_typed : Place → Typed → Term → Answer Typed
  field_typed at e t = made u at (const_if (is_const e.of) t) >>= λ s. given (declared_as (object_category e) t s)

  abbrev pub member_typed : Place → Typed → Name → Answer Typed
  member_typed at e name = do
    must (is_class e.of) (soft kind.InvalidExpr at)
    c ← b.class at (without_const e.of)
    in_case (field_type u c name) (field_typed at e) (λ _. no_field at c name)

  -- ---- T::m

  -- the class that a type before `::` is
  abbrev pub qualifier : Place → Place → Term → Answer Class
  qualifier at head t = must (is_class t) (soft kind.InvalidExpr at) >> b.class head (without_const t)

  abbrev pub qualified_type : Place → Place → Term → Name → Answer Term
  qualified_type at head t name = do
    c ← qualifier at head t
    present (member_type_of u c name) (soft kind.InvalidExpr at)

  -- after `::` a field and a member function are not supported
  abbrev pub no_constant : Place → Class → Name → Answer Typed
  no_constant at c name = must (not (is_some (field_type u c name) || has_function u c name)) (hard kind.Unsupported at) >> soft kind.InvalidExpr at

  abbrev pub scope_typed : Place → Place → Term → List Name → Name → Answer Typed
  scope_typed at head t names name = do
    s ← in_turn (qualified_type at head) t names
    c ← qualifier at head s
    in_case (constant_named u c name) (constant_typed c.arguments at) (λ _. no_constant at c name)
