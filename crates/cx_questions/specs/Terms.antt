-- From forms to terms: the tree that a type, an argument, an expression stands for, with its positions as they are and
-- nothing asked. And from terms to forms: a tree at one place as a form, all of whose parts have that place.
use Rattle.std.specs.Prelude.{not, ℕ, Bool, true, false, List, [], ◌∷◌, map, ◌==◌, Option, Some, None, slice_get, if◌then◌else◌}
use Rattle.std.specs.Option.{option_map_or}
use Rattle.cx_base.specs.declared.numbers.DeclId.{DeclId}
use Rattle.cx_term.specs.Term.{Term, Arguments, param, scalar, void, struct, inst, const, ref, member, decltype, val, local, form, nothing, argument, arguments}
use Rattle.cx_term.specs.Term.{functions as function_names}
use Rattle.cx_term.specs.declared.word.Word.{Word}
use Rattle.cx_term.specs.declared.word.Word.TheVariants as word
use Rattle.cx_questions.specs.TermTests.{with_const, with_ref, is_type}
use Rattle.cx_questions.specs.Forms.{Name, Mark, Expression, Expressions, Callee, TypeForm, ArgumentForm, ArgumentForms, of_type, of_value, mark_of, literal, local_name, position_name, field_name, constant_name, functions_name, other_name, parentheses, unary, binary, conditional, dot, scope, call, list, cast, is_same, out, concept_id, requires, requires_with, no_expression, and_expression, functions, functions_with, own_functions, object_functions, no_function, position_type, scalar_type, void_type, struct_type, template_id, const_type, reference_type, member_type, decltype_type, no_type, no_argument, and_type, and_value}
use Rattle.cx_questions.specs.Program.{Program, Parametric, Declaration, a_constant, a_field, constant_of, struct_of}
use Rattle.cx_questions.specs.Appearance.{appearing}

-- ---- from forms to terms

-- a type with names of member types after it
abbrev pub members_of : Term → List Name → Term
members_of t [] = t
members_of t (name ∷ names) = members_of (member t name) names

-- a name after `.` or `::`
abbrev pub member_name : Name → Term
member_name name = function_names name 0

-- a constant of the unit is its declaration; a static constant is named in its struct
abbrev pub constant_in : Program → DeclId → Option DeclId → Term
constant_in u d None = struct d
constant_in u d (Some owner) = form word.Scope (arguments ((struct_of u owner).itself ∷ member_name (constant_of u d).name ∷ []))

abbrev pub constant_term : Program → DeclId → Term
constant_term u d = constant_in u d (constant_of u d).owner

-- a requires-expression: the positions that appear in it
abbrev pub requires_term : Program → Expression → (ℕ → Term) → Term
requires_term u e s = form (word.Requires (mark_of e).node) (arguments (map s (appearing u e)))

-- the operand of decltype keeps one pair of the parentheses round the whole of it
abbrev pub operand_of : Expression → Term → Term
operand_of (parentheses m e) t = form word.Paren (argument t nothing)
operand_of e t = t

module _ (u : Program) where
  abbrev mutual
    -- an expression, its parentheses left out
    pub expression_term : Expression → Term
    expression_term (literal m s n) = val s n
    expression_term (local_name m k) = local k
    expression_term (position_name m i) = param i
    expression_term (field_name m k d) = struct d
    expression_term (constant_name m d) = constant_term u d
    expression_term (functions_name m name visible) = function_names name visible
    expression_term (other_name m d) = struct d
    expression_term (parentheses m e) = expression_term e
    expression_term (unary m w e) = form w (argument (expression_term e) nothing)
    expression_term (binary m w a b) = form w (argument (expression_term a) (argument (expression_term b) nothing))
    expression_term (conditional m c a b) = form word.Cond (argument (expression_term c) (argument (expression_term a) (argument (expression_term b) nothing)))
    expression_term (dot m e name) = form word.Dot (argument (expression_term e) (argument (member_name name) nothing))
    expression_term (scope m t names name) = form word.Scope (argument (members_of (type_term t) names) (argument (member_name name) nothing))
    expression_term (call m f xs) = form word.Call (argument (callee_term f) (expression_terms xs))
    expression_term (list m t xs) = form word.List (argument (type_term t) (expression_terms xs))
    expression_term (cast m t e) = form word.Cast (argument (type_term t) (argument (expression_term e) nothing))
    expression_term (is_same m t v) = form word.Same (argument (type_term t) (argument (type_term v) nothing))
    expression_term (out m e) = form word.Out (argument (expression_term e) nothing)
    expression_term (concept_id m d xs) = form word.Concept (argument (struct d) (argument_terms xs))
    expression_term (requires m ps rs) = requires_term u (requires m ps rs) param
    expression_term (requires_with m xs) = form (word.Requires m.node) (argument_terms xs)

    pub expression_terms : Expressions → Arguments
    expression_terms no_expression = nothing
    expression_terms (and_expression e rest) = argument (expression_term e) (expression_terms rest)

    pub callee_term : Callee → Term
    callee_term (functions m name visible) = function_names name visible
    callee_term (functions_with m name visible xs) = form word.Call (argument (function_names name visible) (argument_terms xs))
    callee_term (own_functions m name) = member_name name
    callee_term (object_functions m e name) = form word.Dot (argument (expression_term e) (argument (member_name name) nothing))
    callee_term (no_function e) = expression_term e

    pub type_term : TypeForm → Term
    type_term (position_type m i) = param i
    type_term (scalar_type m s) = scalar s
    type_term (void_type m) = void
    type_term (struct_type m d) = struct d
    type_term (template_id m at d xs) = inst d (argument_terms xs)
    type_term (const_type m t) = with_const (type_term t)
    type_term (reference_type m t) = with_ref (type_term t)
    type_term (member_type m t names) = members_of (type_term t) names
    type_term (decltype_type m e) = decltype (operand_of e (expression_term e))
    type_term (no_type m) = void

    pub argument_terms : ArgumentForms → Arguments
    argument_terms no_argument = nothing
    argument_terms (and_type t rest) = argument (type_term t) (argument_terms rest)
    argument_terms (and_value e rest) = argument (expression_term e) (argument_terms rest)

  abbrev pub argument_term : ArgumentForm → Term
  argument_term (of_type t) = type_term t
  argument_term (of_value e) = expression_term e

-- ---- from terms to forms

-- whether a position takes a value
abbrev pub takes_value : List Parametric → ℕ → Bool
takes_value ks i = option_map_or (λ kind. option_map_or (λ s. true) kind false) (slice_get ks i) false

-- whether an argument is a value
abbrev pub is_value : List Parametric → Term → Bool
is_value ks (param i) = takes_value ks i
is_value ks t = not (is_type t)

-- what a declaration means as an expression
abbrev pub declared_name : Mark → DeclId → Declaration → Expression
declared_name m d (a_constant c) = constant_name m d
declared_name m d (a_field k t) = field_name m k d
declared_name m d other = other_name m d

-- what is called, where it is a list of functions: of the unit by how many are visible, else of a struct
abbrev pub functions_called : Mark → Name → ℕ → Callee
functions_called m name visible = if visible == 0 then own_functions m name else functions m name visible

-- A tree at a mark, whose place is that of all parts; what its positions take is given. What is no expression,
-- and what is no type, is a name that means neither.
module _ (u : Program) (positions : List Parametric) (m : Mark) where
  abbrev no_value : Expression
  no_value = other_name m (record { 0 = 0 })

  abbrev mutual
    pub expression_at : Term → Expression
    expression_at (param i) = position_name m i
    expression_at (val s n) = literal m s n
    expression_at (local k) = local_name m k
    expression_at (function_names name visible) = functions_name m name visible
    expression_at (struct d) = declared_name m d (u.declaration d)
    expression_at (form (word.Requires node) xs) = requires_with (record { node = node; at = m.at }) (arguments_at xs)
    expression_at (form w xs) = form_at w xs
    expression_at t = no_value

    pub form_at : Word → Arguments → Expression
    form_at word.Paren (argument t nothing) = parentheses m (expression_at t)
    form_at word.Out (argument t nothing) = out m (expression_at t)
    form_at word.Cond (argument c (argument a (argument b nothing))) = conditional m (expression_at c) (expression_at a) (expression_at b)
    form_at word.Dot (argument t (argument (function_names name visible) nothing)) = dot m (expression_at t) name
    form_at word.Scope (argument t (argument (function_names name visible) nothing)) = scope m (type_at t) [] name
    form_at word.Call (argument f xs) = call m (callee_at f) (expressions_at xs)
    form_at word.List (argument t xs) = list m (type_at t) (expressions_at xs)
    form_at word.Cast (argument t (argument e nothing)) = cast m (type_at t) (expression_at e)
    form_at word.Same (argument t (argument v nothing)) = is_same m (type_at t) (type_at v)
    form_at word.Concept (argument (struct d) xs) = concept_id m d (arguments_at xs)
    form_at w (argument t nothing) = unary m w (expression_at t)
    form_at w (argument a (argument b nothing)) = binary m w (expression_at a) (expression_at b)
    form_at w xs = no_value

    pub expressions_at : Arguments → Expressions
    expressions_at nothing = no_expression
    expressions_at (argument t xs) = and_expression (expression_at t) (expressions_at xs)

    pub callee_at : Term → Callee
    callee_at (function_names name visible) = functions_called m name visible
    callee_at (form w xs) = called_form w xs
    callee_at t = no_function no_value

    pub called_form : Word → Arguments → Callee
    called_form word.Call (argument (function_names name visible) xs) = functions_with m name visible (arguments_at xs)
    called_form word.Dot (argument t (argument (function_names name visible) nothing)) = object_functions m (expression_at t) name
    called_form w xs = no_function no_value

    pub type_at : Term → TypeForm
    type_at (param i) = position_type m i
    type_at (scalar s) = scalar_type m s
    type_at void = void_type m
    type_at (struct d) = struct_type m d
    type_at (inst d xs) = template_id m m.at d (arguments_at xs)
    type_at (const t) = const_type m (type_at t)
    type_at (ref t) = reference_type m (type_at t)
    type_at (member t name) = member_type m (type_at t) (name ∷ [])
    type_at (decltype t) = decltype_type m (expression_at t)
    type_at t = no_type m

    pub arguments_at : Arguments → ArgumentForms
    arguments_at nothing = no_argument
    arguments_at (argument t xs) = if is_value positions t then and_value (expression_at t) (arguments_at xs) else and_type (type_at t) (arguments_at xs)

  abbrev pub argument_at : Term → ArgumentForm
  argument_at t = if is_value positions t then of_value (expression_at t) else of_type (type_at t)
