-- Which template parameters and which locals a tree names ([temp.constr.normal], [temp.constr.atomic]).
use Rattle.std.specs.Prelude.{ℕ, Bool, true, false, not, ◌&&◌, ◌||◌, ◌==◌, List, length, is_some, slice_get}
use Rattle.std.specs.List.{filter, list_all, range_with_len}
use Rattle.std.specs.Option.{option_map_or}
use Rattle.cx_base.specs.declared.numbers.NodeId.{NodeId}
use Rattle.cx_questions.specs.Forms.{Expression, Expressions, Callee, TypeForm, ArgumentForms, RequiresParameters, Requirements, mark_of, literal, local_name, position_name, field_name, constant_name, functions_name, other_name, parentheses, unary, binary, conditional, dot, scope, call, list, cast, is_same, out, concept_id, requires, requires_with, no_expression, and_expression, functions, functions_with, own_functions, object_functions, no_function, position_type, scalar_type, void_type, struct_type, template_id, const_type, reference_type, member_type, decltype_type, no_type, no_argument, and_type, and_value, no_parameter, and_parameter, no_requirement, and_simple, and_type_requirement, and_compound, and_constrained, and_nested}
use Rattle.cx_questions.specs.Program.{Program, constant_of}
use Rattle.cx_questions.specs.Environments.{Environment}
use Rattle.cx_questions.specs.TermTests.{is_concrete, argument_of}

-- Two tests, one of positions and one of locals.
module _ (u : Program) (position : ℕ → Bool) where
  -- the bare name of a member stands for its template's instance: it names each of the template's parameters
  abbrev pub each_around : NodeId → Bool
  each_around node = list_all position (range_with_len 0 (length (u.positions node)))

  -- whether each position that appears, and each local that is named from outside, passes its test
  abbrev mutual
    pub names_pass : (ℕ → Bool) → Expression → Bool
    names_pass variable (literal m s n) = true
    names_pass variable (local_name m k) = variable k
    names_pass variable (position_name m i) = position i
    names_pass variable (field_name m k d) = each_around m.node
    names_pass variable (constant_name m d) = not (is_some (constant_of u d).owner) || each_around m.node
    names_pass variable (functions_name m name visible) = not (visible == 0) || each_around m.node
    names_pass variable (other_name m d) = true
    names_pass variable (parentheses m e) = names_pass variable e
    names_pass variable (unary m w e) = names_pass variable e
    names_pass variable (binary m w a b) = names_pass variable a && names_pass variable b
    names_pass variable (conditional m c a b) = names_pass variable c && names_pass variable a && names_pass variable b
    names_pass variable (dot m e name) = names_pass variable e
    names_pass variable (scope m t names name) = type_names_pass variable t
    names_pass variable (call m f xs) = callee_names_pass variable f && all_names_pass variable xs
    names_pass variable (list m t xs) = type_names_pass variable t && all_names_pass variable xs
    names_pass variable (cast m t e) = type_names_pass variable t && names_pass variable e
    names_pass variable (is_same m t v) = type_names_pass variable t && type_names_pass variable v
    names_pass variable (out m e) = names_pass variable e
    names_pass variable (concept_id m d xs) = argument_names_pass variable xs
    names_pass variable (requires m ps rs) = list_all variable (u.outer_locals m.node) && parameter_names_pass (λ k. true) ps && requirement_names_pass (λ k. true) rs
    names_pass variable (requires_with m xs) = list_all variable (u.outer_locals m.node) && argument_names_pass variable xs

    pub all_names_pass : (ℕ → Bool) → Expressions → Bool
    all_names_pass variable no_expression = true
    all_names_pass variable (and_expression e rest) = names_pass variable e && all_names_pass variable rest

    pub callee_names_pass : (ℕ → Bool) → Callee → Bool
    callee_names_pass variable (functions m name visible) = true
    callee_names_pass variable (functions_with m name visible xs) = argument_names_pass variable xs
    callee_names_pass variable (own_functions m name) = each_around m.node
    callee_names_pass variable (object_functions m e name) = names_pass variable e
    callee_names_pass variable (no_function e) = names_pass variable e

    pub type_names_pass : (ℕ → Bool) → TypeForm → Bool
    type_names_pass variable (position_type m i) = position i
    type_names_pass variable (scalar_type m s) = true
    type_names_pass variable (void_type m) = true
    type_names_pass variable (struct_type m d) = true
    type_names_pass variable (template_id m at d xs) = argument_names_pass variable xs
    type_names_pass variable (const_type m t) = type_names_pass variable t
    type_names_pass variable (reference_type m t) = type_names_pass variable t
    type_names_pass variable (member_type m t names) = type_names_pass variable t
    type_names_pass variable (decltype_type m e) = names_pass variable e
    type_names_pass variable (no_type m) = true

    pub argument_names_pass : (ℕ → Bool) → ArgumentForms → Bool
    argument_names_pass variable no_argument = true
    argument_names_pass variable (and_type t rest) = type_names_pass variable t && argument_names_pass variable rest
    argument_names_pass variable (and_value e rest) = names_pass variable e && argument_names_pass variable rest

    -- the parameters and requirements of a requires-expression: the locals that it names from outside are told by the program
    pub parameter_names_pass : (ℕ → Bool) → RequiresParameters → Bool
    parameter_names_pass variable no_parameter = true
    parameter_names_pass variable (and_parameter m t k is_named rest) = type_names_pass variable t && parameter_names_pass variable rest

    pub requirement_names_pass : (ℕ → Bool) → Requirements → Bool
    requirement_names_pass variable no_requirement = true
    requirement_names_pass variable (and_simple e rest) = names_pass variable e && requirement_names_pass variable rest
    requirement_names_pass variable (and_type_requirement t rest) = type_names_pass variable t && requirement_names_pass variable rest
    requirement_names_pass variable (and_compound e rest) = names_pass variable e && requirement_names_pass variable rest
    requirement_names_pass variable (and_constrained e m d xs rest) = names_pass variable e && argument_names_pass variable xs && requirement_names_pass variable rest
    requirement_names_pass variable (and_nested e rest) = names_pass variable e && requirement_names_pass variable rest

-- whether a position appears in an expression, and the positions that do, rising
abbrev pub appears : Program → Expression → ℕ → Bool
appears u e i = not (names_pass u (λ j. not (i == j)) (λ k. true) e)

abbrev pub appearing : Program → Expression → List ℕ
appearing u e = filter (appears u e) (range_with_len 0 (length (u.positions (mark_of e).node)))

-- the environment has a local
abbrev pub has_variable : Environment → ℕ → Bool
has_variable env k = option_map_or is_some (slice_get env.variables k) false

-- no position is left where the environment's arguments are put in, and each local that is named is there
abbrev pub is_settled : Program → Environment → Expression → Bool
is_settled u env e = names_pass u (λ i. is_concrete (argument_of env.arguments i)) (has_variable env) e

abbrev pub is_settled_type : Program → Environment → TypeForm → Bool
is_settled_type u env t = type_names_pass u (λ i. is_concrete (argument_of env.arguments i)) (has_variable env) t

abbrev pub are_settled : Program → Environment → ArgumentForms → Bool
are_settled u env xs = argument_names_pass u (λ i. is_concrete (argument_of env.arguments i)) (has_variable env) xs
