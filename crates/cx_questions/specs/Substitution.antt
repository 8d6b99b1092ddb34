-- Substitution ([temp.deduct], [temp.inst], [temp.names]): the tree that a type, an argument or an expression stands for in
-- an environment. Each position is replaced by its argument. Where no position is left and each local that is named is
-- there, a member type is looked up in its class, decltype takes the type of its operand, a value argument becomes a value
-- of its parameter's type, and a template-id's constraints must be satisfied.
use Rattle.std.specs.Prelude.{ℕ, nat_le, Bool, true, false, not, ◌&&◌, ◌==◌, List, [], ◌∷◌, map, length, Option, Some, None, slice_index_or, if◌then◌else◌}
use Rattle.std.specs.List.{filter_map}
use Rattle.cx_base.specs.declared.kind.Kind.TheVariants as kind
use Rattle.cx_base.specs.declared.limit.Limit.TheVariants as limit
use Rattle.cx_base.specs.declared.numbers.DeclId.{DeclId}
use Rattle.cx_base.specs.declared.numbers.NodeId.{NodeId}
use Rattle.cx_base.specs.declared.place.Place.{Place}
use Rattle.cx_base.specs.declared.value.Scalar.{Scalar}
use Rattle.cx_term.specs.Term.{Term, scalar, void, struct, inst, decltype, val, local, form, arguments}
use Rattle.cx_term.specs.Term.{functions as function_names}
use Rattle.cx_term.specs.Size.{nodes, depth}
use Rattle.cx_term.specs.declared.typed.Cat.{Cat}
use Rattle.cx_term.specs.declared.typed.Cat.TheVariants as cat
use Rattle.cx_term.specs.declared.word.Word.TheVariants as word
use Rattle.cx_machine.specs.Values.{Val, Number}
use Rattle.cx_machine.specs.Values.{Struct as fields}
use Rattle.cx_questions.specs.Answers.{Answer, given, passed, soft, hard, ◌>>=◌, ◌>>◌, either, must, present, instead, in_case, in_turn}
use Rattle.cx_machine.specs.Scalars.{is_value}
use Rattle.cx_questions.specs.Forms.{Name, Mark, Expression, Expressions, Callee, TypeForm, ArgumentForm, ArgumentForms, of_type, of_value, place_of, type_place, literal, local_name, position_name, field_name, constant_name, functions_name, other_name, parentheses, unary, binary, conditional, dot, scope, call, list, cast, is_same, out, concept_id, requires, requires_with, no_expression, and_expression, functions, functions_with, own_functions, object_functions, no_function, position_type, scalar_type, void_type, struct_type, template_id, const_type, reference_type, member_type, decltype_type, no_type, no_argument, and_type, and_value}
use Rattle.cx_questions.specs.Program.{Program, Parametric, Member, member_alias, struct_of, concept_of, kinds}
use Rattle.cx_questions.specs.Environments.{Environment, Typed, Class, only_arguments}
use Rattle.cx_questions.specs.Questions.{Questions, of_declaration}
use Rattle.cx_questions.specs.TermTests.{with_const, without_const, with_ref, is_void, is_type, is_val_of, replaced, argument_of}
use Rattle.cx_questions.specs.Appearance.{appearing, is_settled, is_settled_type, are_settled}
use Rattle.cx_questions.specs.Terms.{members_of, member_name, constant_term, requires_term, operand_of}

-- a tree within the limits on its size
abbrev pub made : Program → Place → Term → Answer Term
made u at t = must (nat_le (nodes t) u.limits.nodes && nat_le (depth t) u.limits.depth) (passed limit.TermSize at) >> given t

-- ---- what is asked where a tree is settled

-- the names of a class's members of one kind, in order; the type of the member type of a name
abbrev pub alias_name : Member → Option Name
alias_name (member_alias name t) = Some name
alias_name _ = None

abbrev pub same_name : Name → Name → Bool
same_name [] [] = true
same_name (x ∷ xs) (y ∷ ys) = (x == y) && same_name xs ys
same_name _ _ = false

abbrev pub at_name : {A : Type 0} → Name → List Name → List A → Option A
at_name name [] xs = None
at_name name (n ∷ names) [] = None
at_name name (n ∷ names) (x ∷ xs) = if same_name name n then Some x else at_name name names xs

abbrev pub member_type_of : Program → Class → Name → Option Term
member_type_of u c name = at_name name (filter_map alias_name (struct_of u c.declaration).members) c.types

-- the type that decltype gives ([dcl.type.decltype]): the declared type of a name or of x.m that stands alone; else a
-- reference for an lvalue, and the type itself for a prvalue
abbrev pub by_category : Place → Cat → Term → Answer Term
by_category at cat.Lvalue t = given (with_ref t)
by_category at cat.Xvalue t = hard kind.Unsupported at
by_category at cat.Prvalue t = given t

abbrev pub decltype_of : Place → Typed → Answer Term
decltype_of at e = in_case e.declared given (λ _. by_category at e.category e.of)

-- a value as one of a type
abbrev pub value_as : Scalar → Place → Val → Answer Term
value_as s at (Number t n) = must (is_value s n) (soft kind.InvalidType at) >> given (val s n)
value_as s at (fields vs) = soft kind.InvalidType at

-- the tree of a value argument that is a value already: a literal, or a position with its argument
abbrev pub value_there : Environment → Expression → Term
value_there env (literal m s n) = val s n
value_there env (position_name m i) = argument_of env.arguments i
value_there env (parentheses m e) = value_there env e
value_there env e = void

-- a tree is an argument for a position of this kind
abbrev pub is_of_kind : Parametric → Term → Bool
is_of_kind None t = is_type t
is_of_kind (Some s) t = is_val_of s t

-- as many arguments as positions, each of its kind
abbrev pub are_of_kinds : List Parametric → List Term → Bool
are_of_kinds [] [] = true
are_of_kinds (k ∷ ks) (t ∷ ts) = is_of_kind k t && are_of_kinds ks ts
are_of_kinds _ _ = false

abbrev pub first_kind : List Parametric → Parametric
first_kind [] = None
first_kind (k ∷ ks) = k

abbrev pub later_kinds : List Parametric → List Parametric
later_kinds [] = []
later_kinds (k ∷ ks) = ks

abbrev pub kind_at : List Parametric → ℕ → Parametric
kind_at ks i = slice_index_or ks i None

module _ (u : Program) (b : Questions) where
  -- whether what a declaration is constrained by is satisfied in an environment; without constraints nothing is asked
  abbrev pub satisfies : DeclId → List Expression → Place → Environment → Answer Bool
  satisfies d constraints at env =
      either (length constraints == 0) (λ _. given true) (λ _. b.normal (of_declaration d) >>= λ f. in_case f (λ p. b.satisfied at p env) (λ _. given true))

  -- an instance's arguments fit its template, and satisfy its constraints
  abbrev pub instance_allowed : Mark → Place → DeclId → List Term → Answer (Unit {0})
  instance_allowed m at d ts = do
    must (are_of_kinds (kinds (struct_of u d).template_parameters) ts) (soft kind.InvalidType m.at)
    allowed ← satisfies d (struct_of u d).constraints at (only_arguments ts)
    must allowed (soft kind.Unsatisfied at)

  -- the member type of a name; the class is asked for at the place of the head
  abbrev pub member_in : Mark → Place → Term → Name → Answer Term
  member_in m head t name = do
    c ← instead (b.class head (without_const t)) (soft kind.InvalidType m.at)
    present (member_type_of u c name) (soft kind.InvalidType m.at)

  abbrev pub members_in : Mark → Place → Term → List Name → Answer Term
  members_in m head t names = in_turn (member_in m head) t names

  -- a value argument: one that is a value of the parameter's type already stays, another is a constant that fits
  abbrev pub settled_value : Environment → Scalar → Expression → Answer Term
  settled_value env s e = either (is_val_of s (value_there env e)) (λ _. given (value_there env e)) (λ _. b.constant e env >>= value_as s (place_of e))

  -- ... where it is settled; else the tree that it stays
  abbrev pub value_argument : Environment → Parametric → Expression → (Unit {0} → Answer Term) → Answer Term
  value_argument env None e stays = stays tt
  value_argument env (Some s) e stays = either (is_settled u env e) (λ _. settled_value env s e) stays

  -- the kinds of the positions that appear in the requires-expression at a node
  abbrev pub positions_named : NodeId → List Parametric
  positions_named node = map (kind_at (u.positions node)) (appearing u (u.expression node))

  module _ (env : Environment) where
    abbrev mutual
      pub substitute_type : TypeForm → Answer Term
      substitute_type (position_type m i) = given (argument_of env.arguments i)
      substitute_type (scalar_type m s) = given (scalar s)
      substitute_type (void_type m) = given void
      substitute_type (struct_type m d) = given (struct d)
      substitute_type (template_id m at d xs) = do
        ts ← substitute_arguments (kinds (struct_of u d).template_parameters) xs
        t ← made u m.at (inst d (arguments ts))
        either (are_settled u env xs) (λ _. instance_allowed m at d ts >> given t) (λ _. given t)
      substitute_type (const_type m t) = substitute_type t >>= λ s. made u m.at (with_const s)
      substitute_type (reference_type m t) = do
        s ← substitute_type t
        must (not (is_void s)) (soft kind.InvalidType m.at)
        made u m.at (with_ref s)
      substitute_type (member_type m t names) = do
        s ← substitute_type t
        either (is_settled_type u env t) (λ _. members_in m (type_place t) s names) (λ _. made u m.at (members_of s names))
      substitute_type (decltype_type m e) = either (is_settled u env e)
          (λ _. b.type_of e env >>= λ typed. decltype_of (place_of e) typed >>= made u m.at)
          (λ _. substitute_expression m.at e >>= λ t. made u m.at (decltype (operand_of e t)))
      substitute_type (no_type m) = soft kind.InvalidType m.at

      -- arguments for positions of these kinds; one without a position of its kind is put in as it is
      -- arguments for positions of these kinds
      pub substitute_arguments : List Parametric → ArgumentForms → Answer (List Term)
      substitute_arguments ks no_argument = given []
      substitute_arguments ks (and_type t rest) = do
        s ← substitute_type t
        ss ← substitute_arguments (later_kinds ks) rest
        given (s ∷ ss)
      substitute_arguments ks (and_value e rest) = do
        s ← value_argument env (first_kind ks) e (λ _. substitute_expression (place_of e) e)
        ss ← substitute_arguments (later_kinds ks) rest
        given (s ∷ ss)

      -- an expression that stays a tree, in a type or argument at this place
      pub substitute_expression : Place → Expression → Answer Term
      substitute_expression at (literal m s n) = given (val s n)
      substitute_expression at (local_name m k) = given (local k)
      substitute_expression at (position_name m i) = given (argument_of env.arguments i)
      substitute_expression at (field_name m k d) = given (struct d)
      substitute_expression at (constant_name m d) = given (replaced (argument_of env.arguments) (constant_term u d))
      substitute_expression at (functions_name m name visible) = given (function_names name visible)
      substitute_expression at (other_name m d) = given (struct d)
      substitute_expression at (parentheses m e) = substitute_expression at e
      substitute_expression at (unary m w e) = do
        s ← substitute_expression at e
        made u at (form w (arguments (s ∷ [])))
      substitute_expression at (binary m w a c) = do
        s ← substitute_expression at a
        t ← substitute_expression at c
        made u at (form w (arguments (s ∷ t ∷ [])))
      substitute_expression at (conditional m c a e) = do
        r ← substitute_expression at c
        s ← substitute_expression at a
        t ← substitute_expression at e
        made u at (form word.Cond (arguments (r ∷ s ∷ t ∷ [])))
      substitute_expression at (dot m e name) = do
        s ← substitute_expression at e
        made u at (form word.Dot (arguments (s ∷ member_name name ∷ [])))
      substitute_expression at (scope m t names name) = do
        s ← substitute_type t
        r ← either (is_settled_type u env t) (λ _. members_in m (type_place t) s names) (λ _. given (members_of s names))
        made u at (form word.Scope (arguments (r ∷ member_name name ∷ [])))
      substitute_expression at (call m f xs) = do
        s ← substitute_callee at f
        ts ← substitute_expressions at xs
        made u at (form word.Call (arguments (s ∷ ts)))
      substitute_expression at (list m t xs) = do
        s ← substitute_type t
        ts ← substitute_expressions at xs
        made u at (form word.List (arguments (s ∷ ts)))
      substitute_expression at (cast m t e) = do
        s ← substitute_type t
        r ← substitute_expression at e
        made u at (form word.Cast (arguments (s ∷ r ∷ [])))
      substitute_expression at (is_same m t v) = do
        s ← substitute_type t
        r ← substitute_type v
        made u at (form word.Same (arguments (s ∷ r ∷ [])))
      substitute_expression at (out m e) = do
        s ← substitute_expression at e
        made u at (form word.Out (arguments (s ∷ [])))
      substitute_expression at (concept_id m d xs) = do
        ts ← substitute_arguments (kinds (concept_of u d).template_parameters) xs
        made u at (form word.Concept (arguments (struct d ∷ ts)))
      substitute_expression at (requires m ps rs) = made u at (requires_term u (requires m ps rs) (argument_of env.arguments))
      substitute_expression at (requires_with m xs) = do
        ts ← substitute_arguments (positions_named m.node) xs
        made u at (form (word.Requires m.node) (arguments ts))

      pub substitute_expressions : Place → Expressions → Answer (List Term)
      substitute_expressions at no_expression = given []
      substitute_expressions at (and_expression e rest) = do
        s ← substitute_expression at e
        ss ← substitute_expressions at rest
        given (s ∷ ss)

      pub substitute_callee : Place → Callee → Answer Term
      substitute_callee at (functions m name visible) = given (function_names name visible)
      substitute_callee at (functions_with m name visible xs) = do
        ts ← substitute_arguments [] xs
        made u at (form word.Call (arguments (function_names name visible ∷ ts)))
      substitute_callee at (own_functions m name) = given (member_name name)
      substitute_callee at (object_functions m e name) = do
        s ← substitute_expression at e
        made u at (form word.Dot (arguments (s ∷ member_name name ∷ [])))
      substitute_callee at (no_function e) = substitute_expression at e

    -- an argument by itself, for a position of this kind
    abbrev pub substitute_argument : Parametric → ArgumentForm → Answer Term
    substitute_argument k (of_type t) = substitute_type t
    substitute_argument k (of_value e) = value_argument env k e (λ _. substitute_expression (place_of e) e)
