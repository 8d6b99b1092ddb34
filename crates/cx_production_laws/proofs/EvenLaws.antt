-- A tree ends between the halves of `>>` only within a list of template arguments, which the first half closes.
use Rattle.std.proofs.Common.{◌≡◌, ℕ, zero, suc, Bool, true, false, if◌then◌else◌, List, Option, Some, None, Ok, refl, sym, ap, ◌∙◌, subst}
use Rattle.cx_base.specs.declared.place.Place.{Place}
use Rattle.cx_tokens.specs.declared.punctuator.Punctuator.TheVariants as punctuator
use Rattle.cx_tokens.specs.Pieces.{Piece}
use Rattle.cx_syntax.specs.declared.context.Context.{Context}
use Rattle.cx_syntax.specs.Productions.{Production, Class, ◌>>=◌, when, give, token, given}
use Rattle.cx_syntax.specs.Combinators.{node, in_scope}
use Rattle.cx_syntax.specs.Classes.{punct, word, nothing}
use Rattle.cx_productions.specs.Trees.{ExprTree, TypeTree, ArgumentTree, mark, Mark, ConstraintTree}
use Rattle.cx_productions.specs.Below.{Below}
use Rattle.cx_productions.specs.Scalars.{Core, maybe_int, long_long, after_sign, scalar_after, word_core, after_long_long, long_core, scalar_core, scalar_at, scalar_of_word}
use Rattle.cx_productions.specs.Types.{argument_list, member_name, more_names, member_names, as_type, class_core, type_name_core, head_core, member_core, decltype_core, void_core, core, const_after, type_after, const_type, plain_type, type_id}
use Rattle.cx_tokens.specs.declared.word.Word.{Word}
use Rattle.cx_tokens.specs.declared.punctuator.Punctuator.{Punctuator}
use Rattle.cx_names.specs.declared.name_kind.NameKind.{NameKind}
use Rattle.cx_syntax.specs.declared.operators.BinaryOperator.{BinaryOperator}
use Rattle.cx_syntax.specs.Contexts.{deeper, inside}
use Rattle.cx_syntax.specs.States.{State}
use Rattle.cx_syntax.specs.Precedence.{operator}
use Rattle.cx_productions.specs.declared.calling.Calling.{Calling}
use Rattle.cx_productions.specs.Levels.{levels}
use Rattle.cx_productions.specs.Primaries.{Operand, expr_list, int_literal, truth, group, static_cast, is_same, out, list_after, names_after, after_head, head_primary, core_primary, scalar_primary, name_alone, template_name, word_primary, simple_primary, primary}
use Rattle.cx_productions.specs.Requires.{constraint, local_after, local, local_list, maybe_locals, simple_requirement, required_member, required_core, type_requirement, result_constraint, compound_requirement, nested_requirement, requirement, requirement_list, requires_expr}
use Rattle.cx_productions.specs.Expressions.{Postfix, Chain, member_access, call, postfix_step, continues_postfix, postfix_turn, needed_call, postfix_after, postfix, prefixed, unary, chain_turn, binary_operator, binary_chain, binary_after, conditional, assignment, choice_after, expr_after, expr, expr_of}
use Rattle.cx_productions.specs.Arguments.{value_of_operand, type_of_core, core_argument_after, head_argument_after, head_argument, core_argument, scalar_argument, long_argument, const_argument, value_argument, argument}
use Rattle.cx_productions.specs.Clauses.{uncalled, head_operand, simple_operand, clause_operand, clause_operator, conjunction, clause}
use Rattle.cx_tokens.specs.declared.word.Word.TheVariants as words
use Rattle.cx_productions.specs.StatementTrees.{Return, AutoTree, Opening, OfVariable, OfExpr, StmtTree}
use Rattle.cx_productions.specs.Units.{unit_levels, statement_levels, unit}
use Rattle.cx_productions.specs.declared.calling.Calling.TheVariants as calling
use Rattle.cx_productions.specs.Statements.{concept_expr, uncalled_opening, Within, value_init, list_init, init, variable_after, auto_variable_after, auto_after, variable_of, variable_of_auto, expr_opening, whole_expr, variable_of_core, core_opening_after, head_opening_after, head_opening, core_opening, scalar_opening, typed_variable, constrained_auto, plain_auto, const_variable, variable, constexpr_variable, concept_opening, opening, stmt_of, open_stmt, message, assertion, statements, block, substatement, condition, alternative, if_stmt, while_stmt, expr_until, for_init, for_head, for_parts, for_stmt, return_stmt, jump, empty_stmt, assert_stmt, stmt}
use Rattle.cx_productions.specs.DeclarationTrees.{Specifiers, TemplateParameterTree}
use Rattle.cx_productions.specs.Declarations.{free_specifier, one_more_specifier, specifiers, maybe_name, note_maybe, parameter_after, typed_parameter, auto_parameter, constrained_parameter, const_parameter, parameter, parameters, Surroundings, maybe_clause, function_body, function_parts, function_after, constant_after, alias, variable_or_function, static_member, field_or_function, empty_member, alias_member, member, members, struct_body, struct_after, struct_decl, default_type, default_value, type_parameter, constrained_type_parameter, value_parameter, template_parameter, template_parameters, concept, specialisation, struct_template, specialised_or_new, templated_struct, function_template, templated, template_parts, template, empty_decl, assert_decl, alias_decl, decl, type_word, constant_or_function_after, field_after, field_or_function_after, function_rest, plain_parameter, static_type}
use Rattle.cx_tokens.specs.Tokens.{TokenTree}
use Rattle.cx_tokens.specs.Pieces.{First, Second, as_piece, is_first}
use Rattle.cx_names.specs.Frames.{Frames}
use Rattle.cx_syntax.specs.declared.context.OpenLists.{OpenLists}
use Rattle.cx_syntax.specs.declared.context.OpenLists.TheVariants as lists
use Rattle.cx_syntax.specs.declared.operators.BinaryOperator.TheVariants as binary
use Rattle.cx_syntax.specs.Contexts.{listed, more_lists, is_listed}
use Rattle.cx_syntax.specs.Classes.{second_half}
use Rattle.cx_syntax.specs.Precedence.{operator_of}
use Rattle.cx_productions.specs.Scalars.{scalar_word}
use Rattle.cx_productions.specs.Types.{more_names}
use Rattle.cx_productions.specs.Expressions.{operator_or_add, postfix_chain, chain_from}
use Rattle.cx_syntax_laws.proofs.Readings.{ok_value}
use Rattle.cx_syntax_laws.proofs.Firm.{Keeps}
use Rattle.cx_syntax_laws.proofs.Rules.{keeping}
use Rattle.cx_syntax_laws.proofs.Even as even
use Rattle.cx_syntax_laws.proofs.Even.{Taken, Halved, Whole_only, shift, read_value, even_bind, even_give, even_kept, even_turns, even_closed}
use Rattle.cx_syntax_laws.proofs.EvenRules.{evenness, whole_either, whole_where, whole_word}

whole_scalar_word : Whole_only scalar_word
unfolding scalar_word
whole_scalar_word = search (whole_either, whole_word)

whole_type_word : Whole_only type_word
unfolding type_word
whole_type_word = search (whole_either, whole_word)

whole_free : (s : Specifiers) → Whole_only (free_specifier s)
unfolding free_specifier
whole_free s = search (whole_either, whole_where, whole_word) depth 8

in_list : (o : OpenLists) → is_listed (more_lists o) ≡ true
in_list lists.None = refl
in_list lists.One = refl
in_list lists.Several = refl

module _ (ts : List TokenTree) (rest : List Piece) where
  abbrev Even : Bool → {A : Type 0} → Production A → Type 0
  Even out p = even.Even ts rest out p

  abbrev At_token : State → Type 0
  At_token s = even.At_token ts rest s

  abbrev Between : State → Type 0
  Between s = even.Between ts rest s

  pub record Evenly (b : Below) : Type 0 where
    pub expr : (out : Bool) (level : ℕ) (c : Context) → is_listed c.lists ≡ out → Even out (b.expr level c)
    pub argument : (out : Bool) (c : Context) → is_listed c.lists ≡ out → Even out (b.argument c)

  pub record EvenlyWithin (b : Within) : Type 0 where
    pub base : Evenly b.base
    pub stmt : (out : Bool) (c : Context) → is_listed c.lists ≡ out → Even out (b.stmt c)

  pub even_scalar_after : (out : Bool) (c : Context) (t : Piece) → is_listed c.lists ≡ out → Even out (scalar_after c t)
  unfolding scalar_after after_sign long_long maybe_int deeper inside listed
  even_scalar_after out c t given_lists = search (evenness, in_list) depth 30 fits 6000

  pub even_scalar : (out : Bool) (c : Context) → is_listed c.lists ≡ out → Even out (scalar_core c)
  unfolding scalar_core word_core long_core after_long_long maybe_int deeper inside listed
  even_scalar out c given_lists = search (even_scalar_after, whole_scalar_word, evenness, in_list) depth 30 fits 6000

  pub even_long : (out : Bool) (c : Context) → is_listed c.lists ≡ out → Even out (long_core c)
  unfolding long_core after_long_long maybe_int deeper inside listed
  even_long out c given_lists = search (evenness, in_list) depth 30 fits 6000

  pub even_names : (out : Bool) (c : Context) → is_listed c.lists ≡ out → Even out (member_names c)
  unfolding member_names member_name more_names deeper inside listed
  even_names out c given_lists = search (evenness, in_list) depth 30 fits 6000

  pub even_type_after : (out : Bool) (c : Context) (at : Place) (before : Bool) (k : Core) → is_listed c.lists ≡ out → Even out (type_after c at before k)
  unfolding type_after const_after deeper inside listed
  even_type_after out c at before k given_lists = search (evenness, in_list) depth 30 fits 6000

  -- an operator, which may be both halves of `>>`
  second_taken : (c : Context) (names : Frames) → (text : List ℕ) (at : Place) → second_half names (as_piece (shift text at) First) ≡ false
  unfolding second_half
  second_taken c names text at = refl

  abbrev sign : OpenLists → Piece → BinaryOperator
  sign o t = operator_or_add (operator_of o t)

  abbrev second_of : OpenLists → Piece → Piece → Production BinaryOperator
  second_of o t u = give (sign o t)

  abbrev sign_after : Context → Piece → Production BinaryOperator
  sign_after c t = given (is_first t.half) (token c second_half >>= second_of c.lists t) (give (sign c.lists t))

  after_whole : (c : Context) (s u : State) (t z : Piece) (y : BinaryOperator) → is_first t.half ≡ false → At_token s → (sign_after c t).read s ≡ Ok (y, u) → At_token u
  after_whole c s u t z y f a e = even.stands_as ts rest false s u (ap (λ (q : State). q.left) (ok_value (sign c.lists t) y s u (sym (ap (λ (is : Bool). if is then (token c second_half >>= second_of c.lists t).read s else Ok (sign c.lists t, s)) f) ∙ e)).1) a

  after_half : (c : Context) (s u : State) (t : Piece) (y : BinaryOperator) → is_first t.half ≡ true → Between s → (sign_after c t).read s ≡ Ok (y, u) → At_token u
  after_half c s u t y f b e =
      let d : (token c second_half >>= second_of c.lists t).read s ≡ Ok (y, u) = sym (ap (λ (is : Bool). if is then (token c second_half >>= second_of c.lists t).read s else Ok (sign c.lists t, s)) f) ∙ e in
      let w = read_value (second_of c.lists t) ((token c second_half).read s) u y d in
      even.stands_as ts rest false w.1 u (ap (λ (q : State). q.left) (ok_value (sign c.lists t) y w.1 u w.3).1) (even.taken_second ts rest c second_half s w.1 w.0 b w.2)

  operator_second : (level : ℕ) (o : OpenLists) (names : Frames) (text : List ℕ) (at : Place) → operator level o names (as_piece (shift text at) Second) ≡ false
  unfolding operator operator_of
  operator_second level o names text at = refl

  pub even_operator : (out : Bool) (level : ℕ) (c : Context) → is_listed c.lists ≡ out → Even out (binary_operator level c)
  unfolding binary_operator
  even_operator out level c m = even.even_weak ts rest out (record {
    even = λ s u y a e.
        let w = read_value (sign_after c) ((token c (operator level c.lists)).read s) u y e in
        elim (even.taken ts rest c (operator level c.lists) s w.1 w.0 a w.2) [
          | Taken z before others k f d ↦ after_whole c w.1 u w.0 w.0 y (ap (λ (p : Piece). is_first p.half) f) (record { before = before; tokens = others; split = k; left = d }) w.3
          | Halved text at before others k f d ↦ after_half c w.1 u w.0 y (ap (λ (p : Piece). is_first p.half) f) (record { text = text; at = at; before = before; tokens = others; split = k; left = d }) w.3
        ];
    stays = λ s u y b e.
        let w = read_value (sign_after c) ((token c (operator level c.lists)).read s) u y e in
        absurd (even.never_second ts rest c (operator level c.lists) (operator_second level c.lists) s w.1 w.0 b w.2);
  })

  pub even_sign : (out : Bool) (p : Punctuator) (o : BinaryOperator) (c : Context) → Even out (clause_operator p o c)
  unfolding clause_operator
  even_sign out p o c = search evenness

  -- operators and operands
  chain_even : (out : Bool) (q : Context → Class) (operator_at : Context → Production BinaryOperator) (operand : Context → Production ExprTree)
      → ((c : Context) → is_listed c.lists ≡ out → Even out (operator_at c)) → ((c : Context) → is_listed c.lists ≡ out → Even out (operand c))
      → (c : Context) (first : ExprTree) → is_listed c.lists ≡ out → Even out (chain_from q operator_at operand c first)
  unfolding chain_turn deeper
  chain_even out q operator_at operand es eo c first m =
      even_bind ts rest out (even_turns ts rest out (λ (x : Chain). q x.within) (λ (x : Chain). is_listed x.within.lists ≡ out) turn keeps (record { tree = first; within = c }) m) (λ x. even_give ts rest out x.tree)
    where
      turn : (x : Chain) → is_listed x.within.lists ≡ out → Even out (chain_turn operator_at operand x)
      turn x i = search (es, eo, evenness) depth 15

      keeps : (x : Chain) → is_listed x.within.lists ≡ out → Keeps (λ (y : Chain). is_listed y.within.lists ≡ out) (chain_turn operator_at operand x)
      keeps x i = search keeping depth 15

  module _ {b : Below} (l : Evenly b) where
    pub even_arguments : (out : Bool) (c : Context) → is_listed c.lists ≡ out → Even out (argument_list b c)
    unfolding argument_list deeper inside listed
    even_arguments out c given_lists = search (l.argument, evenness, in_list) depth 30 fits 6000

    pub even_head : (out : Bool) (c : Context) → is_listed c.lists ≡ out → Even out (head_core b c)
    unfolding head_core class_core type_name_core deeper inside listed
    even_head out c given_lists = search (even_arguments, evenness, in_list) depth 30 fits 6000

    pub even_core : (out : Bool) (c : Context) → is_listed c.lists ≡ out → Even out (core b c)
    unfolding core member_core decltype_core void_core as_type head_core class_core type_name_core deeper inside listed
    even_core out c given_lists = search (even_arguments, even_names, even_scalar, l.expr, whole_scalar_word, evenness, in_list) depth 30 fits 6000

    pub even_type : (out : Bool) (c : Context) → is_listed c.lists ≡ out → Even out (type_id b c)
    unfolding type_id const_type plain_type core member_core decltype_core void_core head_core class_core type_name_core deeper inside listed
    even_type out c given_lists = search (even_core, even_type_after, whole_scalar_word, evenness, in_list) depth 30 fits 6000

  pub even_as_type : (out : Bool) (k : Core) → Even out (as_type k)
  unfolding as_type deeper inside listed
  even_as_type out k = search (evenness, in_list) depth 30 fits 6000

  pub even_local_after : (out : Bool) (c : Context) (of : TypeTree) → is_listed c.lists ≡ out → Even out (local_after c of)
  unfolding local_after deeper inside listed
  even_local_after out c of given_lists = search (evenness, in_list) depth 30 fits 6000

  module _ {b : Below} (l : Evenly b) where
    pub even_exprs : (out : Bool) (close : Class) (c : Context) → is_listed c.lists ≡ out → Even out (expr_list close b c)
    unfolding expr_list deeper inside listed
    even_exprs out close c given_lists = search (l.expr, evenness, in_list) depth 30 fits 6000

    pub even_list_after : (out : Bool) (c : Context) (k : Core) → is_listed c.lists ≡ out → Even out (list_after b c k)
    unfolding list_after as_type deeper inside listed
    even_list_after out c k given_lists = search (even_as_type, even_exprs, evenness, in_list) depth 30 fits 6000

    pub even_after_head : (out : Bool) (c : Context) (k : Core) → is_listed c.lists ≡ out → Even out (after_head b c k)
    unfolding after_head names_after as_type deeper inside listed
    even_after_head out c k given_lists = search (even_list_after, even_as_type, even_names, evenness, in_list) depth 30 fits 6000

    pub even_template_name : (out : Bool) (kind : NameKind) (calls : Calling) (c : Context) → is_listed c.lists ≡ out → Even out (template_name kind calls b c)
    unfolding template_name deeper inside listed
    even_template_name out kind calls c given_lists = search (even_arguments, evenness, in_list) depth 30 fits 6000

    pub even_constraint : (out : Bool) (c : Context) → is_listed c.lists ≡ out → Even out (constraint b c)
    unfolding constraint deeper inside listed
    even_constraint out c given_lists = search (even_arguments, evenness, in_list) depth 30 fits 6000

    pub even_local : (out : Bool) (c : Context) → is_listed c.lists ≡ out → Even out (local b c)
    unfolding local deeper inside listed
    even_local out c given_lists = search (even_type, even_local_after, evenness, in_list) depth 30 fits 6000

    pub even_locals : (out : Bool) (c : Context) → is_listed c.lists ≡ out → Even out (local_list b c)
    unfolding local_list deeper inside listed
    even_locals out c given_lists = search (even_local, even_local_after, even_type_after, evenness, in_list) depth 30 fits 6000

    pub even_maybe_locals : (out : Bool) (c : Context) → is_listed c.lists ≡ out → Even out (maybe_locals b c)
    unfolding maybe_locals deeper inside listed
    even_maybe_locals out c given_lists = search (even_locals, evenness, in_list) depth 30 fits 6000

    pub even_required_core : (out : Bool) (c : Context) (first : Piece) → is_listed c.lists ≡ out → Even out (required_core b c first)
    unfolding required_core class_core type_name_core required_member as_type deeper inside listed
    even_required_core out c first given_lists = search (even_arguments, even_names, evenness, in_list) depth 30 fits 6000

    pub even_requirement : (out : Bool) (c : Context) → is_listed c.lists ≡ out → Even out (requirement b c)
    unfolding requirement type_requirement nested_requirement compound_requirement simple_requirement result_constraint deeper inside listed
    even_requirement out c given_lists = search (even_required_core, even_constraint, l.expr, evenness, in_list) depth 30 fits 6000

    pub even_requirements : (out : Bool) (c : Context) → is_listed c.lists ≡ out → Even out (requirement_list b c)
    unfolding requirement_list deeper inside listed
    even_requirements out c given_lists = search (even_requirement, evenness, in_list) depth 30 fits 6000

    pub even_requires : (out : Bool) (c : Context) → is_listed c.lists ≡ out → Even out (requires_expr b c)
    unfolding requires_expr deeper inside listed
    even_requires out c given_lists = search (even_maybe_locals, even_requirements, evenness, in_list) depth 30 fits 6000

    type_inside : (out : Bool) (c : Context) → Even out (type_id b (inside c))
    unfolding inside
    type_inside out c = even.even_weak ts rest out (even_type l false (inside c) refl)

    pub even_word_primary : (out : Bool) (c : Context) → is_listed c.lists ≡ out → Even out (word_primary b c)
    unfolding word_primary truth is_same out group requires_expr deeper inside listed
    even_word_primary out c given_lists = search (even_requires, even_type, l.expr, type_inside, evenness, in_list) depth 30 fits 6000

    pub even_simple : (out : Bool) (c : Context) → is_listed c.lists ≡ out → Even out (simple_primary b c)
    unfolding simple_primary int_literal template_name name_alone deeper inside listed
    even_simple out c given_lists = search (even_word_primary, even_template_name, evenness, in_list) depth 30 fits 6000

    pub even_primary : (out : Bool) (c : Context) → is_listed c.lists ≡ out → Even out (primary b c)
    unfolding primary head_primary core_primary scalar_primary static_cast deeper inside listed
    even_primary out c given_lists = search (even_simple, even_after_head, even_list_after, even_head, even_core, even_type, l.expr, whole_scalar_word, evenness, in_list) depth 30 fits 6000

    pub even_call : (out : Bool) (x : Postfix) → is_listed x.within.lists ≡ out → Even out (call b x)
    unfolding call deeper inside listed
    even_call out x given_lists = search (even_exprs, evenness, in_list) depth 30 fits 6000

    even_postfix_turn : (out : Bool) (x : Postfix) → is_listed x.within.lists ≡ out → Even out (postfix_turn b x)
    unfolding postfix_turn member_access postfix_step deeper
    even_postfix_turn out x given_lists = search (even_call, evenness) depth 30 fits 6000

    keeps_postfix_turn : (o : OpenLists) (x : Postfix) → x.within.lists ≡ o → Keeps (λ (y : Postfix). y.within.lists ≡ o) (postfix_turn b x)
    unfolding postfix_turn call member_access postfix_step deeper
    keeps_postfix_turn o x e = search keeping depth 15

    keeps_needed_call : (o : OpenLists) (x : Postfix) → x.within.lists ≡ o → Keeps (λ (y : Postfix). y.within.lists ≡ o) (needed_call b x)
    unfolding needed_call call deeper
    keeps_needed_call o x e = search keeping depth 15

    even_needed_call : (out : Bool) (x : Postfix) → is_listed x.within.lists ≡ out → Even out (needed_call b x)
    unfolding needed_call
    even_needed_call out x given_lists = search (even_call, evenness) depth 15

    even_postfix_chain : (o : OpenLists) (x : Postfix) → x.within.lists ≡ o → Even (is_listed o) (postfix_chain b x)
    even_postfix_chain o x e =
        even_turns ts rest (is_listed o) continues_postfix (λ (y : Postfix). y.within.lists ≡ o) (λ y i. even_postfix_turn (is_listed o) y (ap is_listed i)) (keeps_postfix_turn o) x e

    pub even_postfix_after : (out : Bool) (c : Context) (operand : Operand) → is_listed c.lists ≡ out → Even out (postfix_after b c operand)
    unfolding postfix_after
    even_postfix_after out c operand e =
        let x : Postfix = record { tree = operand.tree; calling = operand.calling; within = c } in
        even_kept ts rest out (λ (y : Postfix). y.within.lists ≡ c.lists) (even_needed_call out x e) (keeps_needed_call c.lists x refl)
        (λ y i. even_bind ts rest out (subst (λ (o : Bool). Even o (postfix_chain b y)) e (even_postfix_chain c.lists y i)) (λ z. even_give ts rest out z.tree))

    pub even_unary : (out : Bool) (c : Context) → is_listed c.lists ≡ out → Even out (unary b c)
    unfolding unary prefixed postfix deeper inside listed
    even_unary out c given_lists = search (even_primary, even_postfix_after, l.expr, evenness, in_list) depth 30 fits 6000

    pub even_chain : (out : Bool) (level : ℕ) (c : Context) (e : ExprTree) → is_listed c.lists ≡ out → Even out (binary_chain b level c e)
    unfolding binary_chain
    even_chain out level c e m = chain_even out (λ c. operator (suc level) c.lists) (binary_operator (suc level)) (b.expr level) (λ d i. even_operator out (suc level) d i) (λ d i. l.expr out level d i) c e m

    pub even_binary_after : (out : Bool) (level : ℕ) (c : Context) (e : ExprTree) → is_listed c.lists ≡ out → Even out (binary_after b level c e)
    unfolding binary_after
    even_binary_after out zero c e m = even_give ts rest out e
    even_binary_after out (suc level) c e m = even_bind ts rest out (even_binary_after out level c e m) (λ left. even_chain out level c left m)

    pub even_choice_after : (out : Bool) (c : Context) (e : ExprTree) → is_listed c.lists ≡ out → Even out (choice_after b c e)
    unfolding choice_after conditional assignment deeper inside listed
    even_choice_after out c e given_lists = search (l.expr, evenness, in_list) depth 30 fits 6000

    pub even_expr_after : (out : Bool) (c : Context) (e : ExprTree) → is_listed c.lists ≡ out → Even out (expr_after b c e)
    unfolding expr_after
    even_expr_after out c e m = even_bind ts rest out (even_binary_after out 10 c e m) (λ left. even_choice_after out c left m)

    pub even_expr : (out : Bool) (level : ℕ) (c : Context) → is_listed c.lists ≡ out → Even out (expr b level c)
    unfolding expr deeper inside listed
    even_expr out level c given_lists = search (even_unary, even_expr_after, even_binary_after, evenness, in_list) depth 30 fits 6000

    pub even_expr_of : (out : Bool) (c : Context) (operand : Operand) → is_listed c.lists ≡ out → Even out (expr_of b c operand)
    unfolding expr_of deeper inside listed
    even_expr_of out c operand given_lists = search (even_postfix_after, even_expr_after, evenness, in_list) depth 30 fits 6000

    pub even_argument : (out : Bool) (c : Context) → is_listed c.lists ≡ out → Even out (argument b c)
    unfolding argument value_of_operand type_of_core core_argument_after head_argument_after head_argument core_argument scalar_argument long_argument const_argument value_argument const_type deeper inside listed
    even_argument out c given_lists = search (even_expr_of, even_expr, even_type_after, even_core, even_head, even_list_after, even_after_head, even_scalar_after, even_long, whole_scalar_word, evenness, in_list) depth 30 fits 6000

    pub even_operand : (out : Bool) (c : Context) → is_listed c.lists ≡ out → Even out (clause_operand b c)
    unfolding clause_operand head_operand simple_operand uncalled names_after as_type deeper inside listed
    even_operand out c given_lists = search (even_head, even_as_type, even_names, even_simple, evenness, in_list) depth 30 fits 6000

    pub even_conjunction : (out : Bool) (c : Context) → is_listed c.lists ≡ out → Even out (conjunction b c)
    unfolding conjunction
    even_conjunction out c m =
        even_bind ts rest out (even_operand out c m) (λ first.
        chain_even out (λ c. punct punctuator.AmpersandAmpersand) (clause_operator punctuator.AmpersandAmpersand binary.And) (clause_operand b) (λ d i. even_sign out punctuator.AmpersandAmpersand binary.And d) (λ d i. even_operand out d i) c first m)

    pub even_clause : (out : Bool) (c : Context) → is_listed c.lists ≡ out → Even out (clause b c)
    unfolding clause
    even_clause out c m =
        even_bind ts rest out (even_conjunction out c m) (λ first.
        chain_even out (λ c. punct punctuator.BarBar) (clause_operator punctuator.BarBar binary.Or) (conjunction b) (λ d i. even_sign out punctuator.BarBar binary.Or d) (λ d i. even_conjunction out d i) c first m)

  pub even_auto_after : (out : Bool) (c : Context) (at : Option Place) (is_const : Bool) (k : Option ConstraintTree) → is_listed c.lists ≡ out → Even out (auto_after c at is_const k)
  unfolding auto_after deeper inside listed
  even_auto_after out c at is_const k given_lists = search (evenness, in_list) depth 30 fits 6000

  module _ {b : Below} (l : Evenly b) where
    pub even_value_init : (out : Bool) (c : Context) → is_listed c.lists ≡ out → Even out (value_init b c)
    unfolding value_init deeper inside listed
    even_value_init out c given_lists = search (even_expr, evenness, in_list) depth 30 fits 6000

    pub even_init : (out : Bool) (c : Context) → is_listed c.lists ≡ out → Even out (init b c)
    unfolding init list_init value_init deeper inside listed
    even_init out c given_lists = search (even_exprs, even_expr, evenness, in_list) depth 30 fits 6000

    pub even_variable_of : (out : Bool) (c : Context) (is_constexpr : Bool) (of : TypeTree) → is_listed c.lists ≡ out → Even out (variable_of b c is_constexpr of)
    unfolding variable_of variable_after deeper inside listed
    even_variable_of out c is_constexpr of given_lists = search (even_init, evenness, in_list) depth 30 fits 6000

    pub even_variable_of_auto : (out : Bool) (c : Context) (is_constexpr : Bool) (of : AutoTree) → is_listed c.lists ≡ out → Even out (variable_of_auto b c is_constexpr of)
    unfolding variable_of_auto auto_variable_after deeper inside listed
    even_variable_of_auto out c is_constexpr of given_lists = search (even_value_init, evenness, in_list) depth 30 fits 6000

    pub even_expr_opening : (out : Bool) (c : Context) (operand : Operand) → is_listed c.lists ≡ out → Even out (expr_opening b c operand)
    unfolding expr_opening deeper inside listed
    even_expr_opening out c operand given_lists = search (even_expr_of, evenness, in_list) depth 30 fits 6000

    pub even_constrained_auto : (out : Bool) (c : Context) (at : Option Place) (is_constexpr is_const : Bool) → is_listed c.lists ≡ out → Even out (constrained_auto b c at is_constexpr is_const)
    unfolding constrained_auto deeper inside listed
    even_constrained_auto out c at is_constexpr is_const given_lists = search (even_constraint, even_auto_after, even_variable_of_auto, evenness, in_list) depth 30 fits 6000

    pub even_plain_auto : (out : Bool) (c : Context) (at : Option Place) (is_constexpr is_const : Bool) → is_listed c.lists ≡ out → Even out (plain_auto b c at is_constexpr is_const)
    unfolding plain_auto deeper inside listed
    even_plain_auto out c at is_constexpr is_const given_lists = search (even_auto_after, even_variable_of_auto, evenness, in_list) depth 30 fits 6000

    pub even_const_variable : (out : Bool) (c : Context) (is_constexpr : Bool) → is_listed c.lists ≡ out → Even out (const_variable b c is_constexpr)
    unfolding const_variable constrained_auto plain_auto deeper inside listed
    even_const_variable out c is_constexpr given_lists = search (even_constrained_auto, even_plain_auto, even_core, even_type_after, even_variable_of, evenness, in_list) depth 30 fits 6000

    pub even_variable : (out : Bool) (c : Context) (is_constexpr : Bool) → is_listed c.lists ≡ out → Even out (variable b c is_constexpr)
    unfolding variable constrained_auto plain_auto typed_variable const_variable deeper inside listed
    even_variable out c is_constexpr given_lists = search (even_constrained_auto, even_plain_auto, even_const_variable, even_type, even_variable_of, evenness, in_list) depth 30 fits 6000

    pub even_variable_of_core : (out : Bool) (c : Context) (k : Core) → is_listed c.lists ≡ out → Even out (variable_of_core b c k)
    unfolding variable_of_core deeper inside listed
    even_variable_of_core out c k given_lists = search (even_type_after, even_variable_of, evenness, in_list) depth 30 fits 6000

    pub even_core_opening_after : (out : Bool) (c : Context) (k : Core) → is_listed c.lists ≡ out → Even out (core_opening_after b c k)
    unfolding core_opening_after deeper inside listed
    even_core_opening_after out c k given_lists = search (even_list_after, even_expr_opening, even_variable_of_core, evenness, in_list) depth 30 fits 6000

    pub even_head_opening_after : (out : Bool) (c : Context) (k : Core) → is_listed c.lists ≡ out → Even out (head_opening_after b c k)
    unfolding head_opening_after deeper inside listed
    even_head_opening_after out c k given_lists = search (even_after_head, even_expr_opening, even_variable_of_core, evenness, in_list) depth 30 fits 6000

    pub even_scalar_after_word : (out : Bool) (c : Context) (t : Piece) → is_listed c.lists ≡ out → Even out (when (punct punctuator.LeftBrace) (list_after b c (scalar_at t (scalar_of_word t)) >>= (λ operand. uncalled_opening b c operand)) (scalar_after (deeper c) t >>= (λ s. variable_of_core b c (scalar_at t s))))
    unfolding deeper inside listed
    even_scalar_after_word out c t given_lists = search (even_list_after, even_expr_opening, even_scalar_after, even_variable_of_core, evenness, in_list) depth 30 fits 6000

    pub even_scalar_opening : (out : Bool) (c : Context) → is_listed c.lists ≡ out → Even out (scalar_opening b c)
    unfolding scalar_opening deeper inside listed
    even_scalar_opening out c given_lists = search (even_scalar_after_word, whole_scalar_word, evenness, in_list) depth 30 fits 6000

    pub even_concept_after : (out : Bool) (c : Context) (k : ConstraintTree) → is_listed c.lists ≡ out → Even out (when (word words.Auto) (auto_after c (Some k.mark.at) false (Some k) >>= (λ a. variable_of_auto b c false a)) (expr_opening b c (record { tree = concept_expr k; calling = calling.May })))
    unfolding deeper inside listed
    even_concept_after out c k given_lists = search (even_auto_after, even_variable_of_auto, even_expr_opening, evenness, in_list) depth 30 fits 6000

    pub even_concept_opening : (out : Bool) (c : Context) → is_listed c.lists ≡ out → Even out (concept_opening b c)
    unfolding concept_opening deeper inside listed
    even_concept_opening out c given_lists = search (even_constraint, even_concept_after, evenness, in_list) depth 30 fits 6000

    pub even_constexpr_variable : (out : Bool) (c : Context) → is_listed c.lists ≡ out → Even out (constexpr_variable b c)
    unfolding constexpr_variable deeper inside listed
    even_constexpr_variable out c given_lists = search (even_variable, evenness, in_list) depth 30 fits 6000

    pub even_head_opening : (out : Bool) (c : Context) → is_listed c.lists ≡ out → Even out (head_opening b c)
    unfolding head_opening deeper inside listed
    even_head_opening out c given_lists = search (even_head, even_head_opening_after, evenness, in_list) depth 30 fits 6000

    pub even_core_opening : (out : Bool) (c : Context) → is_listed c.lists ≡ out → Even out (core_opening b c)
    unfolding core_opening deeper inside listed
    even_core_opening out c given_lists = search (even_core, even_core_opening_after, evenness, in_list) depth 30 fits 6000

    pub even_typed_variable : (out : Bool) (c : Context) (is_constexpr : Bool) → is_listed c.lists ≡ out → Even out (typed_variable b c is_constexpr)
    unfolding typed_variable deeper inside listed
    even_typed_variable out c is_constexpr given_lists = search (even_type, even_variable_of, evenness, in_list) depth 30 fits 6000

    pub even_whole_expr : (out : Bool) (c : Context) → is_listed c.lists ≡ out → Even out (whole_expr b c)
    unfolding whole_expr deeper inside listed
    even_whole_expr out c given_lists = search (even_expr, evenness, in_list) depth 30 fits 6000

    pub even_opening : (out : Bool) (c : Context) → is_listed c.lists ≡ out → Even out (opening b c)
    unfolding opening deeper inside listed
    even_opening out c given_lists = search (even_constexpr_variable, even_const_variable, even_plain_auto, even_concept_opening, even_head_opening, even_core_opening, even_scalar_opening, even_typed_variable, even_whole_expr, evenness, in_list) depth 30 fits 6000

    pub even_stmt_of : (out : Bool) (o : Opening) → Even out (stmt_of o)
    unfolding stmt_of deeper inside listed
    even_stmt_of out (OfVariable v) = search (evenness, in_list) depth 30 fits 6000
    even_stmt_of out (OfExpr e) = search (evenness, in_list) depth 30 fits 6000

    pub even_assertion : (out : Bool) (c : Context) → is_listed c.lists ≡ out → Even out (assertion b c)
    unfolding assertion message deeper inside listed
    even_assertion out c given_lists = search (l.expr, evenness, in_list, even.even_weak) depth 30 fits 6000

    pub even_condition : (out : Bool) (c : Context) → is_listed c.lists ≡ out → Even out (condition b c)
    unfolding condition deeper inside listed
    even_condition out c given_lists = search (l.expr, evenness, in_list) depth 30 fits 6000

    pub even_expr_until : (out : Bool) (after : Punctuator) (c : Context) → is_listed c.lists ≡ out → Even out (expr_until after b c)
    unfolding expr_until deeper inside listed
    even_expr_until out after c given_lists = search (even_expr, evenness, in_list) depth 30 fits 6000

    pub even_for_init : (out : Bool) (c : Context) → is_listed c.lists ≡ out → Even out (for_init b c)
    unfolding for_init deeper inside listed
    even_for_init out c given_lists = search (even_opening, evenness, in_list) depth 30 fits 6000

    pub even_for_head : (out : Bool) (c : Context) → is_listed c.lists ≡ out → Even out (for_head b c)
    unfolding for_head deeper inside listed
    even_for_head out c given_lists = search (even_for_init, even_expr_until, evenness, in_list) depth 30 fits 6000

    pub even_return_value : (out : Bool) (c : Context) (at : Place) → is_listed c.lists ≡ out → Even out (expr_until punctuator.Semicolon b c >>= (λ e. token c (punct punctuator.Semicolon) >>= (λ semicolon. node >>= (λ n. give (Return (mark n at) e)))))
    unfolding deeper inside listed
    even_return_value out c at given_lists = search (even_expr_until, evenness, in_list) depth 30 fits 6000

    pub even_return : (out : Bool) (c : Context) → is_listed c.lists ≡ out → Even out (return_stmt b c)
    unfolding return_stmt deeper inside listed
    even_return out c given_lists = search (even_return_value, evenness, in_list) depth 30 fits 6000

  pub even_empty : (out : Bool) (c : Context) → is_listed c.lists ≡ out → Even out (empty_stmt c)
  unfolding empty_stmt deeper inside listed
  even_empty out c given_lists = search (evenness, in_list) depth 30 fits 6000

  pub even_jump : (out : Bool) (w : Word) (make : Mark → StmtTree) (c : Context) → is_listed c.lists ≡ out → Even out (jump w make c)
  unfolding jump deeper inside listed
  even_jump out w make c given_lists = search (evenness, in_list) depth 30 fits 6000

  module _ {b : Within} (l : EvenlyWithin b) where
    pub even_statements : (out : Bool) (c : Context) → is_listed c.lists ≡ out → Even out (statements b c)
    unfolding statements deeper inside listed
    even_statements out c given_lists = search (l.stmt, l.base, evenness, in_list) depth 30 fits 6000

    pub even_block : (out : Bool) (c : Context) → is_listed c.lists ≡ out → Even out (block b c)
    unfolding block deeper inside listed
    even_block out c given_lists = search (even_statements, l.base, evenness, in_list) depth 30 fits 6000

    pub even_substatement : (out : Bool) (c : Context) → is_listed c.lists ≡ out → Even out (substatement b c)
    unfolding substatement deeper inside listed
    even_substatement out c given_lists = search (l.stmt, l.base, evenness, in_list) depth 30 fits 6000

    pub even_alternative : (out : Bool) (c : Context) (at : Place) (is_constexpr : Bool) (test : ExprTree) (chosen : StmtTree) → is_listed c.lists ≡ out → Even out (alternative b c at is_constexpr test chosen)
    unfolding alternative deeper inside listed
    even_alternative out c at is_constexpr test chosen given_lists = search (even_substatement, l.base, evenness, in_list) depth 30 fits 6000

    pub even_if : (out : Bool) (c : Context) → is_listed c.lists ≡ out → Even out (if_stmt b c)
    unfolding if_stmt deeper inside listed
    even_if out c given_lists = search (even_condition, l.base, even_substatement, even_alternative, evenness, in_list) depth 30 fits 6000

    pub even_while : (out : Bool) (c : Context) → is_listed c.lists ≡ out → Even out (while_stmt b c)
    unfolding while_stmt deeper inside listed
    even_while out c given_lists = search (even_condition, l.base, even_substatement, evenness, in_list) depth 30 fits 6000

    pub even_for_scope : (out : Bool) (c : Context) (at : Place) → is_listed c.lists ≡ out → Even out (in_scope (for_parts b c at))
    unfolding for_parts deeper inside listed
    even_for_scope out c at given_lists = search (even_for_head, l.base, even_substatement, evenness, in_list) depth 30 fits 6000

    pub even_for : (out : Bool) (c : Context) → is_listed c.lists ≡ out → Even out (for_stmt b c)
    unfolding for_stmt deeper inside listed
    even_for out c given_lists = search (even_for_scope, l.base, evenness, in_list) depth 30 fits 6000

    pub even_assert : (out : Bool) (c : Context) → is_listed c.lists ≡ out → Even out (assert_stmt b.base c)
    unfolding assert_stmt deeper inside listed
    even_assert out c given_lists = search (even_assertion, l.base, evenness, in_list) depth 30 fits 6000

    pub even_open_stmt : (out : Bool) (c : Context) → is_listed c.lists ≡ out → Even out (open_stmt b.base c)
    unfolding open_stmt deeper inside listed
    even_open_stmt out c given_lists = search (even_opening, even_stmt_of, l.base, evenness, in_list) depth 30 fits 6000

    pub even_stmt : (out : Bool) (c : Context) → is_listed c.lists ≡ out → Even out (stmt b c)
    unfolding stmt deeper inside listed
    even_stmt out c given_lists = search (even_empty, even_block, even_assert, even_jump, even_return, even_if, even_while, even_for, even_open_stmt, l.base, evenness, in_list) depth 30 fits 6000

  pub even_specifiers : (out : Bool) (c : Context) (s : Specifiers) → is_listed c.lists ≡ out → Even out (specifiers c s)
  unfolding specifiers one_more_specifier deeper inside listed
  even_specifiers out c s given_lists = search (whole_free, evenness, in_list) depth 30 fits 6000

  pub even_maybe_name : (out : Bool) (c : Context) → is_listed c.lists ≡ out → Even out (maybe_name c)
  unfolding maybe_name deeper inside listed
  even_maybe_name out c given_lists = search (evenness, in_list) depth 30 fits 6000

  pub even_note_maybe : (out : Bool) (kind : NameKind) (name : Option Piece) → Even out (note_maybe kind name)
  unfolding note_maybe deeper inside listed
  even_note_maybe out kind None = search (evenness, in_list) depth 30 fits 6000
  even_note_maybe out kind (Some t) = search (evenness, in_list) depth 30 fits 6000

  pub even_typed_parameter : (out : Bool) (c : Context) (of : TypeTree) → is_listed c.lists ≡ out → Even out (typed_parameter c of)
  unfolding typed_parameter parameter_after deeper inside listed
  even_typed_parameter out c of given_lists = search (even_maybe_name, even_note_maybe, evenness, in_list) depth 30 fits 6000

  pub even_auto_parameter : (out : Bool) (c : Context) (at : Option Place) (is_const : Bool) (k : Option ConstraintTree) → is_listed c.lists ≡ out → Even out (auto_parameter c at is_const k)
  unfolding auto_parameter parameter_after deeper inside listed
  even_auto_parameter out c at is_const k given_lists = search (even_auto_after, even_maybe_name, even_note_maybe, evenness, in_list) depth 30 fits 6000

  module _ {b : Below} (l : Evenly b) where
    pub even_constrained_parameter : (out : Bool) (c : Context) (at : Option Place) (is_const : Bool) → is_listed c.lists ≡ out → Even out (constrained_parameter b c at is_const)
    unfolding constrained_parameter deeper inside listed
    even_constrained_parameter out c at is_const given_lists = search (even_constraint, even_auto_parameter, evenness, in_list) depth 30 fits 6000

    pub even_const_parameter : (out : Bool) (autos : Bool) (c : Context) → is_listed c.lists ≡ out → Even out (const_parameter autos b c)
    unfolding const_parameter deeper inside listed
    even_const_parameter out autos c given_lists = search (even_constrained_parameter, even_auto_parameter, even_typed_parameter, even_core, even_type_after, evenness, in_list) depth 30 fits 6000

    pub even_parameter : (out : Bool) (autos : Bool) (c : Context) → is_listed c.lists ≡ out → Even out (parameter autos b c)
    unfolding parameter plain_parameter deeper inside listed
    even_parameter out autos c given_lists = search (even_const_parameter, even_constrained_parameter, even_auto_parameter, even_typed_parameter, even_type, evenness, in_list) depth 30 fits 6000

    pub even_function_parameters : (out : Bool) (autos : Bool) (c : Context) → is_listed c.lists ≡ out → Even out (parameters autos b c)
    unfolding parameters deeper inside listed
    even_function_parameters out autos c given_lists = search (even_typed_parameter, even_parameter, even_type_after, evenness, in_list) depth 30 fits 6000

    pub even_maybe_clause : (out : Bool) (templated : Bool) (c : Context) → is_listed c.lists ≡ out → Even out (maybe_clause templated b c)
    unfolding maybe_clause deeper inside listed
    even_maybe_clause out templated c given_lists = search (even_clause, evenness, in_list) depth 30 fits 6000

    pub even_constant_after : (out : Bool) (c : Context) (s : Specifiers) (of : TypeTree) (name : Piece) → is_listed c.lists ≡ out → Even out (constant_after b c s of name)
    unfolding constant_after deeper inside listed
    even_constant_after out c s of name given_lists = search (even_init, evenness, in_list) depth 30 fits 6000

    pub even_alias : (out : Bool) (c : Context) → is_listed c.lists ≡ out → Even out (alias b c)
    unfolding alias deeper inside listed
    even_alias out c given_lists = search (even_type, evenness, in_list) depth 30 fits 6000

    pub even_static_type : (out : Bool) (is : Bool) (c : Context) → is_listed c.lists ≡ out → Even out (given is (type_id b c) (token c nothing >>= (λ t. type_id b c)))
    unfolding deeper inside listed
    even_static_type out is c given_lists = search (even_type, evenness, in_list) depth 30 fits 6000

    pub even_static : (out : Bool) (c : Context) → is_listed c.lists ≡ out → Even out (static_member b c)
    unfolding static_member static_type deeper inside listed
    even_static out c given_lists = search (even_static_type, even_specifiers, even_constant_after, evenness, in_list) depth 30 fits 6000

    pub even_alias_member : (out : Bool) (c : Context) → is_listed c.lists ≡ out → Even out (alias_member b c)
    unfolding alias_member deeper inside listed
    even_alias_member out c given_lists = search (even_alias, evenness, in_list) depth 30 fits 6000

    pub even_default_type : (out : Bool) (c : Context) → is_listed c.lists ≡ out → Even out (default_type b c)
    unfolding default_type deeper inside listed
    even_default_type out c given_lists = search (even_type, evenness, in_list) depth 30 fits 6000

    pub even_default_value : (out : Bool) (c : Context) → is_listed c.lists ≡ out → Even out (default_value b c)
    unfolding default_value deeper inside listed
    even_default_value out c given_lists = search (even_expr, evenness, in_list) depth 30 fits 6000

    pub even_template_parameter : (out : Bool) (c : Context) → is_listed c.lists ≡ out → Even out (template_parameter b c)
    unfolding template_parameter type_parameter constrained_type_parameter value_parameter deeper inside listed
    even_template_parameter out c given_lists = search (even_default_type, even_default_value, even_maybe_name, even_note_maybe, even_constraint, even_scalar, whole_type_word, evenness, in_list) depth 30 fits 6000

    pub even_template_parameters : (out : Bool) (c : Context) → is_listed c.lists ≡ out → Even out (template_parameters b c)
    unfolding template_parameters deeper inside listed
    even_template_parameters out c given_lists = search (even_template_parameter, evenness, in_list) depth 30 fits 6000

    pub even_concept : (out : Bool) (c : Context) → is_listed c.lists ≡ out → Even out (concept b c)
    unfolding concept deeper inside listed
    even_concept out c given_lists = search (even_expr, evenness, in_list) depth 30 fits 6000

    pub even_assert_decl : (out : Bool) (c : Context) → is_listed c.lists ≡ out → Even out (assert_decl b c)
    unfolding assert_decl deeper inside listed
    even_assert_decl out c given_lists = search (even_assertion, evenness, in_list) depth 30 fits 6000

    pub even_alias_decl : (out : Bool) (c : Context) → is_listed c.lists ≡ out → Even out (alias_decl b c)
    unfolding alias_decl deeper inside listed
    even_alias_decl out c given_lists = search (even_alias, evenness, in_list) depth 30 fits 6000

  module _ {b : Within} (l : EvenlyWithin b) where
    pub even_function_body : (out : Bool) (c : Context) → is_listed c.lists ≡ out → Even out (function_body b c)
    unfolding function_body deeper inside listed
    even_function_body out c given_lists = search (even_block, l.base, evenness, in_list) depth 30 fits 6000

    pub even_function_after : (out : Bool) (s : Surroundings) (c : Context) (k : Specifiers) (of : TypeTree) (name : Piece) → is_listed c.lists ≡ out → Even out (function_after s b c k of name)
    unfolding function_after function_parts function_rest deeper inside listed
    even_function_after out s c k of name given_lists = search (even_function_parameters, even_maybe_clause, even_function_body, l.base, whole_where, whole_word, evenness, in_list) depth 30 fits 6000

    pub even_variable_or_function : (out : Bool) (c : Context) → is_listed c.lists ≡ out → Even out (variable_or_function b c)
    unfolding variable_or_function constant_or_function_after deeper inside listed
    even_variable_or_function out c given_lists = search (even_specifiers, even_type, even_constant_after, even_function_after, l.base, evenness, in_list) depth 30 fits 6000

    pub even_field_or_function : (out : Bool) (templated : Bool) (c : Context) → is_listed c.lists ≡ out → Even out (field_or_function templated b c)
    unfolding field_or_function field_or_function_after field_after deeper inside listed
    even_field_or_function out templated c given_lists = search (even_specifiers, even_type, even_function_after, l.base, evenness, in_list) depth 30 fits 6000

    pub even_member : (out : Bool) (templated : Bool) (c : Context) → is_listed c.lists ≡ out → Even out (member templated b c)
    unfolding member empty_member deeper inside listed
    even_member out templated c given_lists = search (even_alias_member, even_static, even_field_or_function, l.base, evenness, in_list) depth 30 fits 6000

    pub even_members : (out : Bool) (templated : Bool) (c : Context) → is_listed c.lists ≡ out → Even out (members templated b c)
    unfolding members deeper inside listed
    even_members out templated c given_lists = search (even_member, l.base, evenness, in_list) depth 30 fits 6000

    pub even_struct_after : (out : Bool) (templated : Bool) (c : Context) (name : Piece) → is_listed c.lists ≡ out → Even out (struct_after templated b c name)
    unfolding struct_after struct_body deeper inside listed
    even_struct_after out templated c name given_lists = search (even_members, l.base, evenness, in_list) depth 30 fits 6000

    pub even_struct : (out : Bool) (c : Context) → is_listed c.lists ≡ out → Even out (struct_decl b c)
    unfolding struct_decl deeper inside listed
    even_struct out c given_lists = search (even_struct_after, l.base, evenness, in_list) depth 30 fits 6000

    pub even_specialisation : (out : Bool) (full : Bool) (c : Context) (name : Piece) → is_listed c.lists ≡ out → Even out (specialisation full b c name)
    unfolding specialisation deeper inside listed
    even_specialisation out full c name given_lists = search (even_arguments, even_struct_after, l.base, evenness, in_list) depth 30 fits 6000

    pub even_struct_template : (out : Bool) (c : Context) (name : Piece) → is_listed c.lists ≡ out → Even out (struct_template b c name)
    unfolding struct_template deeper inside listed
    even_struct_template out c name given_lists = search (even_struct_after, l.base, evenness, in_list) depth 30 fits 6000

    pub even_templated_struct : (out : Bool) (full : Bool) (c : Context) → is_listed c.lists ≡ out → Even out (templated_struct full b c)
    unfolding templated_struct specialised_or_new deeper inside listed
    even_templated_struct out full c given_lists = search (even_specialisation, even_struct_template, l.base, evenness, in_list) depth 30 fits 6000

    pub even_function_template : (out : Bool) (c : Context) → is_listed c.lists ≡ out → Even out (function_template b c)
    unfolding function_template deeper inside listed
    even_function_template out c given_lists = search (even_specifiers, even_type, even_function_after, l.base, evenness, in_list) depth 30 fits 6000

    pub even_templated : (out : Bool) (ps : List TemplateParameterTree) (has_clause : Bool) (c : Context) → is_listed c.lists ≡ out → Even out (templated ps has_clause b c)
    unfolding templated deeper inside listed
    even_templated out ps has_clause c given_lists = search (even_templated_struct, even_concept, even_function_template, l.base, evenness, in_list) depth 30 fits 6000

    pub even_template_parts : (out : Bool) (c : Context) → is_listed c.lists ≡ out → Even out (template_parts b c)
    unfolding template_parts deeper inside listed
    even_template_parts out c given_lists = search (even_template_parameters, even_maybe_clause, even_templated, l.base, evenness, in_list) depth 30 fits 6000

    pub even_template : (out : Bool) (c : Context) → is_listed c.lists ≡ out → Even out (template b c)
    unfolding template deeper inside listed
    even_template out c given_lists = search (even_template_parts, l.base, evenness, in_list) depth 30 fits 6000

    pub even_decl : (out : Bool) (c : Context) → is_listed c.lists ≡ out → Even out (decl b c)
    unfolding decl empty_decl deeper inside listed
    even_decl out c given_lists = search (even_assert_decl, even_alias_decl, even_struct, even_template, even_variable_or_function, l.base, evenness, in_list) depth 30 fits 6000

    pub even_unit : (out : Bool) (c : Context) → is_listed c.lists ≡ out → Even out (unit b c)
    unfolding unit deeper inside listed
    even_unit out c given_lists = search (even_decl, l.base, evenness, in_list) depth 30 fits 6000

  pub evenly_levels : (n : ℕ) → Evenly (levels n)
  unfolding levels
  evenly_levels zero = record { expr = λ out level c m. even_closed ts rest out ExprTree; argument = λ out c m. even_closed ts rest out ArgumentTree }
  evenly_levels (suc n) = record { expr = even_expr (evenly_levels n); argument = even_argument (evenly_levels n) }

  pub within_evenly : (n : ℕ) → EvenlyWithin (unit_levels n)
  unfolding statement_levels
  within_evenly zero = record { base = evenly_levels zero; stmt = λ out c m. even_closed ts rest out StmtTree }
  within_evenly (suc n) = record { base = evenly_levels (suc n); stmt = even_stmt (within_evenly n) }
