-- The nodes of types, expressions, arguments and clauses are numbered without a gap.
use Rattle.std.proofs.Common.{◌≡◌, ℕ, zero, suc, Bool, false, List, [], ◌∷◌, ◌++◌, Some, None, refl, sym, ap, ◌∙◌, append_assoc, append-nil}
use Rattle.cx_base.specs.declared.place.Place.{Place}
use Rattle.cx_base.specs.declared.value.Scalar.{Scalar}
use Rattle.cx_tokens.specs.declared.punctuator.Punctuator.TheVariants as punctuator
use Rattle.cx_tokens.specs.Pieces.{Piece}
use Rattle.cx_syntax.specs.declared.context.Context.{Context}
use Rattle.cx_syntax.specs.Productions.{Production, Class, ◌>>=◌, give}
use Rattle.cx_syntax.specs.Classes.{punct, word, any_but}
use Rattle.cx_productions.specs.Trees.{ExprTree, TypeTree, ArgumentTree, LocalTree, RequirementTree}
use Rattle.cx_productions.specs.Below.{Below}
use Rattle.cx_productions.specs.Scalars.{Core, maybe_int, long_long, after_sign, scalar_after, word_core, after_long_long, long_core, scalar_core}
use Rattle.cx_productions.specs.Types.{argument_list, member_name, more_names, member_names, as_type, class_core, type_name_core, head_core, member_core, decltype_core, void_core, core, const_after, type_after, const_type, plain_type, type_id, void_at}
use Rattle.cx_tokens.specs.declared.word.Word.TheVariants as word'
use Rattle.cx_tokens.specs.declared.punctuator.Punctuator.{Punctuator}
use Rattle.cx_names.specs.declared.name_kind.NameKind.{NameKind}
use Rattle.cx_syntax.specs.declared.operators.BinaryOperator.{BinaryOperator}
use Rattle.cx_syntax.specs.Contexts.{deeper}
use Rattle.cx_syntax.specs.Precedence.{expression_level, operator}
use Rattle.cx_productions.specs.declared.calling.Calling.{Calling}
use Rattle.cx_productions.specs.Levels.{levels}
use Rattle.cx_productions.specs.Primaries.{Operand, expr_list, int_literal, truth, group, static_cast, is_same, out, list_after, names_after, after_head, head_primary, core_primary, scalar_primary, name_alone, template_name, word_primary, simple_primary, primary}
use Rattle.cx_productions.specs.Requires.{constraint, local_after, local, local_list, maybe_locals, simple_requirement, required_member, required_core, type_requirement, result_constraint, compound_requirement, nested_requirement, requirement, requirement_list, requires_expr}
use Rattle.cx_productions.specs.Expressions.{Postfix, Chain, member_access, call, postfix_step, continues_postfix, postfix_turn, needed_call, postfix_after, postfix, prefixed, unary, chain_turn, binary_operator, binary_chain, binary_after, conditional, assignment, choice_after, expr_after, expr, expr_of}
use Rattle.cx_productions.specs.Arguments.{value_of_operand, type_of_core, core_argument_after, head_argument_after, head_argument, core_argument, scalar_argument, long_argument, const_argument, value_argument, argument}
use Rattle.cx_productions.specs.Clauses.{uncalled, head_operand, simple_operand, clause_operand, clause_operator, conjunction, clause}
use Rattle.cx_syntax.specs.declared.operators.BinaryOperator.TheVariants as binary
use Rattle.cx_syntax.specs.Contexts.{listed}
use Rattle.cx_syntax.specs.Classes.{closing}
use Rattle.cx_productions.specs.Trees.{Mark, mark, exprs, arguments, locals, requirements, TypeArgument, ValueArgument, SimpleRequirement, TypeRequirement, CompoundRequirement, NestedRequirement, ConstraintTree}
use Rattle.cx_productions.specs.Nodes.{expr_nodes, exprs_nodes, type_nodes, core_nodes, argument_nodes, locals_nodes, requirements_nodes}
use Rattle.cx_productions.specs.StatementNodes.{constraint_nodes}
use Rattle.cx_productions.specs.Scalars.{scalar_at}
use Rattle.cx_productions.specs.Trees.{place_of}
use Rattle.cx_productions.specs.Types.{more_names}
use Rattle.cx_productions.specs.Expressions.{chain_from}
use Rattle.cx_syntax_laws.proofs.Numbering.{Numbered, Silent, silence, numbering, then_own, then_using, then_silent, token_then, node_then, counted_then, numbered_give, numbered_when, numbered_closed, numbered_repeat, numbered_separated, numbered_separated_after, numbered_items, numbered_from}

abbrev pub numbers : List Mark → List ℕ
numbers [] = []
numbers (m ∷ ms) = m.node ∷ numbers ms

pub numbers_both : (a b : List Mark) → numbers (a ++ b) ≡ numbers a ++ numbers b
numbers_both [] b = refl
numbers_both (m ∷ a) b = ap (λ (l : List ℕ). m.node ∷ l) (numbers_both a b)

-- one part and a node; two, three, four
pub one_part : (a : List Mark) (m : Mark) → numbers (a ++ m ∷ []) ≡ numbers a ++ m.node ∷ []
one_part a m = numbers_both a (m ∷ [])

pub two_parts : (a b : List Mark) (m : Mark) → numbers ((a ++ b) ++ m ∷ []) ≡ (numbers a ++ numbers b) ++ m.node ∷ []
two_parts a b m = one_part (a ++ b) m ∙ ap (λ (l : List ℕ). l ++ m.node ∷ []) (numbers_both a b)

pub three_parts : (a b c : List Mark) (m : Mark) → numbers (((a ++ b) ++ c) ++ m ∷ []) ≡ ((numbers a ++ numbers b) ++ numbers c) ++ m.node ∷ []
three_parts a b c m = two_parts (a ++ b) c m ∙ ap (λ (l : List ℕ). (l ++ numbers c) ++ m.node ∷ []) (numbers_both a b)

pub two_nodes : (a : List Mark) (m : Mark) (n : ℕ) → numbers (a ++ m ∷ []) ++ n ∷ [] ≡ (numbers a ++ m.node ∷ []) ++ n ∷ []
two_nodes a m n = ap (λ (l : List ℕ). l ++ n ∷ []) (one_part a m)

pub ruleset counting = (two_nodes, one_part, two_parts, three_parts)

-- ---- lists

abbrev pub argument_numbers : ArgumentTree → List ℕ
argument_numbers (TypeArgument t) = numbers (type_nodes t)
argument_numbers (ValueArgument e) = numbers (expr_nodes e)

abbrev pub local_numbers : LocalTree → List ℕ
local_numbers x = numbers (type_nodes x.type) ++ x.mark.node ∷ []

abbrev pub requirement_numbers : RequirementTree → List ℕ
requirement_numbers (SimpleRequirement m e) = numbers (expr_nodes e) ++ m.node ∷ []
requirement_numbers (TypeRequirement m t) = numbers (type_nodes t) ++ m.node ∷ []
requirement_numbers (CompoundRequirement m e None) = numbers (expr_nodes e) ++ m.node ∷ []
requirement_numbers (CompoundRequirement m e (Some k)) = (numbers (expr_nodes e) ++ numbers (constraint_nodes k)) ++ m.node ∷ []
requirement_numbers (NestedRequirement m e) = numbers (expr_nodes e) ++ m.node ∷ []

one_expr : (x : ExprTree) → numbers (exprs_nodes (exprs (x ∷ []))) ≡ numbers (expr_nodes x)
one_expr x = ap numbers (append-nil (expr_nodes x))

last_expr : (xs : List ExprTree) (x : ExprTree) → numbers (exprs_nodes (exprs (xs ++ x ∷ []))) ≡ numbers (exprs_nodes (exprs xs)) ++ numbers (expr_nodes x)
last_expr [] x = one_expr x
last_expr (y ∷ ys) x =
    numbers_both (expr_nodes y) (exprs_nodes (exprs (ys ++ x ∷ []))) ∙ ap (λ (l : List ℕ). numbers (expr_nodes y) ++ l) (last_expr ys x)
    ∙ sym (append_assoc (numbers (expr_nodes y)) (numbers (exprs_nodes (exprs ys))) (numbers (expr_nodes x)))
    ∙ ap (λ (l : List ℕ). l ++ numbers (expr_nodes x)) (sym (numbers_both (expr_nodes y) (exprs_nodes (exprs ys))))

argument_first : (a : ArgumentTree) (as' : List ArgumentTree) → numbers (argument_nodes (arguments (a ∷ as'))) ≡ argument_numbers a ++ numbers (argument_nodes (arguments as'))
argument_first (TypeArgument t) as' = numbers_both (type_nodes t) (argument_nodes (arguments as'))
argument_first (ValueArgument e) as' = numbers_both (expr_nodes e) (argument_nodes (arguments as'))

one_argument : (x : ArgumentTree) → numbers (argument_nodes (arguments (x ∷ []))) ≡ argument_numbers x
one_argument x = argument_first x [] ∙ append-nil (argument_numbers x)

last_argument : (xs : List ArgumentTree) (x : ArgumentTree) → numbers (argument_nodes (arguments (xs ++ x ∷ []))) ≡ numbers (argument_nodes (arguments xs)) ++ argument_numbers x
last_argument [] x = one_argument x
last_argument (y ∷ ys) x =
    argument_first y (ys ++ x ∷ []) ∙ ap (λ (l : List ℕ). argument_numbers y ++ l) (last_argument ys x)
    ∙ sym (append_assoc (argument_numbers y) (numbers (argument_nodes (arguments ys))) (argument_numbers x)) ∙ ap (λ (l : List ℕ). l ++ argument_numbers x) (sym (argument_first y ys))

local_first : (p : LocalTree) (ps : List LocalTree) → numbers (locals_nodes (locals (p ∷ ps))) ≡ local_numbers p ++ numbers (locals_nodes (locals ps))
local_first p ps = numbers_both (type_nodes p.type) (p.mark ∷ locals_nodes (locals ps)) ∙ sym (append_assoc (numbers (type_nodes p.type)) (p.mark.node ∷ []) (numbers (locals_nodes (locals ps))))

one_local : (x : LocalTree) → numbers (locals_nodes (locals (x ∷ []))) ≡ local_numbers x
one_local x = local_first x [] ∙ append-nil (local_numbers x)

last_local : (xs : List LocalTree) (x : LocalTree) → numbers (locals_nodes (locals (xs ++ x ∷ []))) ≡ numbers (locals_nodes (locals xs)) ++ local_numbers x
last_local [] x = one_local x
last_local (y ∷ ys) x =
    local_first y (ys ++ x ∷ []) ∙ ap (λ (l : List ℕ). local_numbers y ++ l) (last_local ys x)
    ∙ sym (append_assoc (local_numbers y) (numbers (locals_nodes (locals ys))) (local_numbers x)) ∙ ap (λ (l : List ℕ). l ++ local_numbers x) (sym (local_first y ys))

part_first : (a : List Mark) (m : Mark) (others : List Mark) → numbers (a ++ m ∷ others) ≡ (numbers a ++ m.node ∷ []) ++ numbers others
part_first a m others = numbers_both a (m ∷ others) ∙ sym (append_assoc (numbers a) (m.node ∷ []) (numbers others))

constrained_first : (e a : List Mark) (k m : Mark) (others : List Mark) → numbers ((e ++ a) ++ k ∷ m ∷ others) ≡ ((numbers e ++ numbers (a ++ k ∷ [])) ++ m.node ∷ []) ++ numbers others
constrained_first e a k m others =
    ap numbers (sym (append_assoc (e ++ a) (k ∷ []) (m ∷ others))) ∙ part_first ((e ++ a) ++ k ∷ []) m others
    ∙ ap (λ (l : List ℕ). (l ++ m.node ∷ []) ++ numbers others) (ap numbers (append_assoc e a (k ∷ [])) ∙ numbers_both e (a ++ k ∷ []))

requirement_first : (r : RequirementTree) (rs : List RequirementTree) → numbers (requirements_nodes (requirements (r ∷ rs))) ≡ requirement_numbers r ++ numbers (requirements_nodes (requirements rs))
requirement_first (SimpleRequirement m e) rs = part_first (expr_nodes e) m (requirements_nodes (requirements rs))
requirement_first (TypeRequirement m t) rs = part_first (type_nodes t) m (requirements_nodes (requirements rs))
requirement_first (CompoundRequirement m e None) rs = part_first (expr_nodes e) m (requirements_nodes (requirements rs))
requirement_first (CompoundRequirement m e (Some k)) rs = constrained_first (expr_nodes e) (argument_nodes k.args) k.mark m (requirements_nodes (requirements rs))
requirement_first (NestedRequirement m e) rs = part_first (expr_nodes e) m (requirements_nodes (requirements rs))

one_requirement : (x : RequirementTree) → numbers (requirements_nodes (requirements (x ∷ []))) ≡ requirement_numbers x
one_requirement x = requirement_first x [] ∙ append-nil (requirement_numbers x)

last_requirement : (xs : List RequirementTree) (x : RequirementTree) → numbers (requirements_nodes (requirements (xs ++ x ∷ []))) ≡ numbers (requirements_nodes (requirements xs)) ++ requirement_numbers x
last_requirement [] x = one_requirement x
last_requirement (y ∷ ys) x =
    requirement_first y (ys ++ x ∷ []) ∙ ap (λ (l : List ℕ). requirement_numbers y ++ l) (last_requirement ys x)
    ∙ sym (append_assoc (requirement_numbers y) (numbers (requirements_nodes (requirements ys))) (requirement_numbers x)) ∙ ap (λ (l : List ℕ). l ++ requirement_numbers x) (sym (requirement_first y ys))

pub record Counting (b : Below) : Type 0 where
  pub expr : (level : ℕ) (c : Context) → Numbered [] (λ (x : ExprTree). numbers (expr_nodes x)) (b.expr level c)
  pub argument : (c : Context) → Numbered [] argument_numbers (b.argument c)

silent_scalar_after : (c : Context) (t : Piece) → Silent (scalar_after c t)
unfolding scalar_after after_sign long_long maybe_int
silent_scalar_after c t = search silence depth 20

pub then_scalar_after : (before : List ℕ) {B : Type 0} (of' : B → List ℕ) (c : Context) (t : Piece) (f : _ → Production B) → ((x : _) → Numbered before of' (f x)) → Numbered before of' (scalar_after c t >>= f)
then_scalar_after before of' c t f k = then_silent before of' f (silent_scalar_after c t) k

pub numbers_scalar : (c : Context) → Numbered [] (λ (x : Core). numbers (core_nodes x.tree)) (scalar_core c)
unfolding scalar_core word_core long_core after_long_long maybe_int
numbers_scalar c = search (then_scalar_after, numbering, counting) depth 40 fits 8000

pub then_scalar : (before : List ℕ) {B : Type 0} (of' : B → List ℕ) (c : Context) (f : Core → Production B) → ((x : Core) → Numbered (before ++ numbers (core_nodes x.tree)) of' (f x)) → Numbered before of' (scalar_core c >>= f)
then_scalar before of' c f m = then_own before of' f (λ (x : Core). numbers (core_nodes x.tree)) (numbers_scalar c) m

pub numbers_long : (c : Context) → Numbered [] (λ (x : Core). numbers (core_nodes x.tree)) (long_core c)
unfolding long_core after_long_long maybe_int
numbers_long c = search (numbering, counting) depth 40 fits 8000

pub then_long : (before : List ℕ) {B : Type 0} (of' : B → List ℕ) (c : Context) (f : Core → Production B) → ((x : Core) → Numbered (before ++ numbers (core_nodes x.tree)) of' (f x)) → Numbered before of' (long_core c >>= f)
then_long before of' c f m = then_own before of' f (λ (x : Core). numbers (core_nodes x.tree)) (numbers_long c) m

silent_names : (c : Context) → Silent (member_names c)
unfolding member_names member_name more_names
silent_names c = search silence depth 20

pub then_names : (before : List ℕ) {B : Type 0} (of' : B → List ℕ) (c : Context) (f : _ → Production B) → ((x : _) → Numbered before of' (f x)) → Numbered before of' (member_names c >>= f)
then_names before of' c f k = then_silent before of' f (silent_names c) k

pub numbers_type_after : (c : Context) (at : Place) (before : Bool) (k : Core) → Numbered (numbers (core_nodes k.tree)) (λ (x : TypeTree). numbers (type_nodes x)) (type_after c at before k)
unfolding type_after const_after
numbers_type_after c at before k = search (numbering, counting) depth 40 fits 8000

pub then_type_after : {B : Type 0} (of' : B → List ℕ) (c : Context) (at : Place) (before : Bool) (k : Core) (f : TypeTree → Production B) → ((x : TypeTree) → Numbered (numbers (type_nodes x)) of' (f x)) → Numbered (numbers (core_nodes k.tree)) of' (type_after c at before k >>= f)
then_type_after of' c at before k f m = then_using (numbers (core_nodes k.tree)) of' f (λ (x : TypeTree). numbers (type_nodes x)) (numbers_type_after c at before k) m

silent_operator : (level : ℕ) (c : Context) → Silent (binary_operator level c)
unfolding binary_operator
silent_operator level c = search silence depth 20

silent_sign : (p : Punctuator) (o : BinaryOperator) (c : Context) → Silent (clause_operator p o c)
unfolding clause_operator
silent_sign p o c = search silence depth 20

-- operators and operands
chain_numbers : (q : Context → Class) (sign : Context → Production BinaryOperator) (operand : Context → Production ExprTree)
    → ((c : Context) → Silent (sign c)) → ((c : Context) → Numbered [] (λ (x : ExprTree). numbers (expr_nodes x)) (operand c))
    → (c : Context) (first : ExprTree) → Numbered (numbers (expr_nodes first)) (λ (x : ExprTree). numbers (expr_nodes x)) (chain_from q sign operand c first)
unfolding chain_turn
chain_numbers q sign operand hs ho c first =
    then_using (numbers (expr_nodes first)) all (λ (x : Chain). give x.tree) of (numbered_repeat of (λ (x : Chain). q x.within) turn (record { tree = first; within = c })) (λ x. numbered_give (of x) all x.tree refl)
  where
    of : Chain → List ℕ
    of x = numbers (expr_nodes x.tree)

    all : ExprTree → List ℕ
    all x = numbers (expr_nodes x)

    turn : (x : Chain) → Numbered (numbers (expr_nodes x.tree)) (λ (y : Chain). numbers (expr_nodes y.tree)) (chain_turn sign operand x)
    turn x =
        then_silent (numbers (expr_nodes x.tree)) (λ (y : Chain). numbers (expr_nodes y.tree)) _ (hs x.within) (λ o.
        then_own (numbers (expr_nodes x.tree)) (λ (y : Chain). numbers (expr_nodes y.tree)) _ (λ (z : ExprTree). numbers (expr_nodes z)) (ho (deeper x.within)) (λ right.
        node_then (numbers (expr_nodes x.tree) ++ numbers (expr_nodes right)) (λ (y : Chain). numbers (expr_nodes y.tree)) _ (λ m.
        numbered_give ((numbers (expr_nodes x.tree) ++ numbers (expr_nodes right)) ++ m ∷ []) (λ (y : Chain). numbers (expr_nodes y.tree)) _ (two_parts (expr_nodes x.tree) (expr_nodes right) (mark m (place_of x.tree))))))

module _ {b : Below} (l : Counting b) where
  pub then_below_expr : (before : List ℕ) {B : Type 0} (of' : B → List ℕ) (level : ℕ) (c : Context) (f : ExprTree → Production B) → ((x : ExprTree) → Numbered (before ++ numbers (expr_nodes x)) of' (f x)) → Numbered before of' (b.expr level c >>= f)
  then_below_expr before of' level c f m = then_own before of' f (λ (x : ExprTree). numbers (expr_nodes x)) (l.expr level c) m

  pub then_below_argument : (before : List ℕ) {B : Type 0} (of' : B → List ℕ) (c : Context) (f : ArgumentTree → Production B) → ((x : ArgumentTree) → Numbered (before ++ argument_numbers x) of' (f x)) → Numbered before of' (b.argument c >>= f)
  then_below_argument before of' c f m = then_own before of' f argument_numbers (l.argument c) m

  pub numbers_arguments : (c : Context) → Numbered [] (λ (x : List ArgumentTree). numbers (argument_nodes (arguments x))) (argument_list b c)
  unfolding argument_list
  numbers_arguments c =
      let all : List ArgumentTree → List ℕ = λ x. numbers (argument_nodes (arguments x)) in
      token_then [] all (deeper c) (punct punctuator.Less) _ (λ less.
      then_own [] all _ all (numbered_separated argument_numbers all one_argument last_argument (listed c) (l.argument (listed c))) (λ x.
      token_then (all x) all (deeper c) (closing (listed c).lists) _ (λ greater. numbered_give (all x) all x refl)))

  pub then_arguments : (before : List ℕ) {B : Type 0} (of' : B → List ℕ) (c : Context) (f : List ArgumentTree → Production B) → ((x : List ArgumentTree) → Numbered (before ++ numbers (argument_nodes (arguments x))) of' (f x)) → Numbered before of' (argument_list b c >>= f)
  then_arguments before of' c f m = then_own before of' f (λ (x : List ArgumentTree). numbers (argument_nodes (arguments x))) (numbers_arguments c) m

  pub numbers_head : (c : Context) → Numbered [] (λ (x : Core). numbers (core_nodes x.tree)) (head_core b c)
  unfolding head_core class_core type_name_core
  numbers_head c = search (then_arguments, numbering, counting) depth 40 fits 8000

  pub then_head : (before : List ℕ) {B : Type 0} (of' : B → List ℕ) (c : Context) (f : Core → Production B) → ((x : Core) → Numbered (before ++ numbers (core_nodes x.tree)) of' (f x)) → Numbered before of' (head_core b c >>= f)
  then_head before of' c f m = then_own before of' f (λ (x : Core). numbers (core_nodes x.tree)) (numbers_head c) m

  pub numbers_core : (c : Context) → Numbered [] (λ (x : Core). numbers (core_nodes x.tree)) (core b c)
  unfolding core member_core decltype_core void_core as_type head_core class_core type_name_core
  numbers_core c = search (then_arguments, then_names, numbers_scalar, then_below_expr, numbering, counting) depth 40 fits 8000

  pub then_core : (before : List ℕ) {B : Type 0} (of' : B → List ℕ) (c : Context) (f : Core → Production B) → ((x : Core) → Numbered (before ++ numbers (core_nodes x.tree)) of' (f x)) → Numbered before of' (core b c >>= f)
  then_core before of' c f m = then_own before of' f (λ (x : Core). numbers (core_nodes x.tree)) (numbers_core c) m

  pub numbers_type : (c : Context) → Numbered [] (λ (x : TypeTree). numbers (type_nodes x)) (type_id b c)
  unfolding type_id const_type plain_type core member_core decltype_core void_core head_core class_core type_name_core
  numbers_type c = search (then_core, numbers_type_after, numbering, counting) depth 40 fits 8000

  pub then_type : (before : List ℕ) {B : Type 0} (of' : B → List ℕ) (c : Context) (f : TypeTree → Production B) → ((x : TypeTree) → Numbered (before ++ numbers (type_nodes x)) of' (f x)) → Numbered before of' (type_id b c >>= f)
  then_type before of' c f m = then_own before of' f (λ (x : TypeTree). numbers (type_nodes x)) (numbers_type c) m

pub numbers_as_type : (k : Core) → Numbered (numbers (core_nodes k.tree)) (λ (x : TypeTree). numbers (type_nodes x)) (as_type k)
unfolding as_type
numbers_as_type k = search (numbering, counting) depth 40 fits 8000

pub then_as_type : {B : Type 0} (of' : B → List ℕ) (k : Core) (f : TypeTree → Production B) → ((x : TypeTree) → Numbered (numbers (type_nodes x)) of' (f x)) → Numbered (numbers (core_nodes k.tree)) of' (as_type k >>= f)
then_as_type of' k f m = then_using (numbers (core_nodes k.tree)) of' f (λ (x : TypeTree). numbers (type_nodes x)) (numbers_as_type k) m

pub numbers_local_after : (c : Context) (of : TypeTree) → Numbered (numbers (type_nodes of)) (λ (x : LocalTree). local_numbers x) (local_after c of)
unfolding local_after
numbers_local_after c of = search (numbering, counting) depth 40 fits 8000

pub then_local_after : {B : Type 0} (of' : B → List ℕ) (c : Context) (of : TypeTree) (f : LocalTree → Production B) → ((x : LocalTree) → Numbered (local_numbers x) of' (f x)) → Numbered (numbers (type_nodes of)) of' (local_after c of >>= f)
then_local_after of' c of f m = then_using (numbers (type_nodes of)) of' f (λ (x : LocalTree). local_numbers x) (numbers_local_after c of) m

module _ {b : Below} (l : Counting b) where
  pub numbers_exprs : (close : Class) (c : Context) → Numbered [] (λ (x : List ExprTree). numbers (exprs_nodes (exprs x))) (expr_list close b c)
  unfolding expr_list
  numbers_exprs close c =
      let all : List ExprTree → List ℕ = λ x. numbers (exprs_nodes (exprs x)) in
      numbered_when [] all close (numbered_give [] all [] refl) (numbered_separated (λ (x : ExprTree). numbers (expr_nodes x)) all one_expr last_expr c (l.expr expression_level c))

  pub then_exprs : (before : List ℕ) {B : Type 0} (of' : B → List ℕ) (close : Class) (c : Context) (f : List ExprTree → Production B) → ((x : List ExprTree) → Numbered (before ++ numbers (exprs_nodes (exprs x))) of' (f x)) → Numbered before of' (expr_list close b c >>= f)
  then_exprs before of' close c f m = then_own before of' f (λ (x : List ExprTree). numbers (exprs_nodes (exprs x))) (numbers_exprs close c) m

  pub numbers_list_after : (c : Context) (k : Core) → Numbered (numbers (core_nodes k.tree)) (λ (x : ExprTree). numbers (expr_nodes x)) (list_after b c k)
  unfolding list_after as_type
  numbers_list_after c k = search (then_as_type, then_exprs, numbering, counting) depth 40 fits 8000

  pub then_list_after : {B : Type 0} (of' : B → List ℕ) (c : Context) (k : Core) (f : ExprTree → Production B) → ((x : ExprTree) → Numbered (numbers (expr_nodes x)) of' (f x)) → Numbered (numbers (core_nodes k.tree)) of' (list_after b c k >>= f)
  then_list_after of' c k f m = then_using (numbers (core_nodes k.tree)) of' f (λ (x : ExprTree). numbers (expr_nodes x)) (numbers_list_after c k) m

  -- after a scalar, whose core has no node
  pub numbers_scalar_list : (c : Context) (t : Piece) (s : Scalar) → Numbered [] (λ (x : ExprTree). numbers (expr_nodes x)) (list_after b c (scalar_at t s))
  numbers_scalar_list c t s = numbers_list_after c (scalar_at t s)

  pub then_scalar_list : {B : Type 0} (of' : B → List ℕ) (c : Context) (t : Piece) (s : Scalar) (f : ExprTree → Production B) → ((x : ExprTree) → Numbered (numbers (expr_nodes x)) of' (f x)) → Numbered [] of' (list_after b c (scalar_at t s) >>= f)
  then_scalar_list of' c t s f m = then_list_after of' c (scalar_at t s) f m

  pub then_scalar_type : {B : Type 0} (of' : B → List ℕ) (c : Context) (at : Place) (before : Bool) (t : Piece) (s : Scalar) (f : TypeTree → Production B) → ((x : TypeTree) → Numbered (numbers (type_nodes x)) of' (f x)) → Numbered [] of' (type_after c at before (scalar_at t s) >>= f)
  then_scalar_type of' c at before t s f m = then_type_after of' c at before (scalar_at t s) f m

  pub numbers_after_head : (c : Context) (k : Core) → Numbered (numbers (core_nodes k.tree)) (λ (x : ExprTree). numbers (expr_nodes x)) (after_head b c k)
  unfolding after_head names_after as_type
  numbers_after_head c k = search (numbers_list_after, then_as_type, then_names, numbering, counting) depth 40 fits 8000

  pub then_after_head : {B : Type 0} (of' : B → List ℕ) (c : Context) (k : Core) (f : ExprTree → Production B) → ((x : ExprTree) → Numbered (numbers (expr_nodes x)) of' (f x)) → Numbered (numbers (core_nodes k.tree)) of' (after_head b c k >>= f)
  then_after_head of' c k f m = then_using (numbers (core_nodes k.tree)) of' f (λ (x : ExprTree). numbers (expr_nodes x)) (numbers_after_head c k) m

  pub numbers_template_name : (kind : NameKind) (calls : Calling) (c : Context) → Numbered [] (λ (x : Operand). numbers (expr_nodes x.tree)) (template_name kind calls b c)
  unfolding template_name
  numbers_template_name kind calls c = search (then_arguments, numbering, counting) depth 40 fits 8000

  pub then_template_name : (before : List ℕ) {B : Type 0} (of' : B → List ℕ) (kind : NameKind) (calls : Calling) (c : Context) (f : Operand → Production B) → ((x : Operand) → Numbered (before ++ numbers (expr_nodes x.tree)) of' (f x)) → Numbered before of' (template_name kind calls b c >>= f)
  then_template_name before of' kind calls c f m = then_own before of' f (λ (x : Operand). numbers (expr_nodes x.tree)) (numbers_template_name kind calls c) m

  pub numbers_constraint : (c : Context) → Numbered [] (λ (x : ConstraintTree). numbers (constraint_nodes x)) (constraint b c)
  unfolding constraint
  numbers_constraint c = search (then_arguments, numbering, counting) depth 40 fits 8000

  pub then_constraint : (before : List ℕ) {B : Type 0} (of' : B → List ℕ) (c : Context) (f : ConstraintTree → Production B) → ((x : ConstraintTree) → Numbered (before ++ numbers (constraint_nodes x)) of' (f x)) → Numbered before of' (constraint b c >>= f)
  then_constraint before of' c f m = then_own before of' f (λ (x : ConstraintTree). numbers (constraint_nodes x)) (numbers_constraint c) m

  pub numbers_local : (c : Context) → Numbered [] (λ (x : LocalTree). local_numbers x) (local b c)
  unfolding local
  numbers_local c = search (then_type, numbers_local_after, numbering, counting) depth 40 fits 8000

  pub then_local : (before : List ℕ) {B : Type 0} (of' : B → List ℕ) (c : Context) (f : LocalTree → Production B) → ((x : LocalTree) → Numbered (before ++ local_numbers x) of' (f x)) → Numbered before of' (local b c >>= f)
  then_local before of' c f m = then_own before of' f (λ (x : LocalTree). local_numbers x) (numbers_local c) m

  pub numbers_locals : (c : Context) → Numbered [] (λ (x : List LocalTree). numbers (locals_nodes (locals x))) (local_list b c)
  unfolding local_list
  numbers_locals c =
      let all : List LocalTree → List ℕ = λ x. numbers (locals_nodes (locals x)) in
      numbered_when [] all (punct punctuator.RightParenthesis) (numbered_give [] all [] refl)
      (numbered_when [] all (word word'.Void)
      (token_then [] all c (word word'.Void) _ (λ t.
      numbered_when [] all (punct punctuator.RightParenthesis) (numbered_give [] all [] refl)
      (counted_then [] all (deeper c) t _ (λ u.
      then_type_after all c t.token.at false (void_at t) _ (λ of.
      then_using (numbers (type_nodes of)) all _ local_numbers (numbers_local_after c of) (λ first.
      numbered_separated_after local_numbers all one_local last_local c (numbers_local c) first))))))
      (numbered_separated local_numbers all one_local last_local c (numbers_local c)))

  pub then_locals : (before : List ℕ) {B : Type 0} (of' : B → List ℕ) (c : Context) (f : List LocalTree → Production B) → ((x : List LocalTree) → Numbered (before ++ numbers (locals_nodes (locals x))) of' (f x)) → Numbered before of' (local_list b c >>= f)
  then_locals before of' c f m = then_own before of' f (λ (x : List LocalTree). numbers (locals_nodes (locals x))) (numbers_locals c) m

  pub numbers_maybe_locals : (c : Context) → Numbered [] (λ (x : List LocalTree). numbers (locals_nodes (locals x))) (maybe_locals b c)
  unfolding maybe_locals
  numbers_maybe_locals c = search (then_locals, numbering, counting) depth 40 fits 8000

  pub then_maybe_locals : (before : List ℕ) {B : Type 0} (of' : B → List ℕ) (c : Context) (f : List LocalTree → Production B) → ((x : List LocalTree) → Numbered (before ++ numbers (locals_nodes (locals x))) of' (f x)) → Numbered before of' (maybe_locals b c >>= f)
  then_maybe_locals before of' c f m = then_own before of' f (λ (x : List LocalTree). numbers (locals_nodes (locals x))) (numbers_maybe_locals c) m

  pub numbers_required_core : (c : Context) (first : Piece) → Numbered [] (λ (x : Core). numbers (core_nodes x.tree)) (required_core b c first)
  unfolding required_core class_core type_name_core required_member as_type
  numbers_required_core c first = search (then_arguments, then_names, numbering, counting) depth 40 fits 8000

  pub then_required_core : (before : List ℕ) {B : Type 0} (of' : B → List ℕ) (c : Context) (first : Piece) (f : Core → Production B) → ((x : Core) → Numbered (before ++ numbers (core_nodes x.tree)) of' (f x)) → Numbered before of' (required_core b c first >>= f)
  then_required_core before of' c first f m = then_own before of' f (λ (x : Core). numbers (core_nodes x.tree)) (numbers_required_core c first) m

  pub numbers_requirement : (c : Context) → Numbered [] (λ (x : RequirementTree). requirement_numbers x) (requirement b c)
  unfolding requirement type_requirement nested_requirement compound_requirement simple_requirement result_constraint
  numbers_requirement c = search (then_required_core, then_constraint, then_below_expr, numbering, counting) depth 40 fits 8000

  pub then_requirement : (before : List ℕ) {B : Type 0} (of' : B → List ℕ) (c : Context) (f : RequirementTree → Production B) → ((x : RequirementTree) → Numbered (before ++ requirement_numbers x) of' (f x)) → Numbered before of' (requirement b c >>= f)
  then_requirement before of' c f m = then_own before of' f (λ (x : RequirementTree). requirement_numbers x) (numbers_requirement c) m

  pub numbers_requirements : (c : Context) → Numbered [] (λ (x : List RequirementTree). numbers (requirements_nodes (requirements x))) (requirement_list b c)
  unfolding requirement_list
  numbers_requirements c =
      let all : List RequirementTree → List ℕ = λ x. numbers (requirements_nodes (requirements x)) in
      then_own [] all _ requirement_numbers (numbers_requirement (deeper c)) (λ first.
      numbered_from (sym (one_requirement first)) (numbered_items requirement_numbers all one_requirement last_requirement (λ so_far. any_but (punct punctuator.RightBrace)) (numbers_requirement (deeper c)) (first ∷ [])))

  pub then_requirements : (before : List ℕ) {B : Type 0} (of' : B → List ℕ) (c : Context) (f : List RequirementTree → Production B) → ((x : List RequirementTree) → Numbered (before ++ numbers (requirements_nodes (requirements x))) of' (f x)) → Numbered before of' (requirement_list b c >>= f)
  then_requirements before of' c f m = then_own before of' f (λ (x : List RequirementTree). numbers (requirements_nodes (requirements x))) (numbers_requirements c) m

  pub numbers_requires : (c : Context) → Numbered [] (λ (x : ExprTree). numbers (expr_nodes x)) (requires_expr b c)
  unfolding requires_expr
  numbers_requires c = search (then_maybe_locals, then_requirements, numbering, counting) depth 40 fits 8000

  pub then_requires : (before : List ℕ) {B : Type 0} (of' : B → List ℕ) (c : Context) (f : ExprTree → Production B) → ((x : ExprTree) → Numbered (before ++ numbers (expr_nodes x)) of' (f x)) → Numbered before of' (requires_expr b c >>= f)
  then_requires before of' c f m = then_own before of' f (λ (x : ExprTree). numbers (expr_nodes x)) (numbers_requires c) m

  pub numbers_word_primary : (c : Context) → Numbered [] (λ (x : ExprTree). numbers (expr_nodes x)) (word_primary b c)
  unfolding word_primary truth is_same out group requires_expr
  numbers_word_primary c = search (numbers_requires, then_type, then_below_expr, numbering, counting) depth 40 fits 8000

  pub then_word_primary : (before : List ℕ) {B : Type 0} (of' : B → List ℕ) (c : Context) (f : ExprTree → Production B) → ((x : ExprTree) → Numbered (before ++ numbers (expr_nodes x)) of' (f x)) → Numbered before of' (word_primary b c >>= f)
  then_word_primary before of' c f m = then_own before of' f (λ (x : ExprTree). numbers (expr_nodes x)) (numbers_word_primary c) m

  pub numbers_simple : (c : Context) → Numbered [] (λ (x : Operand). numbers (expr_nodes x.tree)) (simple_primary b c)
  unfolding simple_primary int_literal template_name name_alone
  numbers_simple c = search (then_word_primary, numbers_template_name, numbering, counting) depth 40 fits 8000

  pub then_simple : (before : List ℕ) {B : Type 0} (of' : B → List ℕ) (c : Context) (f : Operand → Production B) → ((x : Operand) → Numbered (before ++ numbers (expr_nodes x.tree)) of' (f x)) → Numbered before of' (simple_primary b c >>= f)
  then_simple before of' c f m = then_own before of' f (λ (x : Operand). numbers (expr_nodes x.tree)) (numbers_simple c) m

  pub numbers_primary : (c : Context) → Numbered [] (λ (x : Operand). numbers (expr_nodes x.tree)) (primary b c)
  unfolding primary head_primary core_primary scalar_primary static_cast
  numbers_primary c = search (then_scalar_list, numbers_simple, then_after_head, then_list_after, then_head, then_core, then_type, then_below_expr, numbering, counting) depth 40 fits 8000

  pub then_primary : (before : List ℕ) {B : Type 0} (of' : B → List ℕ) (c : Context) (f : Operand → Production B) → ((x : Operand) → Numbered (before ++ numbers (expr_nodes x.tree)) of' (f x)) → Numbered before of' (primary b c >>= f)
  then_primary before of' c f m = then_own before of' f (λ (x : Operand). numbers (expr_nodes x.tree)) (numbers_primary c) m

  pub numbers_call : (x : Postfix) → Numbered (numbers (expr_nodes x.tree)) (λ (y : Postfix). numbers (expr_nodes y.tree)) (call b x)
  unfolding call
  numbers_call x = search (then_exprs, numbering, counting) depth 40 fits 8000

  pub then_call : {B : Type 0} (of' : B → List ℕ) (x : Postfix) (f : Postfix → Production B) → ((y : Postfix) → Numbered (numbers (expr_nodes y.tree)) of' (f y)) → Numbered (numbers (expr_nodes x.tree)) of' (call b x >>= f)
  then_call of' x f m = then_using (numbers (expr_nodes x.tree)) of' f (λ (y : Postfix). numbers (expr_nodes y.tree)) (numbers_call x) m

  numbers_postfix_turn : (x : Postfix) → Numbered (numbers (expr_nodes x.tree)) (λ (y : Postfix). numbers (expr_nodes y.tree)) (postfix_turn b x)
  unfolding postfix_turn member_access postfix_step
  numbers_postfix_turn x = search (numbers_call, numbering, counting) depth 30 fits 6000

  numbers_needed_call : (x : Postfix) → Numbered (numbers (expr_nodes x.tree)) (λ (y : Postfix). numbers (expr_nodes y.tree)) (needed_call b x)
  unfolding needed_call
  numbers_needed_call x = search (numbers_call, numbering) depth 15

  pub numbers_postfix_after : (c : Context) (operand : Operand) → Numbered (numbers (expr_nodes operand.tree)) (λ (x : ExprTree). numbers (expr_nodes x)) (postfix_after b c operand)
  unfolding postfix_after
  numbers_postfix_after c operand =
      let of : Postfix → List ℕ = λ y. numbers (expr_nodes y.tree) in
      let all : ExprTree → List ℕ = λ x. numbers (expr_nodes x) in
      then_using (numbers (expr_nodes operand.tree)) all _ of (numbers_needed_call (record { tree = operand.tree; calling = operand.calling; within = c })) (λ first.
      then_using (of first) all _ of (numbered_repeat of continues_postfix numbers_postfix_turn first) (λ x. numbered_give (of x) all x.tree refl))

  pub then_postfix_after : {B : Type 0} (of' : B → List ℕ) (c : Context) (operand : Operand) (f : ExprTree → Production B) → ((x : ExprTree) → Numbered (numbers (expr_nodes x)) of' (f x)) → Numbered (numbers (expr_nodes operand.tree)) of' (postfix_after b c operand >>= f)
  then_postfix_after of' c operand f m = then_using (numbers (expr_nodes operand.tree)) of' f (λ (x : ExprTree). numbers (expr_nodes x)) (numbers_postfix_after c operand) m

  pub numbers_unary : (c : Context) → Numbered [] (λ (x : ExprTree). numbers (expr_nodes x)) (unary b c)
  unfolding unary prefixed postfix
  numbers_unary c = search (then_primary, numbers_postfix_after, then_below_expr, numbering, counting) depth 40 fits 8000

  pub then_unary : (before : List ℕ) {B : Type 0} (of' : B → List ℕ) (c : Context) (f : ExprTree → Production B) → ((x : ExprTree) → Numbered (before ++ numbers (expr_nodes x)) of' (f x)) → Numbered before of' (unary b c >>= f)
  then_unary before of' c f m = then_own before of' f (λ (x : ExprTree). numbers (expr_nodes x)) (numbers_unary c) m

  pub then_operator : (before : List ℕ) {B : Type 0} (of' : B → List ℕ) (level : ℕ) (c : Context) (f : _ → Production B) → ((x : _) → Numbered before of' (f x)) → Numbered before of' (binary_operator level c >>= f)
  then_operator before of' level c f k = then_silent before of' f (silent_operator level c) k

  pub numbers_chain : (level : ℕ) (c : Context) (e : ExprTree) → Numbered (numbers (expr_nodes e)) (λ (x : ExprTree). numbers (expr_nodes x)) (binary_chain b level c e)
  unfolding binary_chain
  numbers_chain level c e = chain_numbers (λ c. operator (suc level) c.lists) (binary_operator (suc level)) (b.expr level) (silent_operator (suc level)) (l.expr level) c e

  pub then_chain : {B : Type 0} (of' : B → List ℕ) (level : ℕ) (c : Context) (e : ExprTree) (f : ExprTree → Production B) → ((x : ExprTree) → Numbered (numbers (expr_nodes x)) of' (f x)) → Numbered (numbers (expr_nodes e)) of' (binary_chain b level c e >>= f)
  then_chain of' level c e f m = then_using (numbers (expr_nodes e)) of' f (λ (x : ExprTree). numbers (expr_nodes x)) (numbers_chain level c e) m

  pub numbers_binary_after : (level : ℕ) (c : Context) (e : ExprTree) → Numbered (numbers (expr_nodes e)) (λ (x : ExprTree). numbers (expr_nodes x)) (binary_after b level c e)
  unfolding binary_after
  numbers_binary_after zero c e = numbered_give (numbers (expr_nodes e)) (λ (x : ExprTree). numbers (expr_nodes x)) e refl
  numbers_binary_after (suc level) c e = then_using (numbers (expr_nodes e)) (λ (x : ExprTree). numbers (expr_nodes x)) (binary_chain b level c) (λ (x : ExprTree). numbers (expr_nodes x)) (numbers_binary_after level c e) (numbers_chain level c)

  pub then_binary_after : {B : Type 0} (of' : B → List ℕ) (level : ℕ) (c : Context) (e : ExprTree) (f : ExprTree → Production B) → ((x : ExprTree) → Numbered (numbers (expr_nodes x)) of' (f x)) → Numbered (numbers (expr_nodes e)) of' (binary_after b level c e >>= f)
  then_binary_after of' level c e f m = then_using (numbers (expr_nodes e)) of' f (λ (x : ExprTree). numbers (expr_nodes x)) (numbers_binary_after level c e) m

  pub numbers_choice_after : (c : Context) (e : ExprTree) → Numbered (numbers (expr_nodes e)) (λ (x : ExprTree). numbers (expr_nodes x)) (choice_after b c e)
  unfolding choice_after conditional assignment
  numbers_choice_after c e = search (then_below_expr, numbering, counting) depth 40 fits 8000

  pub then_choice_after : {B : Type 0} (of' : B → List ℕ) (c : Context) (e : ExprTree) (f : ExprTree → Production B) → ((x : ExprTree) → Numbered (numbers (expr_nodes x)) of' (f x)) → Numbered (numbers (expr_nodes e)) of' (choice_after b c e >>= f)
  then_choice_after of' c e f m = then_using (numbers (expr_nodes e)) of' f (λ (x : ExprTree). numbers (expr_nodes x)) (numbers_choice_after c e) m

  pub numbers_expr_after : (c : Context) (e : ExprTree) → Numbered (numbers (expr_nodes e)) (λ (x : ExprTree). numbers (expr_nodes x)) (expr_after b c e)
  unfolding expr_after
  numbers_expr_after c e = then_using (numbers (expr_nodes e)) (λ (x : ExprTree). numbers (expr_nodes x)) (choice_after b c) (λ (x : ExprTree). numbers (expr_nodes x)) (numbers_binary_after 10 c e) (numbers_choice_after c)

  pub then_expr_after : {B : Type 0} (of' : B → List ℕ) (c : Context) (e : ExprTree) (f : ExprTree → Production B) → ((x : ExprTree) → Numbered (numbers (expr_nodes x)) of' (f x)) → Numbered (numbers (expr_nodes e)) of' (expr_after b c e >>= f)
  then_expr_after of' c e f m = then_using (numbers (expr_nodes e)) of' f (λ (x : ExprTree). numbers (expr_nodes x)) (numbers_expr_after c e) m

  pub numbers_expr : (level : ℕ) (c : Context) → Numbered [] (λ (x : ExprTree). numbers (expr_nodes x)) (expr b level c)
  unfolding expr
  numbers_expr level c = search (then_unary, numbers_expr_after, numbers_binary_after, numbering, counting) depth 40 fits 8000

  pub then_expr : (before : List ℕ) {B : Type 0} (of' : B → List ℕ) (level : ℕ) (c : Context) (f : ExprTree → Production B) → ((x : ExprTree) → Numbered (before ++ numbers (expr_nodes x)) of' (f x)) → Numbered before of' (expr b level c >>= f)
  then_expr before of' level c f m = then_own before of' f (λ (x : ExprTree). numbers (expr_nodes x)) (numbers_expr level c) m

  pub numbers_expr_of : (c : Context) (operand : Operand) → Numbered (numbers (expr_nodes operand.tree)) (λ (x : ExprTree). numbers (expr_nodes x)) (expr_of b c operand)
  unfolding expr_of
  numbers_expr_of c operand = search (then_postfix_after, numbers_expr_after, numbering, counting) depth 40 fits 8000

  pub then_expr_of : {B : Type 0} (of' : B → List ℕ) (c : Context) (operand : Operand) (f : ExprTree → Production B) → ((x : ExprTree) → Numbered (numbers (expr_nodes x)) of' (f x)) → Numbered (numbers (expr_nodes operand.tree)) of' (expr_of b c operand >>= f)
  then_expr_of of' c operand f m = then_using (numbers (expr_nodes operand.tree)) of' f (λ (x : ExprTree). numbers (expr_nodes x)) (numbers_expr_of c operand) m

  pub then_read_operand : {B : Type 0} (of' : B → List ℕ) (c : Context) (e : ExprTree) (calls : Calling) (f : ExprTree → Production B) → ((x : ExprTree) → Numbered (numbers (expr_nodes x)) of' (f x)) → Numbered (numbers (expr_nodes e)) of' (expr_of b c (record { tree = e; calling = calls }) >>= f)
  then_read_operand of' c e calls f m = then_expr_of of' c (record { tree = e; calling = calls }) f m

  pub numbers_argument : (c : Context) → Numbered [] (λ (x : ArgumentTree). argument_numbers x) (argument b c)
  unfolding argument value_of_operand type_of_core core_argument_after head_argument_after head_argument core_argument scalar_argument long_argument const_argument value_argument const_type
  numbers_argument c = search (then_read_operand, then_scalar_list, then_scalar_type, then_expr, then_type_after, then_core, then_head, then_list_after, then_after_head, then_scalar_after, then_long, numbering, counting) depth 40 fits 8000

  pub then_argument : (before : List ℕ) {B : Type 0} (of' : B → List ℕ) (c : Context) (f : ArgumentTree → Production B) → ((x : ArgumentTree) → Numbered (before ++ argument_numbers x) of' (f x)) → Numbered before of' (argument b c >>= f)
  then_argument before of' c f m = then_own before of' f (λ (x : ArgumentTree). argument_numbers x) (numbers_argument c) m

  pub numbers_operand : (c : Context) → Numbered [] (λ (x : ExprTree). numbers (expr_nodes x)) (clause_operand b c)
  unfolding clause_operand head_operand simple_operand uncalled names_after as_type
  numbers_operand c = search (then_head, then_as_type, then_names, then_simple, numbering, counting) depth 40 fits 8000

  pub then_operand : (before : List ℕ) {B : Type 0} (of' : B → List ℕ) (c : Context) (f : ExprTree → Production B) → ((x : ExprTree) → Numbered (before ++ numbers (expr_nodes x)) of' (f x)) → Numbered before of' (clause_operand b c >>= f)
  then_operand before of' c f m = then_own before of' f (λ (x : ExprTree). numbers (expr_nodes x)) (numbers_operand c) m

  pub numbers_conjunction : (c : Context) → Numbered [] (λ (x : ExprTree). numbers (expr_nodes x)) (conjunction b c)
  unfolding conjunction
  numbers_conjunction c =
      then_own [] (λ (x : ExprTree). numbers (expr_nodes x)) _ (λ (x : ExprTree). numbers (expr_nodes x)) (numbers_operand c) (λ first.
      chain_numbers (λ c. punct punctuator.AmpersandAmpersand) (clause_operator punctuator.AmpersandAmpersand binary.And) (clause_operand b) (silent_sign punctuator.AmpersandAmpersand binary.And) numbers_operand c first)

  pub then_conjunction : (before : List ℕ) {B : Type 0} (of' : B → List ℕ) (c : Context) (f : ExprTree → Production B) → ((x : ExprTree) → Numbered (before ++ numbers (expr_nodes x)) of' (f x)) → Numbered before of' (conjunction b c >>= f)
  then_conjunction before of' c f m = then_own before of' f (λ (x : ExprTree). numbers (expr_nodes x)) (numbers_conjunction c) m

  pub numbers_clause : (c : Context) → Numbered [] (λ (x : ExprTree). numbers (expr_nodes x)) (clause b c)
  unfolding clause
  numbers_clause c =
      then_own [] (λ (x : ExprTree). numbers (expr_nodes x)) _ (λ (x : ExprTree). numbers (expr_nodes x)) (numbers_conjunction c) (λ first.
      chain_numbers (λ c. punct punctuator.BarBar) (clause_operator punctuator.BarBar binary.Or) (conjunction b) (silent_sign punctuator.BarBar binary.Or) numbers_conjunction c first)

  pub then_clause : (before : List ℕ) {B : Type 0} (of' : B → List ℕ) (c : Context) (f : ExprTree → Production B) → ((x : ExprTree) → Numbered (before ++ numbers (expr_nodes x)) of' (f x)) → Numbered before of' (clause b c >>= f)
  then_clause before of' c f m = then_own before of' f (λ (x : ExprTree). numbers (expr_nodes x)) (numbers_clause c) m

pub counting_levels : (n : ℕ) → Counting (levels n)
unfolding levels
counting_levels zero = record { expr = λ level c. numbered_closed [] _; argument = λ c. numbered_closed [] _ }
counting_levels (suc n) = record { expr = numbers_expr (counting_levels n); argument = numbers_argument (counting_levels n) }
