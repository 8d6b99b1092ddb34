-- Statements ([stmt.stmt]) and the variables that they declare ([dcl.dcl]) are lawful.
use Rattle.std.proofs.Common.{Some, ℕ, zero, suc, Bool, true, false, List, Option}
use Rattle.cx_base.specs.declared.place.Place.{Place}
use Rattle.cx_tokens.specs.declared.word.Word.{Word}
use Rattle.cx_tokens.specs.declared.word.Word.TheVariants as words
use Rattle.cx_tokens.specs.declared.punctuator.Punctuator.TheVariants as punctuator
use Rattle.cx_syntax.specs.Classes.{word, punct}
use Rattle.cx_tokens.specs.declared.punctuator.Punctuator.{Punctuator}
use Rattle.cx_tokens.specs.Pieces.{Piece}
use Rattle.cx_syntax.specs.declared.context.Context.{Context}
use Rattle.cx_syntax.specs.Contexts.{deeper}
use Rattle.cx_syntax.specs.Combinators.{node, in_scope, one_more_item}
use Rattle.cx_syntax.specs.Productions.{give, token, when, ◌>>=◌}
use Rattle.cx_productions.specs.Trees.{mark, Mark, ExprTree, TypeTree, ConstraintTree}
use Rattle.cx_productions.specs.StatementTrees.{Return, AutoTree, Opening, OfVariable, OfExpr, StmtTree}
use Rattle.cx_productions.specs.Below.{Below}
use Rattle.cx_productions.specs.Units.{unit_levels, statement_levels}
use Rattle.cx_productions.specs.Scalars.{Core, scalar_after, scalar_at, scalar_of_word}
use Rattle.cx_productions.specs.Requires.{constraint}
use Rattle.cx_productions.specs.Primaries.{Operand, list_after}
use Rattle.cx_productions.specs.declared.calling.Calling.TheVariants as calling
use Rattle.cx_productions.specs.Statements.{concept_expr, uncalled_opening, Within, value_init, list_init, init, variable_after, auto_variable_after, auto_after, variable_of, variable_of_auto, expr_opening, whole_expr, variable_of_core, core_opening_after, head_opening_after, head_opening, core_opening, scalar_opening, typed_variable, constrained_auto, plain_auto, const_variable, variable, constexpr_variable, concept_opening, opening, stmt_of, open_stmt, message, assertion, statements, block, substatement, condition, alternative, if_stmt, while_stmt, expr_until, for_init, for_head, for_parts, for_stmt, return_stmt, jump, empty_stmt, assert_stmt, stmt}
use Rattle.cx_syntax_laws.proofs.Lawful.{Lawful, Filled, Takes, Opens}
use Rattle.cx_syntax_laws.proofs.Choices.{lawful_when, filled_when, takes_when}
use Rattle.cx_syntax_laws.proofs.Sequence.{lawful_before}
use Rattle.cx_syntax_laws.proofs.Firsts.{lawful_weak, lawful_closed, filled_closed}
use Rattle.cx_syntax_laws.proofs.Repeats.{Item}
use Rattle.cx_syntax_laws.proofs.Rules.{laws, filling}
use Rattle.cx_production_laws.proofs.TypeLaws.{Lower, lawful_scalar_after, lawful_type, filled_type, takes_type, lawful_type_after, lawful_core, filled_core, takes_core, lawful_head, filled_head, takes_head, lawful_arguments, opens_arguments}
use Rattle.cx_production_laws.proofs.ExpressionLaws.{lower_levels, lawful_exprs, lawful_expr, filled_expr, takes_expr, lawful_expr_of, lawful_list_after, opens_list_after, lawful_after_head, opens_after_head, lawful_constraint, takes_closed}

pub filled_constraint : (b : Below) (c : Context) → Filled (constraint b c)
unfolding constraint
filled_constraint b c = search filling

-- What stands within others again.
pub record LowerWithin (b : Within) : Type 0 where
  pub base : Lower b.base
  pub stmt : (c : Context) → Lawful true (b.stmt c)
  pub filled : (c : Context) → Filled (b.stmt c)
  pub takes : (c : Context) → Takes (b.stmt c)

pub lawful_auto_after : (c : Context) (at : Option Place) (is_const : Bool) (k : Option ConstraintTree) → Lawful true (auto_after c at is_const k)
unfolding auto_after
lawful_auto_after c at is_const k = search laws depth 15 fits 3000

pub opens_auto_after : (c : Context) (at : Option Place) (is_const : Bool) (k : Option ConstraintTree) → Opens (word words.Auto) (auto_after c at is_const k)
unfolding auto_after
opens_auto_after c at is_const k = search laws depth 15 fits 3000

pub takes_auto_after : (c : Context) (at : Option Place) (is_const : Bool) (k : Option ConstraintTree) → Takes (auto_after c at is_const k)
unfolding auto_after
takes_auto_after c at is_const k = search laws depth 15 fits 3000

pub filled_auto_after : (c : Context) (at : Option Place) (is_const : Bool) (k : Option ConstraintTree) → Filled (auto_after c at is_const k)
unfolding auto_after
filled_auto_after c at is_const k = search filling

module _ {b : Below} (l : Lower b) where
  pub takes_constraint : (c : Context) → Takes (constraint b c)
  unfolding constraint
  takes_constraint c = search (laws, lawful_arguments, opens_arguments) depth 15 fits 3000

  lawful_value_init : (c : Context) → Lawful true (value_init b c)
  unfolding value_init
  lawful_value_init c = search (laws, lawful_expr) depth 15 fits 3000

  pub lawful_init : (c : Context) → Lawful true (init b c)
  unfolding init list_init value_init
  lawful_init c = search (laws, lawful_exprs, lawful_expr) depth 15 fits 3000

  pub filled_init : (c : Context) → Filled (init b c)
  unfolding init list_init value_init
  filled_init c = search filling

  lawful_variable_of : (c : Context) (is_constexpr : Bool) (of : TypeTree) → Lawful true (variable_of b c is_constexpr of)
  unfolding variable_of variable_after
  lawful_variable_of c is_constexpr of = search (laws, lawful_init) depth 15 fits 3000

  lawful_variable_of_auto : (c : Context) (is_constexpr : Bool) (of : AutoTree) → Lawful true (variable_of_auto b c is_constexpr of)
  unfolding variable_of_auto auto_variable_after
  lawful_variable_of_auto c is_constexpr of = search (laws, lawful_value_init) depth 15 fits 3000

  lawful_expr_opening : (c : Context) (operand : Operand) → Lawful true (expr_opening b c operand)
  unfolding expr_opening
  lawful_expr_opening c operand = search (laws, lawful_expr_of) depth 15 fits 3000

  lawful_constrained_auto : (c : Context) (at : Option Place) (is_constexpr is_const : Bool) → Lawful true (constrained_auto b c at is_constexpr is_const)
  unfolding constrained_auto
  lawful_constrained_auto c at is_constexpr is_const = search (laws, lawful_constraint, lawful_auto_after, lawful_variable_of_auto) depth 15 fits 3000

  lawful_plain_auto : (c : Context) (at : Option Place) (is_constexpr is_const : Bool) → Lawful true (plain_auto b c at is_constexpr is_const)
  unfolding plain_auto
  lawful_plain_auto c at is_constexpr is_const = search (laws, lawful_auto_after, lawful_variable_of_auto) depth 15 fits 3000

  lawful_const_variable : (c : Context) (is_constexpr : Bool) → Lawful true (const_variable b c is_constexpr)
  unfolding const_variable constrained_auto plain_auto
  lawful_const_variable c is_constexpr = search (laws, lawful_constrained_auto, lawful_plain_auto, lawful_core, lawful_type_after, lawful_variable_of, filled_constraint, filled_auto_after, filled_core) depth 15 fits 3000

  lawful_variable : (c : Context) (is_constexpr : Bool) → Lawful true (variable b c is_constexpr)
  unfolding variable constrained_auto plain_auto typed_variable const_variable
  lawful_variable c is_constexpr = search (laws, lawful_constrained_auto, lawful_plain_auto, lawful_const_variable, lawful_type, lawful_variable_of, filled_constraint, filled_auto_after, filled_type) depth 15 fits 3000

  lawful_variable_of_core : (c : Context) (k : Core) → Lawful true (variable_of_core b c k)
  unfolding variable_of_core
  lawful_variable_of_core c k = search (laws, lawful_type_after, lawful_variable_of) depth 15 fits 3000

  lawful_core_opening_after : (c : Context) (k : Core) → Lawful true (core_opening_after b c k)
  unfolding core_opening_after
  lawful_core_opening_after c k = search (laws, lawful_list_after, opens_list_after, lawful_expr_opening, lawful_variable_of_core) depth 15 fits 3000

  lawful_head_opening_after : (c : Context) (k : Core) → Lawful true (head_opening_after b c k)
  unfolding head_opening_after
  lawful_head_opening_after c k = search (laws, lawful_after_head, opens_after_head, lawful_expr_opening, lawful_variable_of_core) depth 15 fits 3000

  lawful_scalar_after_word : (c : Context) (t : Piece) → Lawful true (when (punct punctuator.LeftBrace) (list_after b c (scalar_at t (scalar_of_word t)) >>= (λ operand. uncalled_opening b c operand)) (scalar_after (deeper c) t >>= (λ s. variable_of_core b c (scalar_at t s))))
  lawful_scalar_after_word c t = search (laws, lawful_list_after, opens_list_after, lawful_expr_opening, lawful_scalar_after, lawful_variable_of_core) depth 15 fits 3000

  lawful_scalar_opening : (c : Context) → Lawful true (scalar_opening b c)
  unfolding scalar_opening
  lawful_scalar_opening c = search (laws, lawful_scalar_after_word) depth 15 fits 3000

  lawful_concept_after : (c : Context) (k : ConstraintTree) → Lawful true (when (word words.Auto) (auto_after c (Some k.mark.at) false (Some k) >>= (λ a. variable_of_auto b c false a)) (expr_opening b c (record { tree = concept_expr k; calling = calling.May })))
  lawful_concept_after c k = search (laws, lawful_auto_after, opens_auto_after, lawful_variable_of_auto, lawful_expr_opening) depth 15 fits 3000

  lawful_concept_opening : (c : Context) → Lawful true (concept_opening b c)
  unfolding concept_opening
  lawful_concept_opening c = search (laws, lawful_constraint, lawful_concept_after) depth 15 fits 3000

  lawful_constexpr_variable : (c : Context) → Lawful true (constexpr_variable b c)
  unfolding constexpr_variable
  lawful_constexpr_variable c = search (lawful_variable, laws) depth 15 fits 3000

  filled_constexpr_variable : (c : Context) → Filled (constexpr_variable b c)
  unfolding constexpr_variable
  filled_constexpr_variable c = search (filling)

  takes_constexpr_variable : (c : Context) → Takes (constexpr_variable b c)
  unfolding constexpr_variable
  takes_constexpr_variable c = search (lawful_variable, laws) depth 15 fits 3000

  filled_constrained_auto : (c : Context) (at : Option Place) (is_constexpr is_const : Bool) → Filled (constrained_auto b c at is_constexpr is_const)
  unfolding constrained_auto
  filled_constrained_auto c at is_constexpr is_const = search (filling, filled_constraint)

  filled_plain_auto : (c : Context) (at : Option Place) (is_constexpr is_const : Bool) → Filled (plain_auto b c at is_constexpr is_const)
  unfolding plain_auto
  filled_plain_auto c at is_constexpr is_const = search (filling, filled_auto_after)

  filled_const_variable : (c : Context) (is_constexpr : Bool) → Filled (const_variable b c is_constexpr)
  unfolding const_variable
  filled_const_variable c is_constexpr = search (filling)

  takes_const_variable : (c : Context) (is_constexpr : Bool) → Takes (const_variable b c is_constexpr)
  unfolding const_variable
  takes_const_variable c is_constexpr = search (filled_constrained_auto, filled_plain_auto, filled_core, lawful_constrained_auto, lawful_plain_auto, lawful_core, lawful_type_after, lawful_variable_of, laws) depth 15 fits 3000

  takes_plain_auto : (c : Context) (at : Option Place) (is_constexpr is_const : Bool) → Takes (plain_auto b c at is_constexpr is_const)
  unfolding plain_auto
  takes_plain_auto c at is_constexpr is_const = search (takes_auto_after, lawful_variable_of_auto, laws) depth 15 fits 3000

  filled_concept_opening : (c : Context) → Filled (concept_opening b c)
  unfolding concept_opening
  filled_concept_opening c = search (filling, filled_constraint)

  takes_concept_opening : (c : Context) → Takes (concept_opening b c)
  unfolding concept_opening
  takes_concept_opening c = search (takes_constraint, lawful_concept_after, laws) depth 15 fits 3000

  lawful_head_opening : (c : Context) → Lawful true (head_opening b c)
  unfolding head_opening
  lawful_head_opening c = search (lawful_head, lawful_head_opening_after, laws) depth 15 fits 3000

  filled_head_opening : (c : Context) → Filled (head_opening b c)
  unfolding head_opening
  filled_head_opening c = search (filling, filled_head)

  takes_head_opening : (c : Context) → Takes (head_opening b c)
  unfolding head_opening
  takes_head_opening c = search (takes_head, lawful_head_opening_after, laws) depth 15 fits 3000

  lawful_core_opening : (c : Context) → Lawful true (core_opening b c)
  unfolding core_opening
  lawful_core_opening c = search (lawful_core, lawful_core_opening_after, laws) depth 15 fits 3000

  filled_core_opening : (c : Context) → Filled (core_opening b c)
  unfolding core_opening
  filled_core_opening c = search (filling, filled_core)

  takes_core_opening : (c : Context) → Takes (core_opening b c)
  unfolding core_opening
  takes_core_opening c = search (takes_core, lawful_core_opening_after, laws) depth 15 fits 3000

  filled_scalar_opening : (c : Context) → Filled (scalar_opening b c)
  unfolding scalar_opening
  filled_scalar_opening c = search (filling)

  takes_scalar_opening : (c : Context) → Takes (scalar_opening b c)
  unfolding scalar_opening
  takes_scalar_opening c = search (lawful_scalar_after_word, laws) depth 15 fits 3000

  lawful_typed_variable : (c : Context) (is_constexpr : Bool) → Lawful true (typed_variable b c is_constexpr)
  unfolding typed_variable
  lawful_typed_variable c is_constexpr = search (lawful_type, lawful_variable_of, laws) depth 15 fits 3000

  filled_typed_variable : (c : Context) (is_constexpr : Bool) → Filled (typed_variable b c is_constexpr)
  unfolding typed_variable
  filled_typed_variable c is_constexpr = search (filling, filled_type)

  takes_typed_variable : (c : Context) (is_constexpr : Bool) → Takes (typed_variable b c is_constexpr)
  unfolding typed_variable
  takes_typed_variable c is_constexpr = search (takes_type, lawful_variable_of, laws) depth 15 fits 3000

  lawful_whole_expr : (c : Context) → Lawful true (whole_expr b c)
  unfolding whole_expr
  lawful_whole_expr c = search (lawful_expr, laws) depth 15 fits 3000

  filled_whole_expr : (c : Context) → Filled (whole_expr b c)
  unfolding whole_expr
  filled_whole_expr c = search (filling, filled_expr)

  takes_whole_expr : (c : Context) → Takes (whole_expr b c)
  unfolding whole_expr
  takes_whole_expr c = search (takes_expr, laws) depth 15 fits 3000

  pub lawful_opening : (c : Context) → Lawful true (opening b c)
  unfolding opening
  lawful_opening c = search (lawful_constexpr_variable, lawful_const_variable, lawful_plain_auto, lawful_concept_opening, lawful_head_opening, lawful_core_opening, lawful_scalar_opening, lawful_typed_variable, lawful_whole_expr, filled_constexpr_variable, filled_const_variable, filled_plain_auto, filled_concept_opening, filled_head_opening, filled_core_opening, filled_scalar_opening, filled_typed_variable, filled_whole_expr, lawful_when, filled_when) depth 15 fits 3000

  pub filled_opening : (c : Context) → Filled (opening b c)
  unfolding opening
  filled_opening c = search (filled_constexpr_variable, filled_const_variable, filled_plain_auto, filled_concept_opening, filled_head_opening, filled_core_opening, filled_scalar_opening, filled_typed_variable, filled_whole_expr, filled_when) depth 15

  pub takes_opening : (c : Context) → Takes (opening b c)
  unfolding opening
  takes_opening c = search (takes_constexpr_variable, takes_const_variable, takes_plain_auto, takes_concept_opening, takes_head_opening, takes_core_opening, takes_scalar_opening, takes_typed_variable, takes_whole_expr, takes_when) depth 15

  -- ---- statements

  lawful_stmt_of : (o : Opening) → Lawful true (stmt_of o)
  unfolding stmt_of
  lawful_stmt_of (OfVariable v) = search laws
  lawful_stmt_of (OfExpr e) = search laws

  pub lawful_assertion : (c : Context) → Lawful true (assertion b c)
  unfolding assertion message
  lawful_assertion c = search (laws, l.expr) depth 20 fits 3000

  pub filled_assertion : (c : Context) → Filled (assertion b c)
  unfolding assertion
  filled_assertion c = search filling

  pub takes_assertion : (c : Context) → Takes (assertion b c)
  unfolding assertion message
  takes_assertion c = search (laws, l.expr) depth 20 fits 3000

  lawful_condition : (c : Context) → Lawful true (condition b c)
  unfolding condition
  lawful_condition c = search (laws, l.expr) depth 15 fits 3000

  lawful_expr_until : (after : Punctuator) (c : Context) → Lawful false (expr_until after b c)
  unfolding expr_until
  lawful_expr_until after c = search (laws, lawful_weak, lawful_expr, filled_expr) depth 15 fits 3000

  lawful_for_init : (c : Context) → Lawful true (for_init b c)
  unfolding for_init
  lawful_for_init c = search (laws, lawful_opening, filled_opening) depth 15 fits 3000

  lawful_for_head : (c : Context) → Lawful false (for_head b c)
  unfolding for_head
  lawful_for_head c = search (laws, lawful_weak, lawful_for_init, lawful_expr_until) depth 15 fits 3000

  lawful_return_value : (c : Context) (at : Place) → Lawful true (expr_until punctuator.Semicolon b c >>= (λ e. token c (punct punctuator.Semicolon) >>= (λ semicolon. node >>= (λ n. give (Return (mark n at) e)))))
  lawful_return_value c at = search (laws, lawful_before, lawful_expr_until) depth 15 fits 3000

  lawful_return : (c : Context) → Lawful true (return_stmt b c)
  unfolding return_stmt
  lawful_return c = search (laws, lawful_return_value) depth 15 fits 3000

pub lawful_empty : (c : Context) → Lawful true (empty_stmt c)
unfolding empty_stmt
lawful_empty c = search laws

filled_empty : (c : Context) → Filled (empty_stmt c)
unfolding empty_stmt
filled_empty c = search filling

takes_empty : (c : Context) → Takes (empty_stmt c)
unfolding empty_stmt
takes_empty c = search laws

pub lawful_jump : (w : Word) (make : Mark → StmtTree) (c : Context) → Lawful true (jump w make c)
unfolding jump
lawful_jump w make c = search laws

filled_jump : (w : Word) (make : Mark → StmtTree) (c : Context) → Filled (jump w make c)
unfolding jump
filled_jump w make c = search filling

takes_jump : (w : Word) (make : Mark → StmtTree) (c : Context) → Takes (jump w make c)
unfolding jump
takes_jump w make c = search laws depth 10

module _ {b : Within} (l : LowerWithin b) where
  pub statement_item : (c : Context) (so_far : List StmtTree) → Item (one_more_item (b.stmt c) so_far)
  statement_item c so_far = search (laws, l.stmt, l.filled, l.takes) depth 15 fits 3000

  lawful_statements : (c : Context) → Lawful false (statements b c)
  unfolding statements
  lawful_statements c = search (laws, statement_item) depth 15 fits 3000

  pub lawful_block : (c : Context) → Lawful true (block b c)
  unfolding block
  lawful_block c = search (laws, lawful_weak, lawful_statements) depth 15 fits 3000

  pub filled_block : (c : Context) → Filled (block b c)
  unfolding block
  filled_block c = search filling

  takes_block : (c : Context) → Takes (block b c)
  unfolding block
  takes_block c = search (laws, lawful_weak, lawful_statements) depth 15 fits 3000

  lawful_substatement : (c : Context) → Lawful true (substatement b c)
  unfolding substatement
  lawful_substatement c = search (laws, l.stmt) depth 15 fits 3000

  lawful_alternative : (c : Context) (at : Place) (is_constexpr : Bool) (test : ExprTree) (chosen : StmtTree) → Lawful true (alternative b c at is_constexpr test chosen)
  unfolding alternative
  lawful_alternative c at is_constexpr test chosen = search (laws, lawful_substatement) depth 15 fits 3000

  lawful_if : (c : Context) → Lawful true (if_stmt b c)
  unfolding if_stmt
  lawful_if c = search (laws, lawful_condition, l.base, lawful_substatement, lawful_alternative) depth 15 fits 3000

  lawful_while : (c : Context) → Lawful true (while_stmt b c)
  unfolding while_stmt
  lawful_while c = search (laws, lawful_condition, l.base, lawful_substatement) depth 15 fits 3000

  lawful_for_scope : (c : Context) (at : Place) → Lawful true (in_scope (for_parts b c at))
  unfolding for_parts
  lawful_for_scope c at = search (laws, lawful_for_head, l.base, lawful_substatement) depth 15 fits 3000

  lawful_for : (c : Context) → Lawful true (for_stmt b c)
  unfolding for_stmt
  lawful_for c = search (laws, lawful_for_scope) depth 15 fits 3000

  lawful_assert : (c : Context) → Lawful true (assert_stmt b.base c)
  unfolding assert_stmt
  lawful_assert c = search (laws, lawful_assertion, l.base)

  filled_assert : (c : Context) → Filled (assert_stmt b.base c)
  unfolding assert_stmt
  filled_assert c = search (filling, filled_assertion, l.base)

  takes_assert : (c : Context) → Takes (assert_stmt b.base c)
  unfolding assert_stmt
  takes_assert c = search (laws, takes_assertion, l.base)

  lawful_open_stmt : (c : Context) → Lawful true (open_stmt b.base c)
  unfolding open_stmt
  lawful_open_stmt c = search (laws, lawful_opening, lawful_stmt_of, l.base)

  filled_open_stmt : (c : Context) → Filled (open_stmt b.base c)
  unfolding open_stmt
  filled_open_stmt c = search (filling, filled_opening, l.base)

  takes_open_stmt : (c : Context) → Takes (open_stmt b.base c)
  unfolding open_stmt
  takes_open_stmt c = search (laws, takes_opening, lawful_stmt_of, l.base)

  filled_return : (c : Context) → Filled (return_stmt b.base c)
  unfolding return_stmt
  filled_return c = search filling

  takes_return : (c : Context) → Takes (return_stmt b.base c)
  unfolding return_stmt
  takes_return c = search (lawful_return_value, l.base, laws) depth 15 fits 3000

  filled_if : (c : Context) → Filled (if_stmt b c)
  unfolding if_stmt
  filled_if c = search filling

  takes_if : (c : Context) → Takes (if_stmt b c)
  unfolding if_stmt
  takes_if c = search (lawful_condition, l.base, lawful_substatement, lawful_alternative, laws) depth 15 fits 3000

  filled_while : (c : Context) → Filled (while_stmt b c)
  unfolding while_stmt
  filled_while c = search filling

  takes_while : (c : Context) → Takes (while_stmt b c)
  unfolding while_stmt
  takes_while c = search (lawful_condition, l.base, lawful_substatement, laws) depth 15 fits 3000

  filled_for : (c : Context) → Filled (for_stmt b c)
  unfolding for_stmt
  filled_for c = search filling

  takes_for : (c : Context) → Takes (for_stmt b c)
  unfolding for_stmt
  takes_for c = search (lawful_for_scope, laws) depth 15 fits 3000

  pub lawful_stmt : (c : Context) → Lawful true (stmt b c)
  unfolding stmt
  lawful_stmt c = search (lawful_empty, lawful_block, lawful_assert, lawful_jump, lawful_return, lawful_if, lawful_while, lawful_for, lawful_open_stmt, filled_empty, filled_block, filled_assert, filled_jump, filled_return, filled_if, filled_while, filled_for, filled_open_stmt, lawful_when, filled_when, l.base) depth 15 fits 3000

  pub filled_stmt : (c : Context) → Filled (stmt b c)
  unfolding stmt
  filled_stmt c = search (filled_empty, filled_block, filled_assert, filled_jump, filled_return, filled_if, filled_while, filled_for, filled_open_stmt, filled_when) depth 15

  pub takes_stmt : (c : Context) → Takes (stmt b c)
  unfolding stmt
  takes_stmt c = search (takes_empty, takes_block, takes_assert, takes_jump, takes_return, takes_if, takes_while, takes_for, takes_open_stmt, takes_when) depth 15

pub within_levels : (n : ℕ) → LowerWithin (unit_levels n)
unfolding statement_levels
within_levels zero = record { base = lower_levels zero; stmt = λ c. lawful_closed true StmtTree; filled = λ c. filled_closed StmtTree; takes = λ c. takes_closed StmtTree }
within_levels (suc n) = record { base = lower_levels (suc n); stmt = lawful_stmt (within_levels n); filled = filled_stmt (within_levels n); takes = takes_stmt (within_levels n) }
