-- The nodes of statements are numbered without a gap.
use Rattle.std.proofs.Common.{◌≡◌, ℕ, zero, suc, Bool, false, List, [], ◌∷◌, ◌++◌, Option, Some, None, refl, sym, ap, ◌∙◌, append_assoc, append-nil}
use Rattle.cx_base.specs.declared.place.Place.{Place}
use Rattle.cx_base.specs.declared.value.Scalar.{Scalar}
use Rattle.cx_tokens.specs.declared.punctuator.Punctuator.TheVariants as punctuator
use Rattle.cx_tokens.specs.Pieces.{Piece}
use Rattle.cx_syntax.specs.declared.context.Context.{Context}
use Rattle.cx_syntax.specs.Productions.{Production, ◌>>=◌, when, give, token}
use Rattle.cx_syntax.specs.Combinators.{node, in_scope}
use Rattle.cx_syntax.specs.Classes.{punct, word, any_but}
use Rattle.cx_productions.specs.Trees.{ExprTree, TypeTree, mark, Mark, ConstraintTree}
use Rattle.cx_productions.specs.Below.{Below}
use Rattle.cx_productions.specs.Scalars.{Core, scalar_after, scalar_at, scalar_of_word}
use Rattle.cx_tokens.specs.declared.punctuator.Punctuator.{Punctuator}
use Rattle.cx_syntax.specs.Contexts.{deeper}
use Rattle.cx_productions.specs.declared.calling.Calling.{Calling}
use Rattle.cx_productions.specs.Primaries.{Operand, list_after}
use Rattle.cx_tokens.specs.declared.word.Word.TheVariants as words
use Rattle.cx_productions.specs.StatementTrees.{Return, AutoTree, Opening, OfVariable, OfExpr, StmtTree}
use Rattle.cx_productions.specs.Units.{unit_levels, statement_levels}
use Rattle.cx_productions.specs.declared.calling.Calling.TheVariants as calling
use Rattle.cx_productions.specs.Statements.{concept_expr, uncalled_opening, Within, value_init, list_init, init, variable_after, auto_variable_after, auto_after, variable_of, variable_of_auto, expr_opening, whole_expr, variable_of_core, core_opening_after, head_opening_after, head_opening, core_opening, scalar_opening, typed_variable, constrained_auto, plain_auto, const_variable, variable, constexpr_variable, concept_opening, opening, stmt_of, open_stmt, message, assertion, statements, block, substatement, condition, alternative, if_stmt, while_stmt, expr_until, for_init, for_head, for_parts, for_stmt, return_stmt, jump, empty_stmt, assert_stmt, stmt}
use Rattle.cx_productions.specs.Scalars.{scalar_at}
use Rattle.cx_productions.specs.Trees.{ArgumentTrees, no_argument, and_type, and_value}
use Rattle.cx_productions.specs.Statements.{with_arguments}
use Rattle.cx_productions.specs.StatementTrees.{InitTree, ForHead, AssertTree, stmts}
use Rattle.cx_productions.specs.Nodes.{expr_nodes, type_nodes, core_nodes, argument_nodes}
use Rattle.cx_productions.specs.StatementNodes.{constraint_nodes, maybe_constraint_nodes, maybe_expr_nodes, auto_nodes, init_nodes, opening_nodes, maybe_opening_nodes, head_nodes, assert_nodes, stmt_nodes, stmts_nodes}
use Rattle.cx_syntax_laws.proofs.Numbering.{Numbered, numbering, then_own, then_using, numbered_closed, numbered_items, numbered_from}
use Rattle.cx_production_laws.proofs.NumberLaws.{numbers, numbers_both, counting, Counting, counting_levels, then_after_head, then_below_expr, then_constraint, then_core, then_expr, then_expr_of, then_exprs, then_head, then_list_after, then_scalar_after, then_scalar_list, then_type, then_type_after}

three_only : (a b c : List Mark) → numbers ((a ++ b) ++ c) ≡ (numbers a ++ numbers b) ++ numbers c
three_only a b c = numbers_both (a ++ b) c ∙ ap (λ (l : List ℕ). l ++ numbers c) (numbers_both a b)

-- a concept's name as an expression has the nodes of the constraint
concept_nodes : (m : Mark) (name : List ℕ) (args : ArgumentTrees) → expr_nodes (with_arguments m name args) ≡ argument_nodes args ++ m ∷ []
concept_nodes m name no_argument = refl
concept_nodes m name (and_type t others) = refl
concept_nodes m name (and_value e others) = refl

one_stmt : (x : StmtTree) → numbers (stmts_nodes (stmts (x ∷ []))) ≡ numbers (stmt_nodes x)
one_stmt x = ap numbers (append-nil (stmt_nodes x))

last_stmt : (xs : List StmtTree) (x : StmtTree) → numbers (stmts_nodes (stmts (xs ++ x ∷ []))) ≡ numbers (stmts_nodes (stmts xs)) ++ numbers (stmt_nodes x)
last_stmt [] x = one_stmt x
last_stmt (y ∷ ys) x =
    numbers_both (stmt_nodes y) (stmts_nodes (stmts (ys ++ x ∷ []))) ∙ ap (λ (l : List ℕ). numbers (stmt_nodes y) ++ l) (last_stmt ys x)
    ∙ sym (append_assoc (numbers (stmt_nodes y)) (numbers (stmts_nodes (stmts ys))) (numbers (stmt_nodes x)))
    ∙ ap (λ (l : List ℕ). l ++ numbers (stmt_nodes x)) (sym (numbers_both (stmt_nodes y) (stmts_nodes (stmts ys))))

pub record CountingWithin (b : Within) : Type 0 where
  pub base : Counting b.base
  pub stmt : (c : Context) → Numbered [] (λ (x : StmtTree). numbers (stmt_nodes x)) (b.stmt c)

pub numbers_auto_after : (c : Context) (at : Option Place) (is_const : Bool) (k : Option ConstraintTree) → Numbered (numbers (maybe_constraint_nodes k)) (λ (x : AutoTree). numbers (auto_nodes x)) (auto_after c at is_const k)
unfolding auto_after
numbers_auto_after c at is_const k = search (numbering, counting) depth 40 fits 8000

then_auto_after : {B : Type 0} (of' : B → List ℕ) (c : Context) (at : Option Place) (is_const : Bool) (k : Option ConstraintTree) (f : AutoTree → Production B) → ((x : AutoTree) → Numbered (numbers (auto_nodes x)) of' (f x)) → Numbered (numbers (maybe_constraint_nodes k)) of' (auto_after c at is_const k >>= f)
then_auto_after of' c at is_const k f m = then_using (numbers (maybe_constraint_nodes k)) of' f (λ (x : AutoTree). numbers (auto_nodes x)) (numbers_auto_after c at is_const k) m

then_auto_constrained : {B : Type 0} (of' : B → List ℕ) (c : Context) (at : Option Place) (is_const : Bool) (k : ConstraintTree) (f : AutoTree → Production B) → ((x : AutoTree) → Numbered (numbers (auto_nodes x)) of' (f x)) → Numbered (numbers (constraint_nodes k)) of' (auto_after c at is_const (Some k) >>= f)
then_auto_constrained of' c at is_const k f m = then_auto_after of' c at is_const (Some k) f m

then_auto_plain : {B : Type 0} (of' : B → List ℕ) (c : Context) (at : Option Place) (is_const : Bool) (f : AutoTree → Production B) → ((x : AutoTree) → Numbered (numbers (auto_nodes x)) of' (f x)) → Numbered [] of' (auto_after c at is_const None >>= f)
then_auto_plain of' c at is_const f m = then_auto_after of' c at is_const None f m

module _ {b : Below} (l : Counting b) where
  pub numbers_value_init : (c : Context) → Numbered [] (λ (x : InitTree). numbers (init_nodes x)) (value_init b c)
  unfolding value_init
  numbers_value_init c = search (then_expr, numbering, counting) depth 40 fits 8000

  then_value_init : (before : List ℕ) {B : Type 0} (of' : B → List ℕ) (c : Context) (f : InitTree → Production B) → ((x : InitTree) → Numbered (before ++ numbers (init_nodes x)) of' (f x)) → Numbered before of' (value_init b c >>= f)
  then_value_init before of' c f m = then_own before of' f (λ (x : InitTree). numbers (init_nodes x)) (numbers_value_init c) m

  pub numbers_init : (c : Context) → Numbered [] (λ (x : InitTree). numbers (init_nodes x)) (init b c)
  unfolding init list_init value_init
  numbers_init c = search (then_exprs, then_expr, numbering, counting) depth 40 fits 8000

  then_init : (before : List ℕ) {B : Type 0} (of' : B → List ℕ) (c : Context) (f : InitTree → Production B) → ((x : InitTree) → Numbered (before ++ numbers (init_nodes x)) of' (f x)) → Numbered before of' (init b c >>= f)
  then_init before of' c f m = then_own before of' f (λ (x : InitTree). numbers (init_nodes x)) (numbers_init c) m

  pub numbers_variable_of : (c : Context) (is_constexpr : Bool) (of : TypeTree) → Numbered (numbers (type_nodes of)) (λ (x : Opening). numbers (opening_nodes x)) (variable_of b c is_constexpr of)
  unfolding variable_of variable_after
  numbers_variable_of c is_constexpr of = search (then_init, numbering, counting) depth 40 fits 8000

  then_variable_of : {B : Type 0} (of' : B → List ℕ) (c : Context) (is_constexpr : Bool) (of : TypeTree) (f : Opening → Production B) → ((x : Opening) → Numbered (numbers (opening_nodes x)) of' (f x)) → Numbered (numbers (type_nodes of)) of' (variable_of b c is_constexpr of >>= f)
  then_variable_of of' c is_constexpr of f m = then_using (numbers (type_nodes of)) of' f (λ (x : Opening). numbers (opening_nodes x)) (numbers_variable_of c is_constexpr of) m

  pub numbers_variable_of_auto : (c : Context) (is_constexpr : Bool) (of : AutoTree) → Numbered (numbers (auto_nodes of)) (λ (x : Opening). numbers (opening_nodes x)) (variable_of_auto b c is_constexpr of)
  unfolding variable_of_auto auto_variable_after
  numbers_variable_of_auto c is_constexpr of = search (then_value_init, numbering, counting) depth 40 fits 8000

  then_variable_of_auto : {B : Type 0} (of' : B → List ℕ) (c : Context) (is_constexpr : Bool) (of : AutoTree) (f : Opening → Production B) → ((x : Opening) → Numbered (numbers (opening_nodes x)) of' (f x)) → Numbered (numbers (auto_nodes of)) of' (variable_of_auto b c is_constexpr of >>= f)
  then_variable_of_auto of' c is_constexpr of f m = then_using (numbers (auto_nodes of)) of' f (λ (x : Opening). numbers (opening_nodes x)) (numbers_variable_of_auto c is_constexpr of) m

  pub numbers_expr_opening : (c : Context) (operand : Operand) → Numbered (numbers (expr_nodes operand.tree)) (λ (x : Opening). numbers (opening_nodes x)) (expr_opening b c operand)
  unfolding expr_opening
  numbers_expr_opening c operand = search (then_expr_of, numbering, counting) depth 40 fits 8000

  then_expr_opening : {B : Type 0} (of' : B → List ℕ) (c : Context) (operand : Operand) (f : Opening → Production B) → ((x : Opening) → Numbered (numbers (opening_nodes x)) of' (f x)) → Numbered (numbers (expr_nodes operand.tree)) of' (expr_opening b c operand >>= f)
  then_expr_opening of' c operand f m = then_using (numbers (expr_nodes operand.tree)) of' f (λ (x : Opening). numbers (opening_nodes x)) (numbers_expr_opening c operand) m

  pub numbers_constrained_auto : (c : Context) (at : Option Place) (is_constexpr is_const : Bool) → Numbered [] (λ (x : Opening). numbers (opening_nodes x)) (constrained_auto b c at is_constexpr is_const)
  unfolding constrained_auto
  numbers_constrained_auto c at is_constexpr is_const = search (then_auto_constrained, then_constraint, numbers_variable_of_auto, numbering, counting) depth 40 fits 8000

  then_constrained_auto : (before : List ℕ) {B : Type 0} (of' : B → List ℕ) (c : Context) (at : Option Place) (is_constexpr is_const : Bool) (f : Opening → Production B) → ((x : Opening) → Numbered (before ++ numbers (opening_nodes x)) of' (f x)) → Numbered before of' (constrained_auto b c at is_constexpr is_const >>= f)
  then_constrained_auto before of' c at is_constexpr is_const f m = then_own before of' f (λ (x : Opening). numbers (opening_nodes x)) (numbers_constrained_auto c at is_constexpr is_const) m

  pub numbers_plain_auto : (c : Context) (at : Option Place) (is_constexpr is_const : Bool) → Numbered [] (λ (x : Opening). numbers (opening_nodes x)) (plain_auto b c at is_constexpr is_const)
  unfolding plain_auto
  numbers_plain_auto c at is_constexpr is_const = search (then_auto_plain, numbers_variable_of_auto, numbering, counting) depth 40 fits 8000

  then_plain_auto : (before : List ℕ) {B : Type 0} (of' : B → List ℕ) (c : Context) (at : Option Place) (is_constexpr is_const : Bool) (f : Opening → Production B) → ((x : Opening) → Numbered (before ++ numbers (opening_nodes x)) of' (f x)) → Numbered before of' (plain_auto b c at is_constexpr is_const >>= f)
  then_plain_auto before of' c at is_constexpr is_const f m = then_own before of' f (λ (x : Opening). numbers (opening_nodes x)) (numbers_plain_auto c at is_constexpr is_const) m

  pub numbers_const_variable : (c : Context) (is_constexpr : Bool) → Numbered [] (λ (x : Opening). numbers (opening_nodes x)) (const_variable b c is_constexpr)
  unfolding const_variable constrained_auto plain_auto
  numbers_const_variable c is_constexpr = search (numbers_constrained_auto, numbers_plain_auto, then_core, then_type_after, numbers_variable_of, numbering, counting) depth 40 fits 8000

  then_const_variable : (before : List ℕ) {B : Type 0} (of' : B → List ℕ) (c : Context) (is_constexpr : Bool) (f : Opening → Production B) → ((x : Opening) → Numbered (before ++ numbers (opening_nodes x)) of' (f x)) → Numbered before of' (const_variable b c is_constexpr >>= f)
  then_const_variable before of' c is_constexpr f m = then_own before of' f (λ (x : Opening). numbers (opening_nodes x)) (numbers_const_variable c is_constexpr) m

  pub numbers_variable : (c : Context) (is_constexpr : Bool) → Numbered [] (λ (x : Opening). numbers (opening_nodes x)) (variable b c is_constexpr)
  unfolding variable constrained_auto plain_auto typed_variable const_variable
  numbers_variable c is_constexpr = search (numbers_constrained_auto, numbers_plain_auto, numbers_const_variable, then_type, numbers_variable_of, numbering, counting) depth 40 fits 8000

  then_variable : (before : List ℕ) {B : Type 0} (of' : B → List ℕ) (c : Context) (is_constexpr : Bool) (f : Opening → Production B) → ((x : Opening) → Numbered (before ++ numbers (opening_nodes x)) of' (f x)) → Numbered before of' (variable b c is_constexpr >>= f)
  then_variable before of' c is_constexpr f m = then_own before of' f (λ (x : Opening). numbers (opening_nodes x)) (numbers_variable c is_constexpr) m

  pub numbers_variable_of_core : (c : Context) (k : Core) → Numbered (numbers (core_nodes k.tree)) (λ (x : Opening). numbers (opening_nodes x)) (variable_of_core b c k)
  unfolding variable_of_core
  numbers_variable_of_core c k = search (then_type_after, numbers_variable_of, numbering, counting) depth 40 fits 8000

  then_variable_of_core : {B : Type 0} (of' : B → List ℕ) (c : Context) (k : Core) (f : Opening → Production B) → ((x : Opening) → Numbered (numbers (opening_nodes x)) of' (f x)) → Numbered (numbers (core_nodes k.tree)) of' (variable_of_core b c k >>= f)
  then_variable_of_core of' c k f m = then_using (numbers (core_nodes k.tree)) of' f (λ (x : Opening). numbers (opening_nodes x)) (numbers_variable_of_core c k) m

  numbers_uncalled : (c : Context) (e : ExprTree) (calls : Calling) → Numbered (numbers (expr_nodes e)) (λ (x : Opening). numbers (opening_nodes x)) (expr_opening b c (record { tree = e; calling = calls }))
  numbers_uncalled c e calls = numbers_expr_opening c (record { tree = e; calling = calls })

  pub numbers_core_opening_after : (c : Context) (k : Core) → Numbered (numbers (core_nodes k.tree)) (λ (x : Opening). numbers (opening_nodes x)) (core_opening_after b c k)
  unfolding core_opening_after
  numbers_core_opening_after c k = search (numbers_uncalled, then_list_after, numbers_variable_of_core, numbering, counting) depth 40 fits 8000

  then_core_opening_after : {B : Type 0} (of' : B → List ℕ) (c : Context) (k : Core) (f : Opening → Production B) → ((x : Opening) → Numbered (numbers (opening_nodes x)) of' (f x)) → Numbered (numbers (core_nodes k.tree)) of' (core_opening_after b c k >>= f)
  then_core_opening_after of' c k f m = then_using (numbers (core_nodes k.tree)) of' f (λ (x : Opening). numbers (opening_nodes x)) (numbers_core_opening_after c k) m

  pub numbers_head_opening_after : (c : Context) (k : Core) → Numbered (numbers (core_nodes k.tree)) (λ (x : Opening). numbers (opening_nodes x)) (head_opening_after b c k)
  unfolding head_opening_after
  numbers_head_opening_after c k = search (numbers_uncalled, then_after_head, numbers_variable_of_core, numbering, counting) depth 40 fits 8000

  then_head_opening_after : {B : Type 0} (of' : B → List ℕ) (c : Context) (k : Core) (f : Opening → Production B) → ((x : Opening) → Numbered (numbers (opening_nodes x)) of' (f x)) → Numbered (numbers (core_nodes k.tree)) of' (head_opening_after b c k >>= f)
  then_head_opening_after of' c k f m = then_using (numbers (core_nodes k.tree)) of' f (λ (x : Opening). numbers (opening_nodes x)) (numbers_head_opening_after c k) m

  numbers_scalar_variable : (c : Context) (t : Piece) (s : Scalar) → Numbered [] (λ (x : Opening). numbers (opening_nodes x)) (variable_of_core b c (scalar_at t s))
  numbers_scalar_variable c t s = numbers_variable_of_core c (scalar_at t s)

  pub numbers_scalar_after_word : (c : Context) (t : Piece) → Numbered [] (λ (x : Opening). numbers (opening_nodes x)) (when (punct punctuator.LeftBrace) (list_after b c (scalar_at t (scalar_of_word t)) >>= (λ operand. uncalled_opening b c operand)) (scalar_after (deeper c) t >>= (λ s. variable_of_core b c (scalar_at t s))))
  numbers_scalar_after_word c t = search (then_scalar_list, numbers_uncalled, numbers_scalar_variable, then_scalar_after, numbering, counting) depth 40 fits 8000

  then_scalar_after_word : (before : List ℕ) {B : Type 0} (of' : B → List ℕ) (c : Context) (t : Piece) (f : Opening → Production B) → ((x : Opening) → Numbered (before ++ numbers (opening_nodes x)) of' (f x)) → Numbered before of' (when (punct punctuator.LeftBrace) (list_after b c (scalar_at t (scalar_of_word t)) >>= (λ operand. uncalled_opening b c operand)) (scalar_after (deeper c) t >>= (λ s. variable_of_core b c (scalar_at t s))) >>= f)
  then_scalar_after_word before of' c t f m = then_own before of' f (λ (x : Opening). numbers (opening_nodes x)) (numbers_scalar_after_word c t) m

  pub numbers_scalar_opening : (c : Context) → Numbered [] (λ (x : Opening). numbers (opening_nodes x)) (scalar_opening b c)
  unfolding scalar_opening
  numbers_scalar_opening c = search (numbers_scalar_after_word, numbering, counting) depth 40 fits 8000

  then_scalar_opening : (before : List ℕ) {B : Type 0} (of' : B → List ℕ) (c : Context) (f : Opening → Production B) → ((x : Opening) → Numbered (before ++ numbers (opening_nodes x)) of' (f x)) → Numbered before of' (scalar_opening b c >>= f)
  then_scalar_opening before of' c f m = then_own before of' f (λ (x : Opening). numbers (opening_nodes x)) (numbers_scalar_opening c) m

  numbers_concept_expr : (c : Context) (k : ConstraintTree) → Numbered (numbers (constraint_nodes k)) (λ (x : Opening). numbers (opening_nodes x)) (expr_opening b c (record { tree = concept_expr k; calling = calling.May }))
  numbers_concept_expr c k = numbered_from (ap numbers (sym (concept_nodes k.mark k.name k.args))) (numbers_uncalled c (concept_expr k) calling.May)

  pub numbers_concept_after : (c : Context) (k : ConstraintTree) → Numbered (numbers (constraint_nodes k)) (λ (x : Opening). numbers (opening_nodes x)) (when (word words.Auto) (auto_after c (Some k.mark.at) false (Some k) >>= (λ a. variable_of_auto b c false a)) (expr_opening b c (record { tree = concept_expr k; calling = calling.May })))
  numbers_concept_after c k = search (numbers_concept_expr, then_auto_constrained, numbers_variable_of_auto, numbering, counting) depth 40 fits 8000

  then_concept_after : {B : Type 0} (of' : B → List ℕ) (c : Context) (k : ConstraintTree) (f : Opening → Production B) → ((x : Opening) → Numbered (numbers (opening_nodes x)) of' (f x)) → Numbered (numbers (constraint_nodes k)) of' (when (word words.Auto) (auto_after c (Some k.mark.at) false (Some k) >>= (λ a. variable_of_auto b c false a)) (expr_opening b c (record { tree = concept_expr k; calling = calling.May })) >>= f)
  then_concept_after of' c k f m = then_using (numbers (constraint_nodes k)) of' f (λ (x : Opening). numbers (opening_nodes x)) (numbers_concept_after c k) m

  pub numbers_concept_opening : (c : Context) → Numbered [] (λ (x : Opening). numbers (opening_nodes x)) (concept_opening b c)
  unfolding concept_opening
  numbers_concept_opening c = search (then_constraint, numbers_concept_after, numbering, counting) depth 40 fits 8000

  then_concept_opening : (before : List ℕ) {B : Type 0} (of' : B → List ℕ) (c : Context) (f : Opening → Production B) → ((x : Opening) → Numbered (before ++ numbers (opening_nodes x)) of' (f x)) → Numbered before of' (concept_opening b c >>= f)
  then_concept_opening before of' c f m = then_own before of' f (λ (x : Opening). numbers (opening_nodes x)) (numbers_concept_opening c) m

  pub numbers_constexpr_variable : (c : Context) → Numbered [] (λ (x : Opening). numbers (opening_nodes x)) (constexpr_variable b c)
  unfolding constexpr_variable
  numbers_constexpr_variable c = search (numbers_variable, numbering, counting) depth 40 fits 8000

  then_constexpr_variable : (before : List ℕ) {B : Type 0} (of' : B → List ℕ) (c : Context) (f : Opening → Production B) → ((x : Opening) → Numbered (before ++ numbers (opening_nodes x)) of' (f x)) → Numbered before of' (constexpr_variable b c >>= f)
  then_constexpr_variable before of' c f m = then_own before of' f (λ (x : Opening). numbers (opening_nodes x)) (numbers_constexpr_variable c) m

  pub numbers_head_opening : (c : Context) → Numbered [] (λ (x : Opening). numbers (opening_nodes x)) (head_opening b c)
  unfolding head_opening
  numbers_head_opening c = search (then_head, numbers_head_opening_after, numbering, counting) depth 40 fits 8000

  then_head_opening : (before : List ℕ) {B : Type 0} (of' : B → List ℕ) (c : Context) (f : Opening → Production B) → ((x : Opening) → Numbered (before ++ numbers (opening_nodes x)) of' (f x)) → Numbered before of' (head_opening b c >>= f)
  then_head_opening before of' c f m = then_own before of' f (λ (x : Opening). numbers (opening_nodes x)) (numbers_head_opening c) m

  pub numbers_core_opening : (c : Context) → Numbered [] (λ (x : Opening). numbers (opening_nodes x)) (core_opening b c)
  unfolding core_opening
  numbers_core_opening c = search (then_core, numbers_core_opening_after, numbering, counting) depth 40 fits 8000

  then_core_opening : (before : List ℕ) {B : Type 0} (of' : B → List ℕ) (c : Context) (f : Opening → Production B) → ((x : Opening) → Numbered (before ++ numbers (opening_nodes x)) of' (f x)) → Numbered before of' (core_opening b c >>= f)
  then_core_opening before of' c f m = then_own before of' f (λ (x : Opening). numbers (opening_nodes x)) (numbers_core_opening c) m

  pub numbers_typed_variable : (c : Context) (is_constexpr : Bool) → Numbered [] (λ (x : Opening). numbers (opening_nodes x)) (typed_variable b c is_constexpr)
  unfolding typed_variable
  numbers_typed_variable c is_constexpr = search (then_type, numbers_variable_of, numbering, counting) depth 40 fits 8000

  then_typed_variable : (before : List ℕ) {B : Type 0} (of' : B → List ℕ) (c : Context) (is_constexpr : Bool) (f : Opening → Production B) → ((x : Opening) → Numbered (before ++ numbers (opening_nodes x)) of' (f x)) → Numbered before of' (typed_variable b c is_constexpr >>= f)
  then_typed_variable before of' c is_constexpr f m = then_own before of' f (λ (x : Opening). numbers (opening_nodes x)) (numbers_typed_variable c is_constexpr) m

  pub numbers_whole_expr : (c : Context) → Numbered [] (λ (x : Opening). numbers (opening_nodes x)) (whole_expr b c)
  unfolding whole_expr
  numbers_whole_expr c = search (then_expr, numbering, counting) depth 40 fits 8000

  then_whole_expr : (before : List ℕ) {B : Type 0} (of' : B → List ℕ) (c : Context) (f : Opening → Production B) → ((x : Opening) → Numbered (before ++ numbers (opening_nodes x)) of' (f x)) → Numbered before of' (whole_expr b c >>= f)
  then_whole_expr before of' c f m = then_own before of' f (λ (x : Opening). numbers (opening_nodes x)) (numbers_whole_expr c) m

  pub numbers_opening : (c : Context) → Numbered [] (λ (x : Opening). numbers (opening_nodes x)) (opening b c)
  unfolding opening
  numbers_opening c = search (numbers_constexpr_variable, numbers_const_variable, numbers_plain_auto, numbers_concept_opening, numbers_head_opening, numbers_core_opening, numbers_scalar_opening, numbers_typed_variable, numbers_whole_expr, numbering, counting) depth 40 fits 8000

  then_opening : (before : List ℕ) {B : Type 0} (of' : B → List ℕ) (c : Context) (f : Opening → Production B) → ((x : Opening) → Numbered (before ++ numbers (opening_nodes x)) of' (f x)) → Numbered before of' (opening b c >>= f)
  then_opening before of' c f m = then_own before of' f (λ (x : Opening). numbers (opening_nodes x)) (numbers_opening c) m

  pub numbers_stmt_of : (o : Opening) → Numbered (numbers (opening_nodes o)) (λ (x : StmtTree). numbers (stmt_nodes x)) (stmt_of o)
  unfolding stmt_of
  numbers_stmt_of (OfVariable v) = search (numbering, counting, three_only) depth 40 fits 8000
  numbers_stmt_of (OfExpr e) = search (numbering, counting, three_only) depth 40 fits 8000

  then_stmt_of : {B : Type 0} (of' : B → List ℕ) (o : Opening) (f : StmtTree → Production B) → ((x : StmtTree) → Numbered (numbers (stmt_nodes x)) of' (f x)) → Numbered (numbers (opening_nodes o)) of' (stmt_of o >>= f)
  then_stmt_of of' o f m = then_using (numbers (opening_nodes o)) of' f (λ (x : StmtTree). numbers (stmt_nodes x)) (numbers_stmt_of o) m

  pub numbers_assertion : (c : Context) → Numbered [] (λ (x : AssertTree). numbers (assert_nodes x)) (assertion b c)
  unfolding assertion message
  numbers_assertion c = search (then_below_expr, numbering, counting) depth 40 fits 8000

  then_assertion : (before : List ℕ) {B : Type 0} (of' : B → List ℕ) (c : Context) (f : AssertTree → Production B) → ((x : AssertTree) → Numbered (before ++ numbers (assert_nodes x)) of' (f x)) → Numbered before of' (assertion b c >>= f)
  then_assertion before of' c f m = then_own before of' f (λ (x : AssertTree). numbers (assert_nodes x)) (numbers_assertion c) m

  pub numbers_condition : (c : Context) → Numbered [] (λ (x : ExprTree). numbers (expr_nodes x)) (condition b c)
  unfolding condition
  numbers_condition c = search (then_below_expr, numbering, counting) depth 40 fits 8000

  then_condition : (before : List ℕ) {B : Type 0} (of' : B → List ℕ) (c : Context) (f : ExprTree → Production B) → ((x : ExprTree) → Numbered (before ++ numbers (expr_nodes x)) of' (f x)) → Numbered before of' (condition b c >>= f)
  then_condition before of' c f m = then_own before of' f (λ (x : ExprTree). numbers (expr_nodes x)) (numbers_condition c) m

  pub numbers_expr_until : (after : Punctuator) (c : Context) → Numbered [] (λ (x : Option ExprTree). numbers (maybe_expr_nodes x)) (expr_until after b c)
  unfolding expr_until
  numbers_expr_until after c = search (then_expr, numbering, counting) depth 40 fits 8000

  then_expr_until : (before : List ℕ) {B : Type 0} (of' : B → List ℕ) (after : Punctuator) (c : Context) (f : Option ExprTree → Production B) → ((x : Option ExprTree) → Numbered (before ++ numbers (maybe_expr_nodes x)) of' (f x)) → Numbered before of' (expr_until after b c >>= f)
  then_expr_until before of' after c f m = then_own before of' f (λ (x : Option ExprTree). numbers (maybe_expr_nodes x)) (numbers_expr_until after c) m

  pub numbers_for_init : (c : Context) → Numbered [] (λ (x : Option Opening). numbers (maybe_opening_nodes x)) (for_init b c)
  unfolding for_init
  numbers_for_init c = search (then_opening, numbering, counting) depth 40 fits 8000

  then_for_init : (before : List ℕ) {B : Type 0} (of' : B → List ℕ) (c : Context) (f : Option Opening → Production B) → ((x : Option Opening) → Numbered (before ++ numbers (maybe_opening_nodes x)) of' (f x)) → Numbered before of' (for_init b c >>= f)
  then_for_init before of' c f m = then_own before of' f (λ (x : Option Opening). numbers (maybe_opening_nodes x)) (numbers_for_init c) m

  pub numbers_for_head : (c : Context) → Numbered [] (λ (x : ForHead). numbers (head_nodes x)) (for_head b c)
  unfolding for_head
  numbers_for_head c = search (then_for_init, then_expr_until, numbering, counting, three_only) depth 40 fits 8000

  then_for_head : (before : List ℕ) {B : Type 0} (of' : B → List ℕ) (c : Context) (f : ForHead → Production B) → ((x : ForHead) → Numbered (before ++ numbers (head_nodes x)) of' (f x)) → Numbered before of' (for_head b c >>= f)
  then_for_head before of' c f m = then_own before of' f (λ (x : ForHead). numbers (head_nodes x)) (numbers_for_head c) m

  pub numbers_return_value : (c : Context) (at : Place) → Numbered [] (λ (x : StmtTree). numbers (stmt_nodes x)) (expr_until punctuator.Semicolon b c >>= (λ e. token c (punct punctuator.Semicolon) >>= (λ semicolon. node >>= (λ n. give (Return (mark n at) e)))))
  numbers_return_value c at = search (then_expr_until, numbering, counting) depth 40 fits 8000

  then_return_value : (before : List ℕ) {B : Type 0} (of' : B → List ℕ) (c : Context) (at : Place) (f : StmtTree → Production B) → ((x : StmtTree) → Numbered (before ++ numbers (stmt_nodes x)) of' (f x)) → Numbered before of' (expr_until punctuator.Semicolon b c >>= (λ e. token c (punct punctuator.Semicolon) >>= (λ semicolon. node >>= (λ n. give (Return (mark n at) e)))) >>= f)
  then_return_value before of' c at f m = then_own before of' f (λ (x : StmtTree). numbers (stmt_nodes x)) (numbers_return_value c at) m

  pub numbers_return : (c : Context) → Numbered [] (λ (x : StmtTree). numbers (stmt_nodes x)) (return_stmt b c)
  unfolding return_stmt
  numbers_return c = search (numbers_return_value, numbering, counting) depth 40 fits 8000

  then_return : (before : List ℕ) {B : Type 0} (of' : B → List ℕ) (c : Context) (f : StmtTree → Production B) → ((x : StmtTree) → Numbered (before ++ numbers (stmt_nodes x)) of' (f x)) → Numbered before of' (return_stmt b c >>= f)
  then_return before of' c f m = then_own before of' f (λ (x : StmtTree). numbers (stmt_nodes x)) (numbers_return c) m

pub numbers_empty : (c : Context) → Numbered [] (λ (x : StmtTree). numbers (stmt_nodes x)) (empty_stmt c)
unfolding empty_stmt
numbers_empty c = search (numbering, counting) depth 40 fits 8000

then_empty : (before : List ℕ) {B : Type 0} (of' : B → List ℕ) (c : Context) (f : StmtTree → Production B) → ((x : StmtTree) → Numbered (before ++ numbers (stmt_nodes x)) of' (f x)) → Numbered before of' (empty_stmt c >>= f)
then_empty before of' c f m = then_own before of' f (λ (x : StmtTree). numbers (stmt_nodes x)) (numbers_empty c) m

module _ {b : Within} (l : CountingWithin b) where
  then_below_stmt : (before : List ℕ) {B : Type 0} (of' : B → List ℕ) (c : Context) (f : StmtTree → Production B) → ((x : StmtTree) → Numbered (before ++ numbers (stmt_nodes x)) of' (f x)) → Numbered before of' (b.stmt c >>= f)
  then_below_stmt before of' c f m = then_own before of' f (λ (x : StmtTree). numbers (stmt_nodes x)) (l.stmt c) m

  pub numbers_statements : (c : Context) → Numbered [] (λ (x : List StmtTree). numbers (stmts_nodes (stmts x))) (statements b c)
  unfolding statements
  numbers_statements c =
      numbered_items (λ (x : StmtTree). numbers (stmt_nodes x)) (λ (x : List StmtTree). numbers (stmts_nodes (stmts x))) one_stmt last_stmt (λ so_far. any_but (punct punctuator.RightBrace)) (l.stmt (deeper c)) []

  then_statements : (before : List ℕ) {B : Type 0} (of' : B → List ℕ) (c : Context) (f : List StmtTree → Production B) → ((x : List StmtTree) → Numbered (before ++ numbers (stmts_nodes (stmts x))) of' (f x)) → Numbered before of' (statements b c >>= f)
  then_statements before of' c f m = then_own before of' f (λ (x : List StmtTree). numbers (stmts_nodes (stmts x))) (numbers_statements c) m

  pub numbers_block : (c : Context) → Numbered [] (λ (x : StmtTree). numbers (stmt_nodes x)) (block b c)
  unfolding block
  numbers_block c = search (then_statements, numbering, counting) depth 40 fits 8000

  then_block : (before : List ℕ) {B : Type 0} (of' : B → List ℕ) (c : Context) (f : StmtTree → Production B) → ((x : StmtTree) → Numbered (before ++ numbers (stmt_nodes x)) of' (f x)) → Numbered before of' (block b c >>= f)
  then_block before of' c f m = then_own before of' f (λ (x : StmtTree). numbers (stmt_nodes x)) (numbers_block c) m

  pub numbers_substatement : (c : Context) → Numbered [] (λ (x : StmtTree). numbers (stmt_nodes x)) (substatement b c)
  unfolding substatement
  numbers_substatement c = search (then_below_stmt, numbering, counting) depth 40 fits 8000

  then_substatement : (before : List ℕ) {B : Type 0} (of' : B → List ℕ) (c : Context) (f : StmtTree → Production B) → ((x : StmtTree) → Numbered (before ++ numbers (stmt_nodes x)) of' (f x)) → Numbered before of' (substatement b c >>= f)
  then_substatement before of' c f m = then_own before of' f (λ (x : StmtTree). numbers (stmt_nodes x)) (numbers_substatement c) m

  pub numbers_alternative : (c : Context) (at : Place) (is_constexpr : Bool) (test : ExprTree) (chosen : StmtTree) → Numbered (numbers (expr_nodes test) ++ numbers (stmt_nodes chosen)) (λ (x : StmtTree). numbers (stmt_nodes x)) (alternative b c at is_constexpr test chosen)
  unfolding alternative
  numbers_alternative c at is_constexpr test chosen = search (then_substatement, numbering, counting) depth 40 fits 8000

  then_alternative : {B : Type 0} (of' : B → List ℕ) (c : Context) (at : Place) (is_constexpr : Bool) (test : ExprTree) (chosen : StmtTree) (f : StmtTree → Production B) → ((x : StmtTree) → Numbered (numbers (stmt_nodes x)) of' (f x)) → Numbered (numbers (expr_nodes test) ++ numbers (stmt_nodes chosen)) of' (alternative b c at is_constexpr test chosen >>= f)
  then_alternative of' c at is_constexpr test chosen f m = then_using (numbers (expr_nodes test) ++ numbers (stmt_nodes chosen)) of' f (λ (x : StmtTree). numbers (stmt_nodes x)) (numbers_alternative c at is_constexpr test chosen) m

  pub numbers_if : (c : Context) → Numbered [] (λ (x : StmtTree). numbers (stmt_nodes x)) (if_stmt b c)
  unfolding if_stmt
  numbers_if c = search (then_condition, then_substatement, numbers_alternative, l.base, numbering, counting) depth 40 fits 8000

  then_if : (before : List ℕ) {B : Type 0} (of' : B → List ℕ) (c : Context) (f : StmtTree → Production B) → ((x : StmtTree) → Numbered (before ++ numbers (stmt_nodes x)) of' (f x)) → Numbered before of' (if_stmt b c >>= f)
  then_if before of' c f m = then_own before of' f (λ (x : StmtTree). numbers (stmt_nodes x)) (numbers_if c) m

  pub numbers_while : (c : Context) → Numbered [] (λ (x : StmtTree). numbers (stmt_nodes x)) (while_stmt b c)
  unfolding while_stmt
  numbers_while c = search (then_condition, then_substatement, l.base, numbering, counting) depth 40 fits 8000

  then_while : (before : List ℕ) {B : Type 0} (of' : B → List ℕ) (c : Context) (f : StmtTree → Production B) → ((x : StmtTree) → Numbered (before ++ numbers (stmt_nodes x)) of' (f x)) → Numbered before of' (while_stmt b c >>= f)
  then_while before of' c f m = then_own before of' f (λ (x : StmtTree). numbers (stmt_nodes x)) (numbers_while c) m

  pub numbers_for_scope : (c : Context) (at : Place) → Numbered [] (λ (x : StmtTree). numbers (stmt_nodes x)) (in_scope (for_parts b c at))
  unfolding for_parts
  numbers_for_scope c at = search (then_for_head, then_substatement, l.base, numbering, counting) depth 40 fits 8000

  then_for_scope : (before : List ℕ) {B : Type 0} (of' : B → List ℕ) (c : Context) (at : Place) (f : StmtTree → Production B) → ((x : StmtTree) → Numbered (before ++ numbers (stmt_nodes x)) of' (f x)) → Numbered before of' (in_scope (for_parts b c at) >>= f)
  then_for_scope before of' c at f m = then_own before of' f (λ (x : StmtTree). numbers (stmt_nodes x)) (numbers_for_scope c at) m

  pub numbers_for : (c : Context) → Numbered [] (λ (x : StmtTree). numbers (stmt_nodes x)) (for_stmt b c)
  unfolding for_stmt
  numbers_for c = search (numbers_for_scope, numbering, counting) depth 40 fits 8000

  then_for : (before : List ℕ) {B : Type 0} (of' : B → List ℕ) (c : Context) (f : StmtTree → Production B) → ((x : StmtTree) → Numbered (before ++ numbers (stmt_nodes x)) of' (f x)) → Numbered before of' (for_stmt b c >>= f)
  then_for before of' c f m = then_own before of' f (λ (x : StmtTree). numbers (stmt_nodes x)) (numbers_for c) m

  pub numbers_assert : (c : Context) → Numbered [] (λ (x : StmtTree). numbers (stmt_nodes x)) (assert_stmt b.base c)
  unfolding assert_stmt
  numbers_assert c = search (then_assertion, l.base, numbering, counting) depth 40 fits 8000

  then_assert : (before : List ℕ) {B : Type 0} (of' : B → List ℕ) (c : Context) (f : StmtTree → Production B) → ((x : StmtTree) → Numbered (before ++ numbers (stmt_nodes x)) of' (f x)) → Numbered before of' (assert_stmt b.base c >>= f)
  then_assert before of' c f m = then_own before of' f (λ (x : StmtTree). numbers (stmt_nodes x)) (numbers_assert c) m

  pub numbers_open_stmt : (c : Context) → Numbered [] (λ (x : StmtTree). numbers (stmt_nodes x)) (open_stmt b.base c)
  unfolding open_stmt
  numbers_open_stmt c = search (then_opening, numbers_stmt_of, l.base, numbering, counting) depth 40 fits 8000

  then_open_stmt : (before : List ℕ) {B : Type 0} (of' : B → List ℕ) (c : Context) (f : StmtTree → Production B) → ((x : StmtTree) → Numbered (before ++ numbers (stmt_nodes x)) of' (f x)) → Numbered before of' (open_stmt b.base c >>= f)
  then_open_stmt before of' c f m = then_own before of' f (λ (x : StmtTree). numbers (stmt_nodes x)) (numbers_open_stmt c) m

  pub numbers_stmt : (c : Context) → Numbered [] (λ (x : StmtTree). numbers (stmt_nodes x)) (stmt b c)
  unfolding stmt jump
  numbers_stmt c = search (numbers_empty, numbers_block, numbers_assert, numbers_return, numbers_if, numbers_while, numbers_for, numbers_open_stmt, l.base, numbering, counting) depth 40 fits 8000

  then_stmt : (before : List ℕ) {B : Type 0} (of' : B → List ℕ) (c : Context) (f : StmtTree → Production B) → ((x : StmtTree) → Numbered (before ++ numbers (stmt_nodes x)) of' (f x)) → Numbered before of' (stmt b c >>= f)
  then_stmt before of' c f m = then_own before of' f (λ (x : StmtTree). numbers (stmt_nodes x)) (numbers_stmt c) m

pub counting_within : (n : ℕ) → CountingWithin (unit_levels n)
unfolding statement_levels
counting_within zero = record { base = counting_levels zero; stmt = λ c. numbered_closed [] _ }
counting_within (suc n) = record { base = counting_levels (suc n); stmt = numbers_stmt (counting_within n) }
