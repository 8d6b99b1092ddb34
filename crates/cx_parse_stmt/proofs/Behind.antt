-- A statement declares names in the innermost scope alone.
use Rattle.std.proofs.Common.{◌≡◌, [], ◌∷◌, length, Result, Ok, Err, refl, ap, ◌∙◌}
use Rattle.std.specs.Result.{IfOk}
use Rattle.cx_base.specs.declared.stop.Stop.{Stop}
use Rattle.cx_scope.specs.Frames.{Frames, left}
use Rattle.cx_tree.specs.Statements.{StmtTree, EmptyStmt, Block, AssertStmt, Break, Continue, Return, If, IfElse, While, For, VariableStmt, ExprStmt, ForInit, NoInit, VariableInit, ExprInit}
use Rattle.cx_statements.specs.declared.statement.Stmt.{Stmt}
use Rattle.cx_statements.specs.StatementViews.{stmt_tree}
use Rattle.cx_spots.specs.declared.spot.Spot.{Spot}
use Rattle.cx_parse_stmt.specs.Views.{names_behind, names_of_init}

pub left_behind : (names : Frames) (s : StmtTree) → left (names_behind names s) ≡ left names
left_behind [] (VariableStmt v) = refl
left_behind (f ∷ fs) (VariableStmt v) = refl
left_behind names (EmptyStmt m) = refl
left_behind names (Block m ss) = refl
left_behind names (AssertStmt a) = refl
left_behind names (Break m) = refl
left_behind names (Continue m) = refl
left_behind names (Return m e) = refl
left_behind names (If m is e s) = refl
left_behind names (IfElse m is e s t) = refl
left_behind names (While m e s) = refl
left_behind names (For m i e f s) = refl
left_behind names (ExprStmt m e) = refl

pub length_behind : (names : Frames) (s : StmtTree) → length (names_behind names s) ≡ length names
length_behind [] (VariableStmt v) = refl
length_behind (f ∷ fs) (VariableStmt v) = refl
length_behind names (EmptyStmt m) = refl
length_behind names (Block m ss) = refl
length_behind names (AssertStmt a) = refl
length_behind names (Break m) = refl
length_behind names (Continue m) = refl
length_behind names (Return m e) = refl
length_behind names (If m is e s) = refl
length_behind names (IfElse m is e s t) = refl
length_behind names (While m e s) = refl
length_behind names (For m i e f s) = refl
length_behind names (ExprStmt m e) = refl

-- ... and so does what stands first in the head of a `for`
pub left_init : (names : Frames) (i : ForInit) → left (names_of_init names i) ≡ left names
left_init names NoInit = refl
left_init [] (VariableInit v) = refl
left_init (f ∷ fs) (VariableInit v) = refl
left_init names (ExprInit e) = refl

-- a statement that was read
pub outer_behind : (r : Result (Stmt × Spot) Stop) (before after : Frames) → IfOk r (λ x. after ≡ names_behind before (stmt_tree x.0)) → IfOk r (λ x. left after ≡ left before)
outer_behind (Ok x) before after e = ap left e ∙ left_behind before (stmt_tree x.0)
outer_behind (Err e) before after h = tt

pub depth_behind : (r : Result (Stmt × Spot) Stop) (before after : Frames) → IfOk r (λ x. after ≡ names_behind before (stmt_tree x.0)) → IfOk r (λ x. length after ≡ length before)
depth_behind (Ok x) before after e = ap length e ∙ length_behind before (stmt_tree x.0)
depth_behind (Err e) before after h = tt
