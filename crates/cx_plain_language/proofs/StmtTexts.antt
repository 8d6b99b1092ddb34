-- The texts of statements in a list, and indentation.
use Rattle.std.proofs.Common.{◌≡◌, ℕ, zero, suc, ◌+◌, ◌<◌, ◌≤◌, List, ◌++◌, map, length, get_or, drop, refl, sym, ap, ◌∙◌, append_assoc, add-one}
use Rattle.std.specs.Prelude.{codes}
use Rattle.std.proofs.lemmas.List.{append-nil, drop_all}
use Rattle.std.proofs.Math.Seq.{drop-cons}
use Rattle.cx_plain_language.specs.declared.statement.Stmt.{Stmt}
use Rattle.cx_plain_language.specs.Tree.{UnitTree, Function, stmts}
use Rattle.cx_plain_language.specs.View.{stmt_view}
use Rattle.cx_plain_language.specs.Text.{indent, stmt_text, stmts_text}

pub no_indent : (before : List ℕ) → before ≡ before ++ indent 0
unfolding indent
no_indent before = sym (append-nil before)

indent_push : (depth : ℕ) → indent (suc depth) ≡ indent depth ++ codes "  "
unfolding indent
indent_push zero = refl
indent_push (suc depth) = ap (λ r. codes "  " ++ r) (indent_push depth)

pub deeper_indent : (before now after : List ℕ) (depth : ℕ) → now ≡ before ++ indent depth → after ≡ now ++ codes "  " → after ≡ before ++ indent (depth + 1)
deeper_indent before now after depth so_far put = rw (put, so_far, add-one, indent_push depth) (simp append_assoc refl)

rest_text : (u : UnitTree) (f : Function) (depth : ℕ) (items : List (Stmt ℕ (Unit {0}) ℕ ℕ)) (i : ℕ) (x : Stmt ℕ (Unit {0}) ℕ ℕ) → i < length items → x ≡ get_or items i x
    → stmts_text u f depth (stmts (map stmt_view (drop i items))) ≡ stmt_text u f depth (stmt_view x) ++ stmts_text u f depth (stmts (map stmt_view (drop (i + 1) items)))
unfolding stmt_text
rest_text u f depth items i x below is = rw add-one (rw (drop-cons items i x below) (ap (λ y. stmt_text u f depth (stmt_view y) ++ stmts_text u f depth (stmts (map stmt_view (drop (suc i) items)))) (sym is)))

-- a loop that puts one statement more, in front of those that are left
pub next_stmt : (u : UnitTree) (f : Function) (depth : ℕ) (items : List (Stmt ℕ (Unit {0}) ℕ ℕ)) (i : ℕ) (x : Stmt ℕ (Unit {0}) ℕ ℕ) (now after whole : List ℕ) → i < length items → x ≡ get_or items i x
    → now ++ stmts_text u f depth (stmts (map stmt_view (drop i items))) ≡ whole → after ≡ now ++ stmt_text u f depth (stmt_view x) → after ++ stmts_text u f depth (stmts (map stmt_view (drop (i + 1) items))) ≡ whole
next_stmt u f depth items i x now after whole below is so_far put =
    rw put (append_assoc now (stmt_text u f depth (stmt_view x)) (stmts_text u f depth (stmts (map stmt_view (drop (i + 1) items)))) ∙ ap (λ r. now ++ r) (sym (rest_text u f depth items i x below is)) ∙ so_far)

pub no_more : (u : UnitTree) (f : Function) (depth : ℕ) (items : List (Stmt ℕ (Unit {0}) ℕ ℕ)) (i : ℕ) (now whole : List ℕ) → length items ≤ i → now ++ stmts_text u f depth (stmts (map stmt_view (drop i items))) ≡ whole → now ≡ whole
unfolding stmt_text
no_more u f depth items i now whole all so_far = sym (append-nil now) ∙ rw (drop_all i items all) at so_far
