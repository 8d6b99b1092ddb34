-- The texts of expressions in a list.
use Rattle.std.proofs.Common.{◌≡◌, ℕ, ◌+◌, ◌<◌, List, [], ◌∷◌, ◌++◌, map, length, get_or, take, refl, sym, ap, ◌∙◌}
use Rattle.std.proofs.lemmas.List.{append-nil}
use Rattle.cx_plain_language.specs.declared.expression.Expr.{Expr}
use Rattle.cx_plain_language.specs.Tree.{UnitTree, Function, exprs}
use Rattle.cx_plain_language.specs.View.{expr_view}
use Rattle.cx_plain_language.specs.Text.{joined, comma_before, expr_text, exprs_texts}
use Rattle.cx_plain_language.proofs.Joins.{one_more}

abbrev text_of : UnitTree → Function → Expr ℕ ℕ ℕ → List ℕ
text_of u f x = expr_text u f (expr_view x)

texts_are : (u : UnitTree) (f : Function) (xs : List (Expr ℕ ℕ ℕ)) → exprs_texts u f (exprs (map expr_view xs)) ≡ map (text_of u f) xs
unfolding expr_text
texts_are u f [] = refl
texts_are u f (x ∷ xs) = ap (λ ts. expr_text u f (expr_view x) ∷ ts) (texts_are u f xs)

pub none_yet : (u : UnitTree) (f : Function) (before : List ℕ) → before ≡ before ++ joined (exprs_texts u f (exprs (map expr_view [])))
unfolding expr_text joined
none_yet u f before = sym (append-nil before)

pub next_expr : (u : UnitTree) (f : Function) (items : List (Expr ℕ ℕ ℕ)) (i : ℕ) (x : Expr ℕ ℕ ℕ) (before now after : List ℕ) → i < length items → x ≡ get_or items i x
    → now ≡ before ++ joined (exprs_texts u f (exprs (map expr_view (take i items)))) → after ≡ now ++ comma_before i ++ expr_text u f (expr_view x) ++ []
    → after ≡ before ++ joined (exprs_texts u f (exprs (map expr_view (take (i + 1) items))))
next_expr u f items i x before now after below is so_far put =
    one_more (text_of u f) items i x before now after below is (so_far ∙ ap (λ ts. before ++ joined ts) (texts_are u f (take i items))) (put ∙ append-nil (now ++ comma_before i ++ expr_text u f (expr_view x)))
    ∙ ap (λ ts. before ++ joined ts) (sym (texts_are u f (take (i + 1) items)))
