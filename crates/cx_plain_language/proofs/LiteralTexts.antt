-- The texts of constants in a list.
use Rattle.std.proofs.Common.{◌≡◌, ℕ, ◌+◌, ◌<◌, List, [], ◌∷◌, ◌++◌, map, length, get_or, take, refl, sym, ap, ◌∙◌}
use Rattle.std.proofs.lemmas.List.{append-nil}
use Rattle.cx_plain_language.specs.declared.unit.Literal.{Literal}
use Rattle.cx_plain_language.specs.Tree.{UnitTree, literals}
use Rattle.cx_plain_language.specs.View.{literal_view}
use Rattle.cx_plain_language.specs.Text.{joined, comma_before, literal_text, literals_texts}
use Rattle.cx_plain_language.proofs.Joins.{one_more}

abbrev text_of : UnitTree → Literal ℕ → List ℕ
text_of u x = literal_text u (literal_view x)

texts_are : (u : UnitTree) (xs : List (Literal ℕ)) → literals_texts u (literals (map literal_view xs)) ≡ map (text_of u) xs
unfolding literal_text
texts_are u [] = refl
texts_are u (x ∷ xs) = ap (λ ts. literal_text u (literal_view x) ∷ ts) (texts_are u xs)

pub none_yet : (u : UnitTree) (before : List ℕ) → before ≡ before ++ joined (literals_texts u (literals (map literal_view [])))
unfolding literal_text joined
none_yet u before = sym (append-nil before)

pub next_literal : (u : UnitTree) (items : List (Literal ℕ)) (i : ℕ) (x : Literal ℕ) (before now after : List ℕ) → i < length items → x ≡ get_or items i x
    → now ≡ before ++ joined (literals_texts u (literals (map literal_view (take i items)))) → after ≡ now ++ comma_before i ++ literal_text u (literal_view x)
    → after ≡ before ++ joined (literals_texts u (literals (map literal_view (take (i + 1) items))))
next_literal u items i x before now after below is so_far put =
    one_more (text_of u) items i x before now after below is (so_far ∙ ap (λ ts. before ++ joined ts) (texts_are u (take i items))) put
    ∙ ap (λ ts. before ++ joined ts) (sym (texts_are u (take (i + 1) items)))
