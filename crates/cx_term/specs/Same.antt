-- Equality of trees, decided: two trees are the same where they are stored alike.
use Rattle.std.specs.Prelude.{Bool, true, false, List, ◌==◌, ◌&&◌}
use Rattle.std.specs.Cmp.Lexicographic.{pointwise}
use base.Stored.{Gv, gnil, gnum, gcons}
use Rattle.cx_term.specs.Term.{Term}
use Rattle.cx_term.specs.TermCode.{term_code}

-- whether two trees of numbers are one
unfoldable pub same_code : Gv → Gv → Bool
same_code gnil gnil = true
same_code (gnum m) (gnum n) = m == n
same_code (gcons a b) (gcons c d) = same_code a c && same_code b d
same_code _ _ = false

abbrev pub same_term : Term → Term → Bool
same_term t u = same_code (term_code.code t) (term_code.code u)

-- the same of lists of trees
abbrev pub same_terms : List Term → List Term → Bool
same_terms = pointwise same_term
