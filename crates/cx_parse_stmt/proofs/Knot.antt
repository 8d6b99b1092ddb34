-- The productions that stand where a context does are those over the productions one construct deeper.
use Rattle.std.proofs.Common.{◌≡◌, ℕ, suc, ◌+◌, ◌-◌, ◌<◌, refl, ap, ◌∙◌, arith}
use Rattle.cx_grammar.specs.Statements.{Within, stmt, bare_stmt}
use Rattle.cx_grammar.specs.Expressions.{no_requires}
use Rattle.cx_grammar.specs.Declarations.{unit_levels}
use Rattle.cx_parse_stmt.specs.Within.{opened}

pub levels_opened : (load : ℕ) → load < 263 → unit_levels no_requires (264 - (load + 1)) ≡ opened load
unfolding unit_levels stmt
levels_opened load room =
    let e : 264 - (load + 1) ≡ suc (264 - (load + 1 + 1)) = omega arith in
    rw e refl

pub knot : (load : ℕ) → load < 263 → (unit_levels no_requires (264 - load)).bare ≡ bare_stmt (opened load)
unfolding unit_levels
knot load room =
    let e : 264 - load ≡ suc (264 - (load + 1)) = omega arith in
    let first : (unit_levels no_requires (264 - load)).bare ≡ bare_stmt (unit_levels no_requires (264 - (load + 1))) = ap (λ (k : ℕ). (unit_levels no_requires k).bare) e in
    first ∙ ap (λ (b : Within). bare_stmt b) (levels_opened load room)
