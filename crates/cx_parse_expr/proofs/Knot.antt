-- The productions that stand where a context does are those over the productions one construct deeper.
use Rattle.std.proofs.Common.{◌≡◌, ℕ, suc, ◌+◌, ◌-◌, ◌<◌, refl, ap, arith}
use Rattle.cx_grammar.specs.Names.{Context}
use Rattle.cx_grammar.specs.Expressions.{above, levels}
use Rattle.cx_spots.specs.Spots.{at, below}

pub knot : (c : Context) → c.load < 264 → at c ≡ above (below c)
unfolding levels
knot c room =
    let e : 264 - c.load ≡ suc (264 - (c.load + 1)) = omega arith in
    rw e refl
