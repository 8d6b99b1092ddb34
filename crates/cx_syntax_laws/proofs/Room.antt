-- How many levels are enough: one more than there is room for constructs. Each construct takes one of both.
use Rattle.std.proofs.Common.{◌≤◌, ◌+◌, ℕ, suc, arith}
use Rattle.cx_syntax.specs.declared.context.Context.{Context}
use Rattle.cx_syntax.specs.Contexts.{deeper, inside, listed}
use Rattle.cx_syntax_laws.proofs.Firm.{Fits}

pub record Enough (n : ℕ) (c : Context) : Type 0 where
  pub enough : c.room + 1 ≤ n

-- at the same level
pub enough_more : {n : ℕ} {c : Context} → Enough n c → Enough (suc n) c
enough_more e = record { enough = omega (arith, e.enough) }

pub enough_deeper : {n : ℕ} {c : Context} → Enough n c → Enough n (deeper c)
unfolding deeper
enough_deeper e = record { enough = omega (arith, e.enough) }

pub enough_inside : {n : ℕ} {c : Context} → Enough n c → Enough n (inside c)
unfolding inside
enough_inside e = record { enough = omega (arith, e.enough) }

pub enough_listed : {n : ℕ} {c : Context} → Enough n c → Enough n (listed c)
unfolding listed
enough_listed e = record { enough = omega (arith, e.enough) }

-- where there is room for a construct within another one, there is for the other
pub fits_outer : {c : Context} → Fits (deeper c) → Fits c
unfolding deeper
fits_outer f = record { some = omega (arith, f.some) }

-- a level lower
pub lower_deeper : {n : ℕ} {c : Context} → Enough (suc n) c → Fits c → Enough n (deeper c)
unfolding deeper
lower_deeper e f = record { enough = omega (arith, e.enough, f.some) }

pub lower_inside : {n : ℕ} {c : Context} → Enough (suc n) c → Fits c → Enough n (inside c)
unfolding inside
lower_inside e f = record { enough = omega (arith, e.enough, f.some) }

pub lower_listed : {n : ℕ} {c : Context} → Enough (suc n) c → Fits c → Enough n (listed c)
unfolding listed
lower_listed e f = record { enough = omega (arith, e.enough, f.some) }

pub within_deeper : {n : ℕ} {c : Context} → Enough (suc n) c → Fits (deeper c) → Enough n (deeper c)
unfolding deeper
within_deeper e f = record { enough = omega (arith, e.enough, f.some) }

pub within_inside : {n : ℕ} {c : Context} → Enough (suc n) c → Fits (deeper c) → Enough n (inside c)
unfolding deeper inside
within_inside e f = record { enough = omega (arith, e.enough, f.some) }

pub within_listed : {n : ℕ} {c : Context} → Enough (suc n) c → Fits (deeper c) → Enough n (listed c)
unfolding deeper listed
within_listed e f = record { enough = omega (arith, e.enough, f.some) }

pub ruleset room = (enough_more, enough_deeper, enough_inside, enough_listed, lower_deeper, lower_inside, lower_listed, within_deeper, within_inside, within_listed)
