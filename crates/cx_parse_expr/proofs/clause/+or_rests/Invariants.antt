use Rattle.std.proofs.Common.{◌≡◌, ℕ, suc, ◌+◌, ◌*◌, ◌-◌, ◌≤◌, length, map, codes}
use Rattle.cx_parse_expr.proofs.clause.+or_rests.Given as goal

-- how far the load is from its end, then how many calls may follow at the same load
abbrev measure : ℕ → ℕ → ℕ
measure load rank = 64 * (264 - load) + rank

abbrev pub decreases-or_rest_here : goal.decreases-or_rest_here
decreases-or_rest_here l = measure l.context.load 0

abbrev pub decreases-or_rest : goal.decreases-or_rest
decreases-or_rest l = measure l.context.load 1
