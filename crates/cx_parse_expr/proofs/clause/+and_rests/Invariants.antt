use Rattle.std.proofs.Common.{◌≡◌, ℕ, suc, ◌+◌, ◌*◌, ◌-◌, ◌≤◌, length, map, codes}
use Rattle.cx_parse_expr.proofs.clause.+and_rests.Given as goal

-- how far the load is from its end, then how many calls may follow at the same load
abbrev measure : ℕ → ℕ → ℕ
measure load rank = 64 * (264 - load) + rank

abbrev pub decreases-and_rest_here : goal.decreases-and_rest_here
decreases-and_rest_here l = measure l.context.load 0

abbrev pub decreases-and_rest : goal.decreases-and_rest
decreases-and_rest l = measure l.context.load 1
