use Rattle.std.proofs.Common.{◌≡◌, take, false}
use Rattle.std.specs.List.{list_any}
use Rattle.cx_derive.specs.Lists.{is_among}
use Rattle.cx_derive.specs.Goals.{same_number}
use Rattle.cx_derive.proofs.choice.shares.Given as goal

abbrev pub invariant-loop-f : goal.invariant-loop-f
invariant-loop-f l = list_any (is_among same_number l.right) (take l.f-index l.left) ≡ false
