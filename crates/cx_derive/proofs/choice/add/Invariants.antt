use Rattle.std.proofs.Common.{◌≡◌, take}
use Rattle.cx_derive.specs.Lists.{with_all}
use Rattle.cx_derive.specs.Goals.{same_number}
use Rattle.cx_derive.proofs.choice.add.Given as goal

abbrev pub invariant-loop-f : goal.invariant-loop-f
invariant-loop-f l = l.set.keys ≡ with_all same_number l.fn.set.keys (take l.f-index l.numbers)
