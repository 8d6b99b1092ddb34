use Rattle.std.proofs.Common.{◌≡◌, ◌++◌, take, length}
use Rattle.std.specs.Prelude.{fold}
use Rattle.std.specs.List.{flat_map}
use Rattle.std.specs.Hash as fed
use Rattle.cx_derive.specs.Goals.{number_writes}
use Rattle.cx_derive.proofs.goal.hash_numbers.Given as goal

abbrev pub invariant-loop-number : goal.invariant-loop-number
invariant-loop-number g l = l.state ≡ fold g.H.Hasher.write l.fn.state (fed.usize (length l.numbers) ++ flat_map number_writes (take l.number-index l.numbers))
