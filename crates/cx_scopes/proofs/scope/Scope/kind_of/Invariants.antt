use Rattle.std.proofs.Common.{◌≡◌, reverse}
use Rattle.cx_names.specs.Frames.{kind_in}
use Rattle.cx_scopes.proofs.scope.Scope.kind_of.Given as goal

-- what a name is among the scopes that are left is what it is among all
abbrev pub invariant-loop-frame : goal.invariant-loop-frame
invariant-loop-frame l = kind_in (reverse l.frame-iterator.iter.rest.now) l.name ≡ kind_in l.self l.name
