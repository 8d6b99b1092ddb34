-- The fault of a piece that does not fit.
use Rattle.std.proofs.Common.{◌≡◌, Bool, true, false, if◌then◌else◌, ap}
use Rattle.cx_base.specs.declared.kind.Kind.TheVariants as fault
use Rattle.cx_tokens.specs.Tokens.{TokenTree}
use Rattle.cx_tokens.specs.Pieces.{is_unsupported}
use Rattle.cx_syntax.specs.declared.stopped.Stopped.TheVariants as stopped
use Rattle.cx_syntax.specs.States.{misfit}

pub unsupported_fault : (t : TokenTree) → is_unsupported t.kind ≡ true → misfit t ≡ stopped.Fault fault.Unsupported t.at
unfolding misfit
unsupported_fault t e = ap (λ (is : Bool). stopped.Fault (if is then fault.Unsupported else fault.Syntax) t.at) e

pub syntax_fault : (t : TokenTree) → is_unsupported t.kind ≡ false → misfit t ≡ stopped.Fault fault.Syntax t.at
unfolding misfit
syntax_fault t e = ap (λ (is : Bool). stopped.Fault (if is then fault.Unsupported else fault.Syntax) t.at) e
