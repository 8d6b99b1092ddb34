use Rattle.std.proofs.Common.{◌≡◌, length}
use Rattle.std.specs.Str.{chars}
use denote.Shadow.{shadow}
use denote.Text.{Utf8}
use Rattle.cx_lexer.specs.Reading.{behind_name}
use Rattle.cx_lexer.proofs.scan.behind_name.Given as goal

abbrev pub invariant-loop-character : goal.invariant-loop-character
invariant-loop-character l = record { utf8 : shadow (Utf8 l.rest); goes_on : behind_name (chars l.rest) ≡ behind_name (chars l.fn.text) }

abbrev pub decreases-loop-character : goal.decreases-loop-character
decreases-loop-character l = length l.rest
