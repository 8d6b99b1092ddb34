use Rattle.std.proofs.Common.{◌≡◌, false, length}
use Rattle.std.specs.Str.{chars}
use denote.Shadow.{shadow}
use denote.Text.{Utf8}
use Rattle.cx_lexer.specs.Reading.{behind_string}
use Rattle.cx_lexer.proofs.scan.behind_string.Given as goal

abbrev pub invariant-loop-character : goal.invariant-loop-character
invariant-loop-character l = record { utf8 : shadow (Utf8 l.rest); goes_on : behind_string l.escaped (chars l.rest) ≡ behind_string false (chars l.fn.text) }

abbrev pub decreases-loop-character : goal.decreases-loop-character
decreases-loop-character l = length l.rest
