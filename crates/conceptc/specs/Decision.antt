-- What a call decides, what it has to say, and how it ends.
use Rattle.std.specs.Prelude.{◌≡◌, ◌⊎◌, ℕ, List, [], ◌++◌, codes, Option, Some, None, Ok, Err}
use Rattle.cx_base.specs.Refusal.{Refused, Passed}
use Rattle.cx_base.specs.declared.limit.Limit.TheVariants as limit
use Rattle.cx_base.specs.declared.place.Place.{Place}
use Rattle.cx_io.specs.Count.{Rose}
use Rattle.cx_io.specs.Sink.{Appends, AppendsFront}
use Rattle.cx_lexer.specs.Division.{AreTokens}
use Rattle.cx_lexer.specs.Tokens.{TokenTree}
use Rattle.cx_tree.specs.Declarations.{UnitTree}
use Rattle.cx_parse_decl.specs.Units.{IsUnit, IsTooDeep, unit_at}
use Rattle.cx_plain.specs.PlainTree.{PlainTree}
use Rattle.cx_plain.specs.PlainText.{plain_text}
use Rattle.cx_engine.specs.Plain.{translated}
use Rattle.cx_engine.specs.SourceMeaning.{MeansUnit}
use Rattle.conceptc.specs.declared.command.Command.{Command}
use Rattle.conceptc.specs.declared.command.Command.TheVariants.{Translate}
use Rattle.conceptc.specs.declared.decision.Decision.{Decision}
use Rattle.conceptc.specs.declared.decision.Decision.TheVariants as decision
use Rattle.conceptc.specs.declared.status.Status.{Status}
use Rattle.conceptc.specs.declared.status.Status.TheVariants as status
use Rattle.conceptc.specs.Reading.{ReadsWhole, ReadsTooMuch}
use Rattle.conceptc.specs.Report.{fault_report, limit_report, usage_report, read_fault_report}
use Rattle.conceptc.specs.Verdict.{no_place, tree_of, verdict}

-- The bytes are divided into tokens that are the unit, with no load above the limit.
abbrev pub IsTextOf : List ℕ → UnitTree → Type 0
IsTextOf bytes unit = (ts : List TokenTree) × AreTokens bytes (Ok ts) × IsUnit ts unit

-- The bytes are divided into tokens of which that at a place is the first one whose load passes the limit.
abbrev pub IsTooDeepText : List ℕ → Place → Type 0
IsTooDeepText bytes at = (ts : List TokenTree) × AreTokens bytes (Ok ts) × IsTooDeep ts (Passed limit.Depth at)

-- The tokens are a unit, whose plain unit this is, and does what the unit does.
abbrev pub IsPlainOf : List TokenTree → PlainTree → Type 0
IsPlainOf ts plain = (unit : UnitTree) × IsUnit ts unit × (unit_at ts ≡ Ok unit) × (translated unit ≡ Ok plain) × MeansUnit unit plain

-- The bytes are a unit, whose plain unit is the verdict and does what the unit does; the text is that of the
-- plain unit.
abbrev pub IsTranslated : List ℕ → List ℕ → Type 0
IsTranslated bytes text = (unit : UnitTree) × (plain : PlainTree)
    × IsTextOf bytes unit × (tree_of bytes ≡ Ok unit) × (verdict bytes ≡ Ok plain) × MeansUnit unit plain × (text ≡ plain_text plain)

-- What is decided of a unit's bytes.
abbrev pub IsJudged : Decision → List ℕ → Type 0
IsJudged decision.NoCommand bytes = ⊥
IsJudged (decision.Translated text) bytes = IsTranslated bytes text
IsJudged (decision.Refused fault) bytes = verdict bytes ≡ Err (Refused fault)
IsJudged (decision.Passed limit at) bytes = verdict bytes ≡ Err (Passed limit at)
IsJudged decision.Unread bytes = ⊥
IsJudged decision.OutOfMemory bytes = Unit {0}

-- Some bytes were read to their end, and this is decided of them.
abbrev pub IsWholeCause : Decision → Option (List ℕ) → Option (List ℕ) → Type 0
IsWholeCause d rest0 rest1 = (bytes : List ℕ) × ReadsWhole rest0 rest1 bytes × IsJudged d bytes

-- More bytes were read than a unit may have, and this is that limit.
abbrev pub IsTooMuch : Decision → Option (List ℕ) → Option (List ℕ) → Type 0
IsTooMuch d rest0 rest1 = (d ≡ decision.Passed limit.Source no_place) × ReadsTooMuch rest0 rest1

-- Why this is decided of an input whose rest was rest0 and is rest1, and whose count of faults was f0 and is f1.
abbrev pub IsCauseOf : Decision → Option (List ℕ) → Option (List ℕ) → ℕ → ℕ → Type 0
IsCauseOf decision.NoCommand rest0 rest1 f0 f1 = ⊥
IsCauseOf decision.Unread rest0 rest1 f0 f1 = Rose f0 f1
IsCauseOf decision.OutOfMemory rest0 rest1 f0 f1 = Unit {0}
IsCauseOf d rest0 rest1 f0 f1 = IsWholeCause d rest0 rest1 ⊎ IsTooMuch d rest0 rest1

-- The same under a command. With none nothing is read.
abbrev pub IsCause : Decision → Option Command → Option (List ℕ) → Option (List ℕ) → ℕ → ℕ → Type 0
IsCause d None rest0 rest1 f0 f1 = (d ≡ decision.NoCommand) × (rest1 ≡ rest0) × (f1 ≡ f0)
IsCause d (Some Translate) rest0 rest1 f0 f1 = IsCauseOf d rest0 rest1 f0 f1

-- The witness of the calls that constraints decided. No form of it is built yet: its first line stands alone.
unfoldable pub witness_text : List ℕ
witness_text = codes "//= witness 1\n"

-- What goes to out.
abbrev pub out_text : Decision → List ℕ
out_text (decision.Translated text) = text ++ witness_text
out_text d = []

-- What goes to diag.
abbrev pub diag_text : Decision → List ℕ
diag_text decision.NoCommand = usage_report
diag_text (decision.Refused fault) = fault_report fault
diag_text (decision.Passed limit at) = limit_report limit at
diag_text decision.Unread = read_fault_report
diag_text d = []

-- How the call ends where every text is taken.
abbrev pub status_of : Decision → Status
status_of decision.NoCommand = status.Usage
status_of (decision.Translated text) = status.Done
status_of (decision.Refused fault) = status.IllFormed
status_of (decision.Passed limit at) = status.Limit
status_of decision.Unread = status.ReadFault
status_of decision.OutOfMemory = status.NoMemory

-- The decision was said: both sinks took their texts whole, or one failed and each has a front of its text.
abbrev pub Says : Decision → Status → Option (List ℕ) → Option (List ℕ) → ℕ → ℕ → Option (List ℕ) → Option (List ℕ) → ℕ → ℕ → Type 0
Says d st out0 out1 o0 o1 diag0 diag1 d0 d1 =
    ((st ≡ status_of d) × Appends out0 out1 (out_text d) × Appends diag0 diag1 (diag_text d))
    ⊎ ((st ≡ status.WriteFault) × (Rose o0 o1 ⊎ Rose d0 d1) × AppendsFront out0 out1 (out_text d) × AppendsFront diag0 diag1 (diag_text d))
