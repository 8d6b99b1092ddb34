-- What each answer of the top call says, and where it comes. In each: the command; what the input had left before and
-- after the call; what out took before and after it, and diag.
use Rattle.std.specs.Prelude.{◌≡◌, ◌⊎◌, ℕ, List, ◌++◌, Option, None, Some, Ok, Err}
use Rattle.cx_base.specs.Refusal.{Refused, Passed}
use Rattle.cx_base.specs.declared.fault.Fault.{Fault}
use Rattle.cx_base.specs.declared.limit.Limit.TheVariants as limit
use Rattle.cx_base.specs.declared.place.Place.{Place}
use Rattle.cx_io.specs.Count.{Rose}
use Rattle.cx_io.specs.Sink.{Appends, AppendsFront}
use Rattle.cx_tree.specs.Declarations.{UnitTree}
use Rattle.cx_plain.specs.PlainTree.{PlainTree}
use Rattle.cx_plain.specs.PlainText.{plain_text}
use Rattle.cx_engine.specs.SourceMeaning.{MeansUnit}
use Rattle.conceptc.specs.declared.command.Command.{Command}
use Rattle.conceptc.specs.declared.command.Command.TheVariants.{Translate}
use Rattle.conceptc.specs.declared.decision.Decision.{Decision}
use Rattle.conceptc.specs.declared.status.Status.{Status}
use Rattle.conceptc.specs.declared.status.Status.TheVariants as status
use Rattle.conceptc.specs.Decision.{IsTextOf, IsTooDeepText, IsCause, Says, out_text, diag_text, witness_text}
use Rattle.conceptc.specs.Reading.{ReadsWhole, ReadsTooMuch}
use Rattle.conceptc.specs.Report.{fault_report, limit_report, usage_report, read_fault_report}
use Rattle.conceptc.specs.Verdict.{no_place, verdict}

-- Some decision has its cause and is what was said.
abbrev pub IsDecided : Option Command → Status → Option (List ℕ) → Option (List ℕ) → ℕ → ℕ → Option (List ℕ) → Option (List ℕ) → ℕ → ℕ → Option (List ℕ) → Option (List ℕ) → ℕ → ℕ → Type 0
IsDecided command st rest0 rest1 i0 i1 out0 out1 o0 o1 diag0 diag1 d0 d1 =
    (d : Decision) × IsCause d command rest0 rest1 i0 i1 × Says d st out0 out1 o0 o1 diag0 diag1 d0 d1

-- Done: the input was read to its end, its bytes are a unit whose verdict is a plain unit; out took the text of the
-- plain unit and then that of the witness; the plain unit does what the unit does.
abbrev pub IsDone : Option Command → Option (List ℕ) → Option (List ℕ) → Option (List ℕ) → Option (List ℕ) → Option (List ℕ) → Option (List ℕ) → Type 0
IsDone command rest0 rest1 out0 out1 diag0 diag1 = (bytes : List ℕ) × (unit : UnitTree) × (plain : PlainTree)
    × (command ≡ Some Translate) × ReadsWhole rest0 rest1 bytes × IsTextOf bytes unit × (verdict bytes ≡ Ok plain) × MeansUnit unit plain
    × Appends out0 out1 (plain_text plain ++ witness_text) × (diag1 ≡ diag0)

-- IllFormed: the input was read to its end, and the verdict on its bytes is the fault that diag took the report of.
abbrev pub IsIllFormed : Option Command → Option (List ℕ) → Option (List ℕ) → Option (List ℕ) → Option (List ℕ) → Option (List ℕ) → Option (List ℕ) → Type 0
IsIllFormed command rest0 rest1 out0 out1 diag0 diag1 = (bytes : List ℕ) × (fault : Fault)
    × (command ≡ Some Translate) × ReadsWhole rest0 rest1 bytes × (verdict bytes ≡ Err (Refused fault))
    × (out1 ≡ out0) × Appends diag0 diag1 (fault_report fault)

-- Usage: the words are no command, nothing was read.
abbrev pub IsUsage : Option Command → Option (List ℕ) → Option (List ℕ) → Option (List ℕ) → Option (List ℕ) → Option (List ℕ) → Option (List ℕ) → Type 0
IsUsage command rest0 rest1 out0 out1 diag0 diag1 = (command ≡ None) × (rest1 ≡ rest0) × (out1 ≡ out0) × Appends diag0 diag1 usage_report

-- Limit: more bytes were read than a unit may have, or the input was read to its end, and the verdict on its bytes is the
-- limit on the depth, at the first token whose load passes it.
abbrev pub IsLimit : Option Command → Option (List ℕ) → Option (List ℕ) → Option (List ℕ) → Option (List ℕ) → Option (List ℕ) → Option (List ℕ) → Type 0
IsLimit command rest0 rest1 out0 out1 diag0 diag1 =
    (command ≡ Some Translate) × (out1 ≡ out0)
    × ((ReadsTooMuch rest0 rest1 × Appends diag0 diag1 (limit_report limit.Source no_place))
    ⊎ ((bytes : List ℕ) × (at : Place) × ReadsWhole rest0 rest1 bytes × IsTooDeepText bytes at × (verdict bytes ≡ Err (Passed limit.Depth at))
    × Appends diag0 diag1 (limit_report limit.Depth at)))

-- ReadFault: the input's count of faults, i0 before and i1 after, rose.
abbrev pub IsReadFault : ℕ → ℕ → Option (List ℕ) → Option (List ℕ) → Option (List ℕ) → Option (List ℕ) → Type 0
IsReadFault i0 i1 out0 out1 diag0 diag1 = Rose i0 i1 × (out1 ≡ out0) × Appends diag0 diag1 read_fault_report

-- WriteFault: the count of faults of out or of diag rose, and each has a front of the text of what was decided.
abbrev pub IsWriteFault : Option Command → Option (List ℕ) → Option (List ℕ) → ℕ → ℕ → Option (List ℕ) → Option (List ℕ) → ℕ → ℕ → Option (List ℕ) → Option (List ℕ) → ℕ → ℕ → Type 0
IsWriteFault command rest0 rest1 i0 i1 out0 out1 o0 o1 diag0 diag1 d0 d1 =
    (Rose o0 o1 ⊎ Rose d0 d1) × (d : Decision) × IsCause d command rest0 rest1 i0 i1 × AppendsFront out0 out1 (out_text d) × AppendsFront diag0 diag1 (diag_text d)

-- NoMemory: under a command alone, and nothing was put.
abbrev pub IsNoMemory : Option Command → Option (List ℕ) → Option (List ℕ) → Option (List ℕ) → Option (List ℕ) → Type 0
IsNoMemory command out0 out1 diag0 diag1 = (command ≡ Some Translate) × (out1 ≡ out0) × (diag1 ≡ diag0)

-- The answers that never come yet.
abbrev pub IsNeverYet : Status → Type 0
IsNeverYet st = (st ≡ status.Rejected) ⊎ (st ≡ status.Undefined) ⊎ (st ≡ status.Running)

-- The answer is this one, unless reading or writing fails or memory lacks.
abbrev pub IsUnlessFaulty : Status → Status → Type 0
IsUnlessFaulty wanted st = (st ≡ wanted) ⊎ (st ≡ status.ReadFault) ⊎ (st ≡ status.WriteFault) ⊎ (st ≡ status.NoMemory)

-- The answer is Done with the texts of this plain unit, or memory lacks.
abbrev pub IsComplete : PlainTree → Status → Option (List ℕ) → Option (List ℕ) → Type 0
IsComplete plain st out0 out1 = ((st ≡ status.Done) × Appends out0 out1 (plain_text plain ++ witness_text)) ⊎ (st ≡ status.NoMemory)

-- What the program answers: what the top call answers, or, where memory for the words lacks, NoMemory, and then nothing
-- was read and nothing put.
abbrev pub IsAnswered : Option Command → Status → Option (List ℕ) → Option (List ℕ) → ℕ → ℕ → Option (List ℕ) → Option (List ℕ) → ℕ → ℕ → Option (List ℕ) → Option (List ℕ) → ℕ → ℕ → Type 0
IsAnswered command st rest0 rest1 i0 i1 out0 out1 o0 o1 diag0 diag1 d0 d1 =
    IsDecided command st rest0 rest1 i0 i1 out0 out1 o0 o1 diag0 diag1 d0 d1
    ⊎ ((st ≡ status.NoMemory) × (rest1 ≡ rest0) × (out1 ≡ out0) × (diag1 ≡ diag0))
