use Rattle.std.proofs.Common.{inl}
use Rattle.conceptc.proofs.call.Goals as goal

pub returns-in-Err-NotText : goal.returns-in-Err-NotText
returns-in-Err-NotText g c = record { answered = (_, inl c.conceptc.ensures.decided) }
