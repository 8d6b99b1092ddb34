use Rattle.std.specs.Prelude.{string_bytes}
use Rattle.cx_plain_language.proofs.StmtTexts.{no_indent, deeper_indent}
use Rattle.cx_plain_language.proofs.statements.put_indent.Goals as goal

pub loop-brace-init : goal.loop-brace-init
loop-brace-init c = no_indent (string_bytes c.args.out.now)

pub loop-brace-preserved : goal.loop-brace-preserved
loop-brace-preserved c = deeper_indent (string_bytes c.args.out.now) (string_bytes c.loop-brace.out) (string_bytes c.push_str.new.self) c.loop-brace._brace c.loop-brace.invariant c.in_ok-push_str.ensures.bytes
