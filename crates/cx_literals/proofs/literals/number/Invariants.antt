use Rattle.std.proofs.Common.{◌≡◌, ◌≤◌, true, drop}
use Rattle.std.specs.List.{list_all}
use Rattle.cx_tokens.specs.Literals.{is_digit_of, number_after}
use Rattle.cx_literals.proofs.literals.number.Given as goal

abbrev pub invariant-loop-byte : goal.invariant-loop-byte
invariant-loop-byte l = record {
  small : l.value ≤ 18446744073709551615;
  digits : list_all (is_digit_of true) (drop l.byte-index l.digits) ≡ true;
  goes_on : number_after l.base l.value (drop l.byte-index l.digits) ≡ number_after l.base 0 l.digits;
}
