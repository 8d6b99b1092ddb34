use Rattle.cx_lexer.proofs.DividedTokens.{tokens_of, few_tokens, fault_of}
use Rattle.cx_lexer.proofs.OneDivision.{found, only, one_list}
use Rattle.cx_lexer.proofs.laws.one_division.Goals as goal

pub returns-clause-found : goal.returns-clause-found
returns-clause-found c = found

pub returns-clause-only : goal.returns-clause-only
returns-clause-only c = only

pub returns-clause-one : goal.returns-clause-one
returns-clause-one c = one_list

pub returns-clause-ended : goal.returns-clause-ended
returns-clause-ended c = λ bytes ts are. (tokens_of bytes ts are).ended

pub returns-clause-spelled : goal.returns-clause-spelled
returns-clause-spelled c = λ bytes ts are. (tokens_of bytes ts are).spelled

pub returns-clause-stand : goal.returns-clause-stand
returns-clause-stand c = λ bytes ts are. (tokens_of bytes ts are).stand

pub returns-clause-few : goal.returns-clause-few
returns-clause-few c = few_tokens

pub returns-clause-faults : goal.returns-clause-faults
returns-clause-faults c = fault_of
