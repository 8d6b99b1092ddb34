-- The lemmas on combinators as lists, for searches.
use Rattle.cx_syntax_laws.proofs.Sequence.{lawful_step, lawful_give, lawful_bind}
use Rattle.cx_syntax_laws.proofs.Tokens.{lawful_token, filled_token, takes_token, opens_token}
use Rattle.cx_syntax_laws.proofs.Choices.{lawful_given, filled_given, takes_given, lawful_when, lawful_when_opens, lawful_until, filled_when, takes_when}
use Rattle.cx_syntax_laws.proofs.Firsts.{filled_first, takes_first, takes_second, opens_first, opens_three, opens_either}
use Rattle.cx_syntax_laws.proofs.Repeats.{lawful_repeat, lawful_repeat_until}
use Rattle.cx_syntax_laws.proofs.Enclosed.{lawful_bracketed, lawful_bracketed_until, filled_bracketed, takes_bracketed, takes_bracketed_until, opens_bracketed, opens_bracketed_until, lawful_angles, lawful_angles_until, filled_angles, takes_angles, takes_angles_until, opens_angles, opens_angles_until, filled_step, opens_where}
use Rattle.cx_syntax_laws.proofs.Levels.{grows_give, grows_step, grows_token, grows_counted, grows_bind, grows_given, grows_when, grows_repeat}
use Rattle.cx_syntax_laws.proofs.Firm.{firm_step, firm_give, firm_token, firm_counted, firm_after_token, firm_bind, firm_given, firm_when, firm_repeat, keeps_give, keeps_bind, keeps_given, keeps_when}

-- What is made by combinators is lawful, needs a piece, takes one, begins with each piece of a class.
pub ruleset lawfulness = (lawful_bracketed, lawful_bracketed_until, lawful_angles, lawful_angles_until, lawful_give, lawful_step, lawful_token, lawful_bind, lawful_given, lawful_when, lawful_when_opens, lawful_until, lawful_repeat, lawful_repeat_until)

pub ruleset filling = (filled_bracketed, filled_angles, filled_token, filled_first, filled_step, filled_given, filled_when)

pub ruleset taking = (takes_bracketed, takes_bracketed_until, takes_angles, takes_angles_until, takes_token, takes_first, takes_second, takes_given, takes_when)

pub ruleset opening = (opens_bracketed, opens_bracketed_until, opens_angles, opens_angles_until, opens_token, opens_first, opens_three, opens_either, opens_where)

pub ruleset laws = (lawfulness, filling, taking, opening)

-- ... and reads the same at a higher level.
pub ruleset growth = (grows_give, grows_step, grows_token, grows_counted, grows_bind, grows_given, grows_when, grows_repeat)

pub ruleset firmness = (firm_after_token, firm_bind, firm_give, firm_step, firm_token, firm_counted, firm_given, firm_when, firm_repeat)

pub ruleset keeping = (keeps_bind, keeps_give, keeps_given, keeps_when)
