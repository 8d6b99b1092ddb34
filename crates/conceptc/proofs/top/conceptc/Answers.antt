use Rattle.conceptc.proofs.AnswersLemmas.{is_limit, is_write_fault, depth_exactly, ill_formed_exactly, done_exactly, complete}
use Rattle.conceptc.proofs.top.conceptc.Goals as goal

pub returns-clause-limit : goal.returns-clause-limit
returns-clause-limit g c = is_limit c.decide-decision.result c.announce.result _ _ _ _ _ _ _ _ _ _ _ _ _ c.stages.ensures.limits c.decide-decision.ensures.cause c.announce.ensures.says

pub returns-clause-write_fault : goal.returns-clause-write_fault
returns-clause-write_fault g c = is_write_fault c.decide-decision.result c.announce.result _ _ _ _ _ _ _ _ _ _ _ _ _ c.decide-decision.ensures.cause c.announce.ensures.says

pub returns-clause-depth_exactly : goal.returns-clause-depth_exactly
returns-clause-depth_exactly g c = depth_exactly c.decide-decision.result c.announce.result _ _ _ _ _ _ _ _ _ _ _ _ _ c.decide-decision.ensures.cause c.announce.ensures.says

pub returns-clause-ill_formed_exactly : goal.returns-clause-ill_formed_exactly
returns-clause-ill_formed_exactly g c = ill_formed_exactly c.decide-decision.result c.announce.result _ _ _ _ _ _ _ _ _ _ _ _ _ c.decide-decision.ensures.cause c.announce.ensures.says

pub returns-clause-done_exactly : goal.returns-clause-done_exactly
returns-clause-done_exactly g c = done_exactly c.decide-decision.result c.announce.result _ _ _ _ _ _ _ _ _ _ _ _ _ c.decide-decision.ensures.cause c.announce.ensures.says

pub returns-clause-complete : goal.returns-clause-complete
returns-clause-complete g c = complete c.decide-decision.result c.announce.result _ _ _ _ _ _ _ _ _ _ _ _ _ c.decide-decision.ensures.cause c.announce.ensures.says
