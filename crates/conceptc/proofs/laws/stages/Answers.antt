use Rattle.conceptc.proofs.StageLemmas.{Laws, is_spelled, is_read, lexical, lexical_only, is_syntax, is_misfit, is_deep, is_form, is_unsupported_fault, is_naming, no_unit}
use Rattle.conceptc.proofs.laws.stages.Goals as goal

pub returns : goal.returns
returns c =
    let laws : Laws = record {
      read = c.one_division.ensures.found;
      only_read = c.one_division.ensures.only;
      ended = c.one_division.ensures.ended;
      texts = c.one_division.ensures.spelled;
      faults = c.one_division.ensures.faults;
      found = c.one_unit.ensures.found;
      only = c.one_unit.ensures.only;
      stops = c.one_unit.ensures.stops;
      first = c.forms_of_a_unit.ensures.first;
      kinds = c.names_of_a_unit.ensures.kinds;
    } in
    record {
      spelled = is_spelled laws;
      only = is_read laws;
      lexical = lexical laws;
      lexical_only = lexical_only laws;
      syntax = is_syntax laws;
      misfit = is_misfit laws;
      limits = is_deep laws;
      forms = is_form laws;
      unsupported = is_unsupported_fault laws;
      names = is_naming laws;
      no_unit = no_unit laws c.one_unit.ensures.none;
    }
