use Rattle.workflow_laws.proofs.Carrying.{HasCarrying}
use Rattle.workflow_laws.proofs.SomeOutcome.{there_is_an_outcome, HasLaws}
use Rattle.workflow_laws.proofs.there_is_an_outcome.Goals as goal

pub returns : goal.returns
returns c =
    let carrying : HasCarrying = record {
      fold = c.lifts_and_folds_exist.ensures.fold;
      lift = c.lifts_and_folds_exist.ensures.lift;
      fold_stable = c.folds.ensures.stable;
      fold_corresponds = c.folds.ensures.corresponds;
      lift_stable = c.lifts.ensures.stable;
      lift_corresponds = c.lifts.ensures.corresponds;
      costs_stable = c.ospf_folds.ensures.stable;
      costs_correspond = c.ospf_folds.ensures.corresponds;
      lifted_stable = c.ospf_lifts.ensures.stable;
      lifted_correspond = c.ospf_lifts.ensures.corresponds;
      equal_keys = c.equal_keys.ensures;
    } in
    let laws : HasLaws = record {
      well = c.what_is_read_is_well.ensures;
      judged = c.each_text_is_judged.ensures;
      formed = c.given_is_well_formed.ensures;
      problems = c.each_class_has_problem.ensures;
      graphs = c.each_problem_has_graph.ensures;
      certificates = c.each_graph_has_certificate.ensures;
      canon = c.each_has_canonical.ensures;
      fits = c.built_fits.ensures;
      groups = c.each_has_groups.ensures;
      few_links = c.few_links.ensures;
      no_more_links = c.groups_have_no_more_links.ensures;
      is_problem = c.quotient_is_problem.ensures;
      is_quotient = c.quotient_is_quotient.ensures;
      sound = c.listed_candidates.ensures.sound;
      complete = c.listed_candidates.ensures.complete;
      carrying = carrying;
      order = c.one_order.ensures.exists;
      rest = c.rest.ensures.stable;
    } in
    there_is_an_outcome laws
