use Rattle.bonsai_top.proofs.OneOutcome.{outcome_is_one}
use Rattle.bonsai_top.proofs.laws.outcome_is_one.Goals as goal

pub returns : goal.returns
returns c = outcome_is_one c.groups_answer_is_one.ensures c.compress_answer_is_one.ensures c.canon_answer_is_one.ensures c.check_answer_is_one.ensures
    c.fold_answer_is_one.ensures c.lift_answer_is_one.ensures c.verify_answer_is_one.ensures c.run_answer_is_one.ensures c.reach_answer_is_one.ensures
    c.report_answer_is_one.ensures c.json_answer_is_one.ensures c.summary_answer_is_one.ensures c.trial_answer_is_one.ensures
