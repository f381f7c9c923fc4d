use Rattle.workflow_laws.proofs.Written.{fitting_text_has_problem}
use Rattle.workflow_laws.proofs.fitting_text_has_problem_of_groups.Goals as goal

pub returns : goal.returns
returns c =
    fitting_text_has_problem c.fitting_plan_fits.ensures c.emitted_can_be_printed.ensures c.emitted_stands_for_groups.ensures c.printed_is_read_back.ensures
    c.faultless_is_accepted.ensures
