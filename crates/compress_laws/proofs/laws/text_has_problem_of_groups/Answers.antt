use Rattle.compress_laws.proofs.Texts.{text_has_problem}
use Rattle.compress_laws.proofs.laws.text_has_problem_of_groups.Goals as goal

pub returns : goal.returns
returns c = text_has_problem c.plan_fits.ensures c.emitted_can_be_printed.ensures c.emitted_stands_for_groups.ensures c.printed_is_read_back.ensures
    c.faultless_is_accepted.ensures
