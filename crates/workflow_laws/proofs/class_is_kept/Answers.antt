use Rattle.workflow_laws.proofs.SmallStarts.{class_is_kept}
use Rattle.workflow_laws.proofs.Written.{WrittenFits}
use Rattle.workflow_laws.proofs.class_is_kept.Goals as goal

pub returns : goal.returns
returns c =
    let fits : WrittenFits = record { built = c.built_fits.ensures; canonical = c.canonical_fits.ensures } in
    class_is_kept c.what_is_read_is_well.ensures fits c.fitting_text_has_problem_of_groups.ensures c.fitting_plan_fits.ensures
    c.emitted_can_be_printed.ensures c.printed_is_read_back.ensures c.quotient_is_quotient.ensures
