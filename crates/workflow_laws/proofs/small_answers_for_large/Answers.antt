use Rattle.workflow_laws.proofs.Asked.{small_answers_for_large}
use Rattle.workflow_laws.proofs.Written.{WrittenFits}
use Rattle.workflow_laws.proofs.small_answers_for_large.Goals as goal

pub returns : goal.returns
returns c =
    let fits : WrittenFits = record { built = c.built_fits.ensures; canonical = c.canonical_fits.ensures } in
    small_answers_for_large c.what_is_read_is_well.ensures fits c.fitting_plan_compresses.ensures c.pictures_agree.ensures
    c.questions_carry.ensures
