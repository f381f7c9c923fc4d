use Rattle.workflow_laws.proofs.Kept.{SmallLaws}
use Rattle.workflow_laws.proofs.Up.{check_below_is_lift}
use Rattle.workflow_laws.proofs.check_below_is_lift.Goals as goal

pub returns : goal.returns
returns c =
    let laws : SmallLaws = record {
      well = c.what_is_read_is_well.ensures;
      built = c.built_problem_is_one.ensures;
      fits = record { built = c.built_fits.ensures; canonical = c.canonical_fits.ensures };
      has_problem = c.fitting_text_has_problem_of_groups.ensures;
      is_quotient = c.quotient_is_quotient.ensures;
    } in
    check_below_is_lift laws
