use Rattle.workflow_laws.proofs.Rested.{what_rests_is_stable}
use Rattle.workflow_laws.proofs.what_rests_is_stable.Goals as goal

pub returns : goal.returns
returns c =
    what_rests_is_stable c.what_is_read_is_well.ensures c.given_is_well_formed.ensures c.printed_is_read_back.ensures c.stable_is_in_range.ensures
    c.stable_text_is_short.ensures
