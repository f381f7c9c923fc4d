use Rattle.workflow_laws.proofs.PrintedShort.{printed_is_short}
use Rattle.workflow_laws.proofs.printed_is_short.Goals as goal

pub returns : goal.returns
returns c =
    printed_is_short c.what_is_read_is_well.ensures c.given_is_well_formed.ensures c.quotient_is_quotient.ensures c.stable_text_is_short.ensures
    c.text_of_groups_is_short.ensures
