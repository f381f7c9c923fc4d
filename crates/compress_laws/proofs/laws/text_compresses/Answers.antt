use Rattle.compress_laws.proofs.Compressing.{compresses}
use Rattle.compress_laws.proofs.laws.text_compresses.Goals as goal

pub returns : goal.returns
returns c = λ e plan coarse few short. compresses (record {
  can_be_printed = c.emitted_can_be_printed.ensures;
  stands = c.emitted_stands_for_groups.ensures;
  planned_links = c.emitted_has_planned_links.ensures;
  no_larger = c.emitted_is_no_larger.ensures;
  read_back = c.printed_is_read_back.ensures;
  members_back = c.members_are_read_back.ensures;
  accepted = c.faultless_is_accepted.ensures;
  quotient = c.quotient_is_quotient.ensures;
  below = c.to_quotient.ensures;
  above = c.from_quotient.ensures;
  alike = c.problems_of_one_prefix.ensures;
  coarsest = c.partitions.ensures.coarsest;
  quotients = c.quotients.ensures;
}) e plan coarse few short
