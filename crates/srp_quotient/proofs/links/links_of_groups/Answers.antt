use Rattle.srp_core.proofs.GraphPartitions.{importers_inside, exporters_inside}
use Rattle.srp_quotient.proofs.links.links_of_groups.Goals as goal

pub quotient_over-requires-clause-importers : goal.quotient_over-requires-clause-importers
quotient_over-requires-clause-importers c = importers_inside c.args.srp.now c.count-known.ensures.rules _ _ c.edges.ensures c.requires

pub quotient_over-requires-clause-exporters : goal.quotient_over-requires-clause-exporters
quotient_over-requires-clause-exporters c = exporters_inside c.args.srp.now c.count-known.ensures.rules _ _ c.edges.ensures c.requires
