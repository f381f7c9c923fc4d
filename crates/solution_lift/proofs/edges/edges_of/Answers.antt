use Rattle.std.proofs.Common.{◌∙◌}
use Rattle.solution_lift.proofs.Directions.{sorted_are}
use Rattle.solution_lift.proofs.edges.edges_of.Goals as goal

pub returns : goal.returns
returns c = λ count within.
    c.from_vec.ensures ∙ sorted_are c.args.protocol c.args.edges.now c.args.links.now _ _ _ count within c.in_ok-found.ensures c.in_ok-sort_by_exporter.ensures
    c.in_ok-sort_by_importer.ensures
