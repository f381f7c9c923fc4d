use Rattle.std.proofs.Common.{List, ◌∙◌, subst}
use Rattle.base_kit.specs.declared.act_graph.Edge.{Edge}
use Rattle.refine_partition.specs.Index.{IsImportIndex}
use Rattle.srp_core.proofs.GraphPartitions.{exporters_inside}
use Rattle.driver.proofs.grouping.exports_of_problem.Goals as goal

pub exports_of-requires : goal.exports_of-requires
exports_of-requires c = exporters_inside c.args.problem.now c.count-routers.ensures.rules _ _ c.edges.ensures c.count-routers.ensures.count

pub returns : goal.returns
returns c = record {
  total = c.in_ok-exports.ensures.total ∙ c.count-routers.ensures.count;
  index = subst (λ (edges : List Edge). IsImportIndex edges c.in_ok-exports.exports.imports.items) c.edges.ensures c.in_ok-exports.ensures.index;
}
