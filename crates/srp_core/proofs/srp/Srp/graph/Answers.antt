use Rattle.std.proofs.Common.{length, ap, sym, ◌∙◌, arith}
use Rattle.srp_core.proofs.Colors.{graph_of}
use Rattle.srp_core.proofs.GraphPartitions.{admissible_both, coarsest_both, importers_inside, exporters_inside}
use Rattle.srp_core.proofs.srp.Srp.graph.Goals as goal

pub invariant_of-result : goal.invariant_of-result
invariant_of-result c =
    let P = c.args.self.now in
    let rules = c.count.ensures.rules in
    let edges = c.from_vec-2.ensures ∙ c.in_ok-edges.ensures.items ∙ c.edges.ensures in
    record {
      one_color_each = ap length c.from_vec.ensures ∙ c.in_ok-colors.ensures.total ∙ sym c.count.ensures.count;
      few_edges = (let few = rules.tables.few_edges in let e = ap length edges in omega (arith, few, e));
      importers_in_range = importers_inside P rules c.from_vec-2.result c.count.result edges c.count.ensures.count;
      exporters_in_range = exporters_inside P rules c.from_vec-2.result c.count.result edges c.count.ensures.count;
    }

pub returns-clause-graph : goal.returns-clause-graph
returns-clause-graph c = graph_of c.args.self.now c.count.ensures.rules c.in_ok-colors.colors.items c.in_ok-colors.ensures _ c.count.ensures.count
    c.from_vec.ensures (c.from_vec-2.ensures ∙ c.in_ok-edges.ensures.items ∙ c.edges.ensures)

pub returns-clause-admissible : goal.returns-clause-admissible
returns-clause-admissible c = admissible_both c.args.self.now c.count.ensures.rules _
    (graph_of c.args.self.now c.count.ensures.rules c.in_ok-colors.colors.items c.in_ok-colors.ensures _ c.count.ensures.count c.from_vec.ensures
    (c.from_vec-2.ensures ∙ c.in_ok-edges.ensures.items ∙ c.edges.ensures))

pub returns-clause-coarsest : goal.returns-clause-coarsest
returns-clause-coarsest c = coarsest_both c.args.self.now c.count.ensures.rules _
    (graph_of c.args.self.now c.count.ensures.rules c.in_ok-colors.colors.items c.in_ok-colors.ensures _ c.count.ensures.count c.from_vec.ensures
    (c.from_vec-2.ensures ∙ c.in_ok-edges.ensures.items ∙ c.edges.ensures))
