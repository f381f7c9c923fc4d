use Rattle.std.proofs.Common.{◌<◌, ◌^◌, List, length, ◌∙◌, sym, ap, subst, arith}
use Rattle.base_kit.specs.declared.act_graph.Edge.{Edge}
use Rattle.srp_core.proofs.GraphPartitions.{importers_inside, exporters_inside}
use Rattle.driver.proofs.grouping.counted.Goals as goal

pub over-graph-requires-clause-few_routers : goal.over-graph-requires-clause-few_routers
over-graph-requires-clause-few_routers g c = let t = ap length c.deref.ensures.value ∙ c.in_ok-colors.ensures.total in let few =
    c.count-known.ensures.rules.tables.few_routers in omega arith

pub over-graph-requires-clause-few_edges : goal.over-graph-requires-clause-few_edges
over-graph-requires-clause-few_edges g c = subst (λ (l : List Edge). length l < 2 ^ 32) (sym c.edges.ensures) c.count-known.ensures.rules.tables.few_edges

pub over-graph-requires-clause-importers_in_range : goal.over-graph-requires-clause-importers_in_range
over-graph-requires-clause-importers_in_range g c = importers_inside c.args.problem.now c.count-known.ensures.rules _ _ c.edges.ensures
    (ap length c.deref.ensures.value ∙ c.in_ok-colors.ensures.total)

pub over-graph-requires-clause-exporters_in_range : goal.over-graph-requires-clause-exporters_in_range
over-graph-requires-clause-exporters_in_range g c = exporters_inside c.args.problem.now c.count-known.ensures.rules _ _ c.edges.ensures
    (ap length c.deref.ensures.value ∙ c.in_ok-colors.ensures.total)

pub returns : goal.returns
returns g c =
    let colors_are = c.over-graph.ensures.colors ∙ c.deref.ensures.value in
    let routers = c.over-graph.ensures.count ∙ ap length c.deref.ensures.value ∙ c.in_ok-colors.ensures.total in
    (c.in_ok-colors.ensures.coarsest _ routers colors_are (c.over-graph.ensures.edges ∙ c.edges.ensures) _).1 c.in_ok-partition.ensures.coarsest
