use Rattle.std.proofs.Common.{ℕ, ◌<◌, List, length, get_or, sym, ap, subst}
use Rattle.std.specs.Prelude.{Contains}
use Rattle.std.proofs.lemmas.List.Elements.{All-contains_itself}
use Rattle.base_kit.specs.declared.act_graph.Edge.{Edge}
use Rattle.srp_core.proofs.GraphPartitions.{importers_inside, exporters_inside}
use Rattle.group_report.proofs.link_counts.link_count.Goals as goal

pub count_over-requires-clause-importers : goal.count_over-requires-clause-importers
count_over-requires-clause-importers c = importers_inside c.args.srp.now c.count-known.ensures.rules _ _ c.edges.ensures c.requires.total

pub count_over-requires-clause-exporters : goal.count_over-requires-clause-exporters
count_over-requires-clause-exporters c = exporters_inside c.args.srp.now c.count-known.ensures.rules _ _ c.edges.ensures c.requires.total

pub count_over-requires-clause-acts : goal.count_over-requires-clause-acts
count_over-requires-clause-acts c k d inside =
    let edge : Edge = get_or c.edges.result.now k d in
    let here = subst (λ (edges : List Edge). Contains edges edge) c.edges.ensures (All-contains_itself c.edges.result.now k d inside) in
    subst (λ (acts : ℕ). edge.act < acts) (sym (ap length c.acts.ensures)) (c.count-known.ensures.rules.edges.inside edge here).act_in
