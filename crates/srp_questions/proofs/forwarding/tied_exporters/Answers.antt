use Rattle.std.proofs.Common.{◌≤◌, ℕ, sym, subst, take}
use Rattle.std.specs.Prelude.{slice_index_or}
use Rattle.base_kit.specs.Sets.{IsAscending}
use Rattle.base_kit.specs.declared.act_graph.Edge.{Edge}
use Rattle.by_key.proofs.KeyedItems.{all_from}
use Rattle.srp_questions.proofs.Exporters.{tied_ascend, tied_below}
use Rattle.srp_questions.proofs.forwarding.tied_exporters.Goals as goal

pub push_once-requires-clause-ascending : goal.push_once-requires-clause-ascending
push_once-requires-clause-ascending c = subst IsAscending (sym c.loop-edge.invariant)
    (tied_ascend c.args.srp.now c.args.labels.now c.args.route.now (take c.loop-edge.edge-index c.args.edges.now))

pub push_once-requires-clause-below : goal.push_once-requires-clause-below
push_once-requires-clause-below c =
    let first : Edge = record { importer = 0; exporter = 0; act = 0; link = 0 } in
    all_from (λ (v : ℕ). v ≤ (slice_index_or c.args.edges.now c.loop-edge.edge-index (record { importer = 0; exporter = 0; act = 0; link = 0 })).exporter)
    c.loop-edge.found.items (λ v i. tied_below c.args.srp.now c.args.labels.now c.args.route.now c.args.edges.now c.loop-edge.edge-index first c.requires.rising
    c.loop-edge-test.true c.loop-edge.found.items c.loop-edge.invariant v i)

pub from_ascending-requires : goal.from_ascending-requires
from_ascending-requires c = subst IsAscending (sym c.loop-edge.invariant)
    (tied_ascend c.args.srp.now c.args.labels.now c.args.route.now (take c.loop-edge.edge-index c.args.edges.now))
