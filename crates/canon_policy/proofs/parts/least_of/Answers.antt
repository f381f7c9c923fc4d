use Rattle.std.proofs.Common.{◌≡◌, ◌∙◌, ℕ, List, ap, take, get_or, arith}
use Rattle.std.proofs.lemmas.List.{take_all}
use Rattle.canon_policy.proofs.Firsts.{least_of_none, least_among, told_hang, told_least}
use Rattle.canon_policy.proofs.Carried.{either_known, first_known, more_least, read_at}
use Rattle.canon_policy.proofs.parts.least_of.Goals as goal

pub loop-node-init : goal.loop-node-init
loop-node-init c = record { known = tt; least = λ hang. least_of_none c.args.store.now }

pub loop-node-preserved : goal.loop-node-preserved
loop-node-preserved c =
    let node : c.node-item.result ≡ get_or c.args.nodes.now c.loop-node.node-index 0 =
    read_at c.args.nodes.now c.loop-node.node-index c.node-item.result 0 c.loop-node-test.true c.node-item.is in
    record {
      known = either_known c.args.store.now.universe c.loop-node.least c.first.result c.lesser-least.result c.lesser-least.ensures.either
          c.loop-node.invariant.known (first_known c.args.store.now _ c.first.result c.first.ensures);
      least = more_least c.args.store.now c.len-known.ensures.shown c.args.nodes.now c.loop-node.node-index _ c.loop-node-test.true node _ _
          c.loop-node.invariant.least c.first.result c.first.ensures c.lesser-least.ensures.lesser;
    }

pub returns-clause-least : goal.returns-clause-least
returns-clause-least c = λ part hangs tells.
    let e : take c.loop-node.node-index c.args.nodes.now ≡ c.args.nodes.now = take_all c.loop-node.node-index c.args.nodes.now (omega arith) in
    c.loop-node.invariant.least (told_hang c.args.store.now c.args.nodes.now part hangs tells)
    ∙ ap (λ (l : List ℕ). least_among c.args.store.now l) e
    ∙ told_least c.args.store.now c.args.nodes.now part hangs tells
