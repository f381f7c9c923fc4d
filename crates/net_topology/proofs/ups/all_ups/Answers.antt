use Rattle.std.proofs.Common.{ap, ◌∙◌, ◌++◌, flat_map}
use Rattle.std.specs.List.{enumerate_from}
use Rattle.net_topology.specs.Ups.{ups_on}
use Rattle.net_topology.proofs.UpFacts.{ups_turn, ups_first}
use Rattle.net_topology.proofs.ups.all_ups.Goals as goal

pub loop-r-init : goal.loop-r-init
loop-r-init c = ap (λ xs. xs ++ flat_map ups_on (enumerate_from 0 c.args.routers.now)) c.new-found.ensures.items ∙ ups_first c.args.routers.now

pub loop-r-preserved : goal.loop-r-preserved
loop-r-preserved c =
    let x = c.index-routers-r.result in
    let pushed = c.in_ok-push_ups.ensures ∙ ap (λ r. c.loop-r.found.items ++ ups_on (r, x)) c.place-router.ensures in
    ups_turn c.loop-r.found.items c.push_ups.new.found.items _ c.args.routers.now c.loop-r.r x c.loop-r-test.true c.index-routers-r.is pushed c.loop-r.invariant
