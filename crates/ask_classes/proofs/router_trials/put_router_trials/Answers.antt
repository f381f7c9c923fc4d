use Rattle.std.proofs.Common.{◌<◌, ◌≤◌, [], List, ℕ, length, map, sym, subst, arith}
use Rattle.std.specs.Prelude.{filter}
use Rattle.std.specs.List.{enumerate_from}
use Rattle.std.proofs.lemmas.List.{length-map}
use Rattle.cfg_ast.specs.declared.network.Router.{Router}
use Rattle.ask_names.specs.Networks.{names_of}
use Rattle.ask_classes.specs.Failing.{router_losses}
use Rattle.ask_classes.specs.Tries.{WritesTrials}
use Rattle.ask_classes.proofs.Losses.{router_loss, router_left}
use Rattle.ask_classes.proofs.Trying.{none_tried, item_tried, all_tried, tried_few, failed_few, tied_few}
use Rattle.ask_classes.proofs.router_trials.put_router_trials.Goals as goal

pub loop-place-init : goal.loop-place-init
loop-place-init c = none_tried c.args.asking.now.problems.now.whole.now c.args.asking.now.asks.now c.args.bytes.now.items c.none-tally.result
    c.none-tally.ensures

pub try_router-requires-clause-tried : goal.try_router-requires-clause-tried
try_router-requires-clause-tried c =
    let asking = c.args.asking.now in
    let network = asking.scene.now.network.now in
    let many = length-map network.routers (λ (router : Router). router.name) in
    let end = c.len-place-end.ensures in
    let less = c.loop-place-test.true in
    let inside : c.loop-place.place < length (names_of network) = omega (arith, many, end, less) in
    let few = tried_few asking.problems.now.whole.now asking.asks.now (router_loss asking) (router_left asking) (names_of network) c.loop-place.place
    c.args.bytes.now.items c.loop-place.bytes.items c.loop-place.tally inside c.loop-place.invariant in
    let bounded = c.requires.scene.few_routers in
    let bound : c.loop-place.tally.tried < 4294967296 = omega (arith, few, less, end, bounded) in
    bound

pub try_router-requires-clause-failed : goal.try_router-requires-clause-failed
try_router-requires-clause-failed c = failed_few c.loop-place.invariant.trials c.loop-place.tally c.loop-place.invariant.counted

pub try_router-requires-clause-tied : goal.try_router-requires-clause-tied
try_router-requires-clause-tied c = tied_few c.loop-place.invariant.trials c.loop-place.tally c.loop-place.invariant.counted

pub loop-place-preserved : goal.loop-place-preserved
loop-place-preserved c =
    let asking = c.args.asking.now in
    let network = asking.scene.now.network.now in
    let many = length-map network.routers (λ (router : Router). router.name) in
    let end = c.len-place-end.ensures in
    let less = c.loop-place-test.true in
    let inside : c.loop-place.place < length (names_of network) = omega (arith, many, end, less) in
    item_tried asking.problems.now.whole.now asking.asks.now (router_loss asking) (router_left asking) (names_of network) c.loop-place.place []
    c.args.bytes.now.items c.loop-place.bytes.items c.try_router.new.bytes.items c.loop-place.tally c.in_ok-tally.tally inside
    c.loop-place.invariant c.in_ok-tally.ensures

pub returns : goal.returns
unfolding router_losses
returns c =
    let asking = c.args.asking.now in
    let whole = asking.problems.now.whole.now in
    let network = asking.scene.now.network.now in
    let many = length-map network.routers (λ (router : Router). router.name) in
    let end = c.len-place-end.ensures in
    let past = c.loop-place-test.false in
    let all : length (names_of network) ≤ c.loop-place.place = omega (arith, many, end, past) in
    subst (λ (ns : List (List ℕ)). WritesTrials whole asking.asks.now
    (map (router_loss asking) (filter (router_left asking) (enumerate_from 0 ns))) c.args.bytes.now.items
    c.loop-place.bytes.items c.loop-place.tally) (sym c.requires.scene.names)
    (all_tried whole asking.asks.now (router_loss asking) (router_left asking) (names_of network) c.loop-place.place c.args.bytes.now.items
    c.loop-place.bytes.items c.loop-place.tally all c.loop-place.invariant)
