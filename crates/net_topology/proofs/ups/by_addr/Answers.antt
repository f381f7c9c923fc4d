use Rattle.std.proofs.Common.{nat_eq, get_or}
use Rattle.std.proofs.lemmas.List.{get_or_default}
use Rattle.net_topology.specs.declared.ups.Up.{Up}
use Rattle.net_topology.specs.Ups.{addr_of}
use Rattle.net_topology.proofs.Lookups.{lookup_turn, numbers_turned}
use Rattle.net_topology.proofs.ups.by_addr.Goals as goal

pub loop-up-preserved : goal.loop-up-preserved
loop-up-preserved c =
    let none : Up = record { addr = 0; at = record { router = 0; len = 0; first = 0 } } in
    let x = get_or c.args.ups.now c.loop-up.up-index none in
    lookup_turn nat_eq addr_of c.loop-up.lookup c.insert.new.self c.args.ups.now c.loop-up.up-index x numbers_turned c.loop-up-test.true
    (get_or_default c.args.ups.now c.loop-up.up-index none x c.loop-up-test.true) c.in_ok-insert.ensures.updates.0 c.loop-up.invariant
