use Rattle.std.proofs.Common.{get_or}
use Rattle.std.proofs.lemmas.List.{get_or_default}
use Rattle.net_topology.specs.declared.ups.Up.{Up}
use Rattle.net_topology.specs.Ups.{attachment_of, same_attachment}
use Rattle.net_topology.proofs.Lookups.{lookup_turn, attachments_turned}
use Rattle.net_topology.proofs.ups.by_attachment.Goals as goal

pub loop-up-preserved : goal.loop-up-preserved
loop-up-preserved c =
    let none : Up = record { addr = 0; at = record { router = 0; len = 0; first = 0 } } in
    let x = get_or c.args.ups.now c.loop-up.up-index none in
    lookup_turn same_attachment attachment_of c.loop-up.lookup c.insert.new.self c.args.ups.now c.loop-up.up-index x attachments_turned c.loop-up-test.true
    (get_or_default c.args.ups.now c.loop-up.up-index none x c.loop-up-test.true) c.in_ok-insert.ensures.updates.0 c.loop-up.invariant
