use Rattle.cfg_ast.specs.text.Stanzas.{with_peer}
use Rattle.cfg_stanzas.specs.Left.{IsLeftOfBgp}
use Rattle.cfg_stanzas.proofs.Changed.{set_keeps, peer_has}
use Rattle.cfg_stanzas.proofs.bgp.set_bgp.Goals as goal

pub returns-in-Some-clause-err : goal.returns-in-Some-clause-err
returns-in-Some-clause-err c =
    let old = c.args.process.now in
    set_keeps c.set_peer.result old c.set_peer.new.process (with_peer c.args.number c.in-Some.addr c.args.item old)
    (IsLeftOfBgp c.args.item old c.set_peer.new.process) c.set_peer.ensures.set c.set_peer.ensures.err
    (peer_has c.args.number c.in-Some.addr c.args.item old)
