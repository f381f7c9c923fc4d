use Rattle.std.proofs.Common.{refl}
use Rattle.cfg_stanzas.specs.Indexes.{prefix_order, net_prefix}
use Rattle.cfg_stanzas.proofs.Indexed.{keys_noted}
use Rattle.cfg_stanzas.proofs.networks.Networks.with.Goals as goal

pub invariant_of-result : goal.invariant_of-result
invariant_of-result c = rw c.in_ok-push.ensures.ok (keys_noted prefix_order net_prefix c.self.inside.prefixes c.insert.new.self c.self.inside.items c.args.net
    c.args.net.prefix refl c.in_ok-insert.ensures.updates c.self.invariant)
