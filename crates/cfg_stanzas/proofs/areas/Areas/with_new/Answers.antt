use Rattle.cfg_stanzas.specs.Indexes.{area_order, area_key}
use Rattle.cfg_stanzas.proofs.Indexed.{keys_noted}
use Rattle.cfg_stanzas.proofs.areas.Areas.with_new.Goals as goal

pub invariant_of-result : goal.invariant_of-result
invariant_of-result c = rw c.in_ok-push.ensures.ok (keys_noted area_order area_key c.self.inside.said c.insert.new.self c.self.inside.items c.args.area
    c.key_of.result c.key_of.ensures c.in_ok-insert.ensures.updates c.self.invariant)
