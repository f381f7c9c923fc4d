use Rattle.std.proofs.Common.{Some, ap, ◌∙◌}
use Rattle.std.specs.Prelude.{length}
use Rattle.std.specs.Ordering.{nat_cmp}
use Rattle.std.specs.BTreeMap.{Updates}
use Rattle.cfg_ast.specs.text.Stanzas.{has_neighbor}
use Rattle.cfg_stanzas.proofs.Indexed.{addresses_noted}
use Rattle.cfg_stanzas.proofs.neighbors.Neighbors.with.Goals as goal

pub invariant_of-result : goal.invariant_of-result
invariant_of-result c =
    let up : Updates nat_cmp c.self.inside.places c.insert.new.self c.args.peer.addr (Some (length c.self.inside.items.items)) =
    rw (c.len-place.ensures, c.from_vec-items.ensures) at c.in_ok-insert.ensures.updates in
    rw (c.into_vec.ensures, c.in_ok-items.ensures, c.from_vec-items.ensures) (
      addresses_noted c.self.inside.places c.insert.new.self c.self.inside.items.items c.args.peer
          (ap (λ peers. has_neighbor peers c.args.peer.addr) c.self.view_is ∙ c.requires) up c.self.invariant.0,
      c.in_ok-insert.ensures.updates.1,
    )
