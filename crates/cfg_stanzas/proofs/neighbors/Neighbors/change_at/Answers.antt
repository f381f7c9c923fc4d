use Rattle.std.proofs.Common.{◌≡◌, get_or, sym, ap, ◌∙◌, ◌<◌, subst}
use Rattle.std.specs.Prelude.{length}
use Rattle.cfg_ast.specs.declared.bgp.Neighbor.{Neighbor}
use Rattle.cfg_ast.specs.text.Stanzas.{new_neighbor}
use Rattle.cfg_stanzas.proofs.ChangedNeighbors.{other_default}
use Rattle.cfg_stanzas.proofs.Indexed.{addresses_kept}
use Rattle.cfg_stanzas.proofs.neighbors.Neighbors.change_at.Goals as goal

pub invariant_of-self : goal.invariant_of-self
invariant_of-self c =
    let peers = c.self.inside.items.items in
    let place = c.args.place in
    let inside : place < length peers = subst (λ peers. place < length peers) (sym c.self.view_is) c.requires in
    let was : c.index_mut.result.now ≡ get_or peers place (new_neighbor 0 0 0) = c.index_mut.ensures.value
    ∙ other_default peers place c.index_mut.result.now inside in (
      addresses_kept c.self.inside.places peers place c.set_neighbor.new.peer (new_neighbor 0 0 0) inside
          (c.set_neighbor.ensures.addr ∙ ap (λ (p : Neighbor). p.addr) was) c.self.invariant.0,
      c.self.invariant.1,
    )

pub invariant_of-self-2 : goal.invariant_of-self-2
invariant_of-self-2 c =
    let peers = c.self.inside.items.items in
    let place = c.args.place in
    let inside : place < length peers = subst (λ peers. place < length peers) (sym c.self.view_is) c.requires in
    let was : c.index_mut.result.now ≡ get_or peers place (new_neighbor 0 0 0) = c.index_mut.ensures.value
    ∙ other_default peers place c.index_mut.result.now inside in (
      addresses_kept c.self.inside.places peers place c.set_neighbor.new.peer (new_neighbor 0 0 0) inside
          (c.set_neighbor.ensures.addr ∙ ap (λ (p : Neighbor). p.addr) was) c.self.invariant.0,
      c.self.invariant.1,
    )
