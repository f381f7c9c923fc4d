use Rattle.std.proofs.Common.{◌≡◌, sym, ◌∙◌, Some, None}
use Rattle.std.specs.List.{position}
use Rattle.cfg_stanzas.proofs.ChangedNeighbors.{has_addr, at_found, at_absent}
use Rattle.cfg_stanzas.proofs.neighbors.Neighbors.change.Goals as goal

pub returns-in-Some-clause-set : goal.returns-in-Some-clause-set
returns-in-Some-clause-set c =
    let found : position (has_addr c.args.addr) c.args.self.now ≡ Some c.in-Some.place = sym c.place_of.ensures ∙ c.in-Some.is in
    rw (at_found c.args.number c.args.addr c.in-Some.place c.args.item c.args.self.now found) c.change_at.ensures.set

pub returns-in-None-clause-set : goal.returns-in-None-clause-set
returns-in-None-clause-set c =
    let absent : position (has_addr c.args.addr) c.args.self.now ≡ None = sym c.place_of.ensures ∙ c.in-None.is in
    rw c.misplaced.ensures (at_absent c.args.number c.args.addr _ c.args.self.now absent)
