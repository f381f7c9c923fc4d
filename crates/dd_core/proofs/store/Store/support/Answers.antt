use Rattle.std.proofs.Common.{length, ◌≡◌, arith, ap}
use Rattle.dd_core.specs.Sets.{Shown}
use Rattle.dd_core.proofs.SupportLemmas.{support_is}
use Rattle.dd_core.proofs.store.Store.support.Goals as goal

pub returns : goal.returns
returns c =
    let count : length c.self.inside.table ≡ length c.args.self.now.nodes = ap (λ (s : Shown). length s.nodes) c.self.view_is in
    let number = c.place.ensures in
    let below = c.requires in
    rw (← c.self.view_is, ← c.place.ensures, c.in_ok-support.ensures, c.deref.ensures.value)
    (support_is _ c.self.invariant c.place.result c.in_ok-used.used.items (omega arith) c.in_ok-used.ensures)
