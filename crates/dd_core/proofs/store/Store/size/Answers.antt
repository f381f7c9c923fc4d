use Rattle.std.proofs.Common.{refl, ◌≡◌, arith, ap, length}
use Rattle.dd_core.specs.Sets.{Shown}
use Rattle.dd_core.proofs.MarkLemmas.{size_is}
use Rattle.dd_core.proofs.store.Store.size.Goals as goal

pub returns : goal.returns
returns c =
    let count : length c.self.inside.table ≡ length c.args.self.now.nodes = ap (λ (s : Shown). length s.nodes) c.self.view_is in
    let number = c.place.ensures in
    let below = c.requires in
    let total = c.in_ok-marks.ensures.total in
    rw (← c.self.view_is, ← c.place.ensures, c.count_choices-size.ensures, c.deref.ensures.value)
    (size_is c.self.inside.table c.place.result c.in_ok-marks.marks.items _ refl (omega arith) c.in_ok-marks.ensures)
