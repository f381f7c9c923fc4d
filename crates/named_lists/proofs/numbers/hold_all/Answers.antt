use Rattle.std.proofs.Common.{◌<◌, true, length, arith}
use Rattle.std.specs.BTreeSet as sorted
use Rattle.named_lists.specs.NumberedLists.{pair_order}
use Rattle.named_lists.proofs.Held.{next_added}
use Rattle.named_lists.proofs.numbers.hold_all.Goals as goal

pub loop-entry-preserved : goal.loop-entry-preserved
loop-entry-preserved g c =
    let inside : c.loop-entry.entry-index < length c.args.entries.now = omega (arith, c.loop-entry.auto.entry-index-end, c.loop-entry-test.true) in
    let updates : sorted.Updates pair_order c.loop-entry.numbers c.insert.new.self (c.args.place, g.E.Numbered.number c.entry-item.result) true =
    rw c.number.ensures at c.in_ok-insert.ensures.updates in
    next_added g.E.Numbered.number c.args.numbers.now c.loop-entry.numbers c.insert.new.self c.args.place c.args.entries.now c.loop-entry.entry-index
    c.entry-item.result inside c.entry-item.is updates c.loop-entry.invariant
