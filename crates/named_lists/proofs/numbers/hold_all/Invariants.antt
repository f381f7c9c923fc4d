use Rattle.std.proofs.Common.{drop}
use Rattle.named_lists.proofs.Held.{AddsRest}
use Rattle.named_lists.proofs.numbers.hold_all.Given as goal

abbrev pub invariant-loop-entry : goal.invariant-loop-entry
invariant-loop-entry g l = AddsRest g.E.Numbered.number l.fn.numbers l.numbers l.place l.entries (drop l.entry-index l.entries)
