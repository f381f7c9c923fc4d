use Rattle.std.proofs.Common.{◌≡◌, ◌≤◌, length}
use Rattle.dd_core.specs.Marks.{choices_before}
use Rattle.dd_core.proofs.reach.count_choices.Given as goal

abbrev pub invariant-loop-place : goal.invariant-loop-place
invariant-loop-place l = record {
  small : l.count ≤ l.place;
  counted : l.count ≡ length (choices_before l.table l.marks l.place);
}
