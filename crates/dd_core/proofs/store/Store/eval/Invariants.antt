use Rattle.std.proofs.Common.{◌≡◌, ◌<◌, length}
use Rattle.dd_core.specs.Value.{value}
use Rattle.dd_core.specs.Sets.{test_of}
use Rattle.dd_core.proofs.store.Store.eval.Given as goal

abbrev pub invariant-loop-answer : goal.invariant-loop-answer
invariant-loop-answer l = record {
  inside : l.place < length l.self-inside.table;
  same : value l.self-inside.table (test_of l.self-inside.universe l.set) l.place ≡ value l.self-inside.table (test_of l.self-inside.universe l.set) l.fn.a;
}

abbrev pub decreases-loop-answer : goal.decreases-loop-answer
decreases-loop-answer l = l.place
