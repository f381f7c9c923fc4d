use Rattle.std.proofs.Common.{◌≡◌, ◌++◌, ◌-◌, ◌≤◌, length, drop, string_bytes}
use Rattle.printed_words.specs.Spaced.{spaced_words}
use Rattle.solution_text.specs.Printed.{path_words}
use Rattle.solution_text.proofs.printing.put_path.Given as goal

abbrev pub invariant-loop-from : goal.invariant-loop-from
invariant-loop-from l = record {
  inside : l.from ≤ length l.path;
  written : string_bytes l.text ++ spaced_words (path_words (drop l.from l.path)) ≡ string_bytes l.fn.text ++ spaced_words (path_words l.path);
}

abbrev pub decreases-loop-from : goal.decreases-loop-from
decreases-loop-from l = length l.path - l.from
