use Rattle.std.proofs.Common.{◌≡◌, take, map, ℕ, nat_eq}
use Rattle.std.specs.List.{list_any}
use Rattle.std.specs.HashSet as bag
use Rattle.cfg_ast.specs.meaning.RouterFaults.{repeats}
use Rattle.cfg_check.specs.LeastLine.{least_line}
use Rattle.cfg_check.specs.Processes.{same_numbered, line_of_numbered}
use Rattle.cfg_check.specs.declared.processes.Numbered.{Numbered}
use Rattle.cfg_check.proofs.processes.repeated_number.Given as goal

abbrev pub invariant-loop-process : goal.invariant-loop-process
invariant-loop-process l = (l.least ≡ least_line (map line_of_numbered (repeats same_numbered (take l.process-index l.all))))
    × ((q : ℕ) → bag.contains nat_eq l.seen q ≡ list_any (λ (x : Numbered). nat_eq q x.number) (take l.process-index l.all))
