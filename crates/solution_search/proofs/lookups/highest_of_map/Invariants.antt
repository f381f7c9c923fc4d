use Rattle.std.proofs.Common.{All, take}
use Rattle.solution_search.specs.Lookups.{GivesAtMost}
use Rattle.solution_search.proofs.lookups.highest_of_map.Given as goal

abbrev pub invariant-loop-entry : goal.invariant-loop-entry
invariant-loop-entry l = All (GivesAtMost l.highest) (take l.entry-index l.map.entries)
