use Rattle.std.proofs.Common.{◌≡◌, ◌++◌, drop}
use Rattle.dd_core.specs.Marks.{picked}
use Rattle.dd_core.proofs.reach.marked_communities.Given as goal

abbrev pub invariant-loop-place : goal.invariant-loop-place
invariant-loop-place l = l.communities.items ++ picked l.used l.place (drop l.place l.universe) ≡ picked l.used 0 l.universe
