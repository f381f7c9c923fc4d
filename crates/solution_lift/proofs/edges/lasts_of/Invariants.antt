use Rattle.std.proofs.Common.{◌≡◌, ℕ, take}
use Rattle.std.specs.HashMap as map
use Rattle.base_kit.specs.Pairs.{same_pair}
use Rattle.solution_lift.specs.Lasts.{last_between}
use Rattle.solution_lift.proofs.edges.lasts_of.Given as goal

abbrev pub invariant-loop-link : goal.invariant-loop-link
invariant-loop-link l = (g h : ℕ) → map.get same_pair l.lasts (g, h) ≡ last_between g h (take l.link-index l.links)
