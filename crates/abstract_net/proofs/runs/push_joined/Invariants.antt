use Rattle.std.proofs.Common.{◌≡◌, ◌++◌, map}
use Rattle.std.specs.List.{range_with_len}
use Rattle.abstract_net.specs.Links.{group_link}
use Rattle.abstract_net.proofs.runs.push_joined.Given as goal

abbrev pub invariant-loop-place : goal.invariant-loop-place
invariant-loop-place l = l.links ≡ l.initial.links ++ map (group_link l.low l.high l.to_low l.to_high) (range_with_len 0 l.place)
