use Rattle.std.proofs.Common.{◌≡◌, ℕ, ◌<◌, false, length, take, slice_index_or}
use Rattle.std.specs.List.{list_any}
use Rattle.srp_quotient.specs.Groups.{touches}
use Rattle.solution_lift.proofs.tables.linked.Given as goal

abbrev pub invariant-loop-link : goal.invariant-loop-link
invariant-loop-link l = record {
  total : length l.flags.items ≡ l.count;
  flagged : (group : ℕ) → group < l.count → slice_index_or l.flags.items group false ≡ list_any (touches group) (take l.link-index l.links);
}
