use Rattle.std.proofs.Common.{◌≡◌, drop, length, map, take}
use Rattle.srp_build.specs.PlacedEdges.{hop_of}
use Rattle.srp_build.proofs.CostPlaces.{AreNumberedTo}
use Rattle.srp_build.proofs.costs.number_edges.Given as goal

abbrev pub invariant-loop-place : goal.invariant-loop-place
invariant-loop-place l = record {
  size : length l.edges.items ≡ length l.fn.edges.items;
  numbered : AreNumberedTo l.routers l.costs (take l.place (map hop_of l.fn.edges.items)) (take l.place l.edges.items) l.last;
  rest : drop l.place l.edges.items ≡ drop l.place l.fn.edges.items;
}
