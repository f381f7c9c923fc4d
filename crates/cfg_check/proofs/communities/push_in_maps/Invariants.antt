use Rattle.std.proofs.Common.{◌≡◌, ◌++◌, take, flat_map}
use Rattle.cfg_ast.specs.meaning.PolicyFaults.{mentions_in_map}
use Rattle.cfg_check.proofs.communities.push_in_maps.Given as goal

abbrev pub invariant-loop-map : goal.invariant-loop-map
invariant-loop-map l = l.found.items ≡ l.initial.found.items ++ flat_map mentions_in_map (take l.map-index l.maps)
