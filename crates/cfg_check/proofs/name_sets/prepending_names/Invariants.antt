use Rattle.std.proofs.Common.{take, ◌&&◌}
use Rattle.std.specs.Prelude.{bytes_eq}
use Rattle.std.specs.List.{list_any}
use Rattle.cfg_ast.specs.declared.policy.RouteMap.{RouteMap}
use Rattle.cfg_ast.specs.meaning.PolicyFaults.{prepends_in_map}
use Rattle.cfg_check.specs.NameSets.{HasNames}
use Rattle.cfg_check.proofs.name_sets.prepending_names.Given as goal

abbrev pub invariant-loop-map : goal.invariant-loop-map
invariant-loop-map l = HasNames l.names (λ q. list_any (λ (map : RouteMap). prepends_in_map map && bytes_eq q map.name) (take l.map-index l.maps))
