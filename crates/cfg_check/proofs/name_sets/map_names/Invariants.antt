use Rattle.std.proofs.Common.{take}
use Rattle.std.specs.Prelude.{bytes_eq}
use Rattle.std.specs.List.{list_any}
use Rattle.cfg_ast.specs.declared.policy.RouteMap.{RouteMap}
use Rattle.cfg_check.specs.NameSets.{HasNames}
use Rattle.cfg_check.proofs.name_sets.map_names.Given as goal

abbrev pub invariant-loop-map : goal.invariant-loop-map
invariant-loop-map l = HasNames l.names (λ q. list_any (λ (x : RouteMap). bytes_eq q x.name) (take l.map-index l.maps))
