use Rattle.std.proofs.Common.{◌≡◌, take, flat_map}
use Rattle.cfg_ast.specs.meaning.PolicyFaults.{lines_in_map_naming}
use Rattle.cfg_check.specs.NameSets.{lacks_name}
use Rattle.cfg_check.specs.LeastLine.{least_line}
use Rattle.cfg_check.proofs.undefined.undefined_lists_by_maps.Given as goal

abbrev pub invariant-loop-map : goal.invariant-loop-map
invariant-loop-map l = l.least ≡ least_line (flat_map (lines_in_map_naming (lacks_name l.prefixes) (lacks_name l.comms)) (take l.map-index l.maps))
