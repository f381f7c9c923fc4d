use Rattle.std.proofs.Common.{◌≡◌, take, flat_map}
use Rattle.cfg_check.specs.Items.{map_in_naming}
use Rattle.numbered_names.specs.NameSets.{has_name}
use Rattle.cfg_check.specs.LeastLine.{least_line}
use Rattle.cfg_check.proofs.prepends.prepending_maps_in.Given as goal

abbrev pub invariant-loop-neighbor : goal.invariant-loop-neighbor
invariant-loop-neighbor l = l.least ≡ least_line (flat_map (map_in_naming (has_name l.names)) (take l.neighbor-index l.neighbors))
