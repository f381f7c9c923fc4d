use Rattle.std.proofs.Common.{take}
use Rattle.std.specs.List.{list_any}
use Rattle.cfg_ast.specs.meaning.PolicyFaults.{is_deleted_in}
use Rattle.cfg_check.specs.NameSets.{HasNames}
use Rattle.cfg_check.proofs.name_sets.deleted_names.Given as goal

abbrev pub invariant-loop-map : goal.invariant-loop-map
invariant-loop-map l = HasNames l.names (λ q. list_any (is_deleted_in q) (take l.map-index l.maps))
