use Rattle.std.proofs.Common.{take}
use Rattle.std.specs.Prelude.{bytes_eq}
use Rattle.std.specs.List.{list_any}
use Rattle.cfg_check.specs.NameSets.{HasNames}
use Rattle.cfg_check.proofs.area_index.name_set.Given as goal

abbrev pub invariant-loop-text : goal.invariant-loop-text
invariant-loop-text l = HasNames l.names (λ q. list_any (bytes_eq q) (take l.text-index l.texts))
