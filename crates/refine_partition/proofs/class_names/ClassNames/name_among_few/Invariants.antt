use Rattle.std.proofs.Common.{◌≡◌, None, drop}
use Rattle.refine_partition.specs.ClassNames.{named_among}
use Rattle.refine_partition.proofs.class_names.ClassNames.name_among_few.Given as goal

abbrev pub invariant-loop-pair : goal.invariant-loop-pair
invariant-loop-pair g l = named_among l.class (drop l.pair-index l.self.few.items) l.found ≡ named_among l.class l.self.few.items None
