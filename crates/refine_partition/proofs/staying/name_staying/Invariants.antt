use Rattle.std.proofs.Common.{◌≡◌, length, take}
use Rattle.refine_partition.specs.Loose.{AreListed, AreStaying}
use Rattle.refine_partition.proofs.staying.name_staying.Given as goal

abbrev pub invariant-loop-block : goal.invariant-loop-block
invariant-loop-block l = record {
  total : length l.lists.items ≡ length l.initial.lists.items;
  listed : AreListed l.numbers l.lists.items;
  staying : AreStaying l.numbers l.classes (take l.block-index l.blocks) l.names;
}
