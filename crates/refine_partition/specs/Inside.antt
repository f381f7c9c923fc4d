-- What a partition keeps of its fields.
use Rattle.std.specs.Prelude.{◌≡◌, length}
use Rattle.base_kit.specs.Partition.{IsNumbered}
use Rattle.refine_partition.specs.Members.{AreBlocks}
use Rattle.refine_partition.specs.declared.partition.Partition.TheInside.{Inside}

pub record IsPartition (p : Inside) : Type 0 where
  pub numbered : IsNumbered p.numbers.items p.count
  pub one_block_each : length p.blocks.items ≡ p.count
  pub members : AreBlocks p.numbers.items p.blocks.items
