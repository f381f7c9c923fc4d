-- What a splitting keeps of its fields.
use Rattle.std.specs.Prelude.{◌<◌, ◌^◌, length}
use Rattle.refine_partition.specs.Planned.{AreNumbered}
use Rattle.refine_partition.specs.declared.splitting.Splitting.TheInside.{Inside}

pub record IsSplitting (s : Inside) : Type 0 where
  pub numbered : AreNumbered s.numbers.items s.blocks.items
  pub few : length s.blocks.items < 2 ^ 32
