-- The ports of all switches, by place.
use Rattle.std.specs.Prelude.{◌≡◌, ℕ, ◌<◌, List, ◌++◌, Vec, length, slice_index_or}
use Rattle.std.specs.declared.alloc.Global.{Global}
use Rattle.fat_gen.specs.declared.cable.Cable.{Cable}
use Rattle.fat_gen.specs.declared.cable.Port.{Port}
use Rattle.fat_gen.specs.Cables.{ports_at}

-- each list has the ports of the switch of its place
pub record ArePortsByPlace (cs : List Cable) (table : List (Vec Port Global)) : Type 0 where
  pub each : (place : ℕ) (none : Vec Port Global) → place < length table → (slice_index_or table place none).items ≡ ports_at place cs

-- at the end of the list of each place came these ports
pub record AreGrownBy (more : ℕ → List Port) (old new : List (Vec Port Global)) : Type 0 where
  pub total : length new ≡ length old
  pub each : (place : ℕ) (none : Vec Port Global) → place < length old →
      (slice_index_or new place none).items ≡ (slice_index_or old place none).items ++ more place
