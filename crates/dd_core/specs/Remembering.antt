-- What a store remembers: each entry is the result of its operation.
use Rattle.std.specs.Prelude.{ℕ, ◌<◌, List, Contains, length}
use Rattle.dd_cache.specs.declared.cache.OpKey.{OpKey}
use Rattle.dd_core.specs.declared.table.Node.{Node}
use Rattle.dd_core.specs.Store.{IsIte}

-- the place is the result of the operation
pub record IsResult (nodes : List Node) (key : OpKey) (place : ℕ) : Type 0 where
  pub a_inside : key.a < length nodes
  pub b_inside : key.b < length nodes
  pub c_inside : key.c < length nodes
  pub ite : IsIte nodes nodes key.a key.b key.c place

pub record IsMemory (nodes : List Node) (entries : List (OpKey × ℕ)) : Type 0 where
  pub each : (key : OpKey) (place : ℕ) → Contains entries (key, place) → IsResult nodes key place
