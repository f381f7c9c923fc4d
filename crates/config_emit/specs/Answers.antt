-- What `emit` answers.
use Rattle.std.specs.Prelude.{◌≡◌, Some, None, Result, Ok, Err}
use Rattle.config_emit.specs.declared.emitted.EmitRefusal.{EmitRefusal}
use Rattle.config_emit.specs.declared.emitted.EmitRefusal.TheVariants.{PoolOverlap, Memory}
use Rattle.config_emit.specs.declared.emitted.Emitted.{Emitted}
use Rattle.config_emit.specs.Plan.{Plan}
use Rattle.config_emit.specs.Emitted.{emitted, notes_of}
use Rattle.config_emit.specs.Pool.{pool_line}

-- the network of the groups with its notes, where no prefix of the class meets the addresses of the links
pub record IsEmitted (x : Emitted) (e : Plan) : Type 0 where
  pub apart : pool_line e.network e.class ≡ None
  pub network : x.network ≡ emitted e
  pub notes : x.notes ≡ notes_of e

abbrev pub Emits : Result Emitted EmitRefusal → Plan → Type 0
Emits (Ok x) e = IsEmitted x e
Emits (Err (PoolOverlap line)) e = pool_line e.network e.class ≡ Some line
Emits (Err Memory) e = Unit {0}
