-- What is emitted of a class, and what is reported of it.
use Rattle.std.specs.Prelude.{◌≡◌, Result, Ok, Err}
use Rattle.cfg_ast.specs.declared.network.Network.{Network}
use Rattle.cfg_ast.specs.declared.classes.DestClass.{DestClass}
use Rattle.cfg_ast.specs.printing.Printed.{printed}
use Rattle.cfg_print.specs.Prints.{is_too_long}
use Rattle.config_emit.specs.declared.emitted.EmitRefusal.{EmitRefusal}
use Rattle.config_emit.specs.declared.emitted.EmitRefusal.TheVariants.{PoolOverlap, Memory}
use Rattle.config_emit.specs.declared.emitted.Emitted.{Emitted}
use Rattle.driver.specs.Steps.{IsEmittedBy}
use Rattle.answer_groups.specs.CompressText.{pool_overlap, IsPlanOf, IsTextOr}
use Rattle.answer_kit.specs.Outcome.{Outcome, refused}

-- the network of the groups of the class's plan
abbrev pub IsEmittedFor : Network → DestClass → Result Emitted EmitRefusal → Type 0
IsEmittedFor network class = IsEmittedBy (IsPlanOf network class) network class

-- the text of the network with its notes, unless it is too long
abbrev pub IsTextOf : Emitted → Outcome → Type 0
IsTextOf x o = IsTextOr (is_too_long (printed x.network x.notes)) (printed x.network x.notes) o

-- the text, or why none is written
abbrev pub IsTextOrRefusal : Result Emitted EmitRefusal → Outcome → Type 0
IsTextOrRefusal (Ok x) o = IsTextOf x o
IsTextOrRefusal (Err (PoolOverlap line)) o = o ≡ refused (pool_overlap line)
IsTextOrRefusal (Err Memory) o = ⊥
