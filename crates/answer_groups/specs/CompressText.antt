-- The text of the command `compress`: the network of the groups of a class, as configurations (Beckett,
-- Gupta, Mahajan and Walker, Control Plane Compression, SIGCOMM 2018).
use Rattle.std.specs.Prelude.{◌≡◌, ℕ, Bool, true, false, List, ◌++◌, codes, decimal, Option, Some, None}
use Rattle.cfg_ast.specs.declared.network.Network.{Network}
use Rattle.cfg_ast.specs.declared.classes.DestClass.{DestClass}
use Rattle.cfg_ast.specs.meaning.Classes.{classes_of}
use Rattle.cfg_print.specs.Prints.{is_too_long}
use Rattle.config_emit.specs.Plan.{Plan}
use Rattle.config_emit.specs.Pool.{pool_line}
pub use Rattle.compress_laws.specs.Built.{IsPlanOf}
pub use Rattle.compress_laws.specs.Laws.{compressed_text}
use Rattle.answer_kit.specs.Outcome.{Outcome, done, refused}
use Rattle.answer_kit.specs.ClassNumbers.{class_at, IsOfClass}

abbrev pub long_output : List ℕ
long_output = codes "OutputTooLong"

-- the text, or its refusal where it is too long
abbrev pub IsTextOr : Bool → List ℕ → Outcome → Type 0
IsTextOr true text o = o ≡ refused long_output
IsTextOr false text o = o ≡ done text

-- the text of an allowed plan
pub record IsTextOfPlan (IsAllowed : Plan → Type 0) (o : Outcome) : Type 0 where
  pub plan : Plan
  pub is : IsAllowed plan
  pub written : IsTextOr (is_too_long (compressed_text plan)) (compressed_text plan) o

-- the text of the plan of a class
abbrev pub IsEmission : Network → DestClass → Outcome → Type 0
IsEmission network class = IsTextOfPlan (IsPlanOf network class)

-- a refusal, where a prefix of the class meets the addresses of the links
abbrev pub pool_overlap : ℕ → List ℕ
pool_overlap line = codes "line " ++ decimal line ++ codes ": PoolOverlap"

abbrev pub IsUnlessPool : Option ℕ → (Outcome → Type 0) → Outcome → Type 0
IsUnlessPool (Some line) IsAllowed o = o ≡ refused (pool_overlap line)
IsUnlessPool None IsAllowed o = IsAllowed o

-- the output of `compress` for a class
abbrev pub IsCompressOf : Network → DestClass → Outcome → Type 0
IsCompressOf network class = IsUnlessPool (pool_line network class) (IsEmission network class)

-- what `compress` is to write of a network and the number of a class
abbrev pub IsCompressAnswer : Network → ℕ → Outcome → Type 0
IsCompressAnswer network number = IsOfClass (class_at (classes_of network) number) number (IsCompressOf network)
