-- The text of the command `groups`: a line for each group, in order.
use Rattle.std.specs.Prelude.{◌≡◌, ℕ, List}
use Rattle.cfg_ast.specs.declared.network.Network.{Network}
use Rattle.cfg_ast.specs.declared.classes.DestClass.{DestClass}
use Rattle.cfg_ast.specs.meaning.Classes.{classes_of}
use Rattle.srp_core.specs.Problem.{Problem}
use Rattle.group_report.specs.GroupLines.{HasGroupLines}
use Rattle.answer_kit.specs.Outcome.{Outcome, done}
use Rattle.answer_kit.specs.ClassNumbers.{class_at, IsOfClass}
use Rattle.answer_kit.specs.Groups.{AreGroupsOf}

-- the lines of the groups of a class
pub record AreGroupLines (network : Network) (class : DestClass) (bytes : List ℕ) : Type 0 where
  pub problem : Problem
  pub groups : List ℕ
  pub are : AreGroupsOf network class problem groups
  pub lines : HasGroupLines problem groups bytes

-- the output of `groups` for a class
pub record IsGroupsOf (network : Network) (class : DestClass) (o : Outcome) : Type 0 where
  pub bytes : List ℕ
  pub lines : AreGroupLines network class bytes
  pub written : o ≡ done bytes

-- what `groups` is to write of a network and the number of a class
abbrev pub IsGroupsAnswer : Network → ℕ → Outcome → Type 0
IsGroupsAnswer network number = IsOfClass (class_at (classes_of network) number) number (IsGroupsOf network)
