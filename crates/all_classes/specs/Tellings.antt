-- What is to be reported of the classes of a network that are asked.
use Rattle.std.specs.Prelude.{◌≡◌, ◌<◌, ◌≤◌, ◌⊎◌, ℕ, List, length}
use Rattle.cfg_ast.specs.declared.network.Network.{Network}
use Rattle.cfg_ast.specs.meaning.Classes.{classes_of}
use Rattle.answer_kit.specs.ClassNumbers.{class_at, IsOfClass}
use Rattle.answer_kit.specs.Outcome.{Outcome}
use Rattle.bonsai_top.specs.declared.command.ClassCommand.{ClassCommand}
use Rattle.bonsai_top.specs.Outcomes.{IsOnClass}
use Rattle.endings.specs.declared.ending.Ending.{Ending}
use Rattle.endings.specs.declared.ending.Ending.TheVariants.{WriteFault}
use Rattle.endings.specs.Telling.{Telling, output, out_of_memory, out_of_memory_behind}
use Rattle.all_classes.specs.declared.request.Asked.{Asked}
use Rattle.all_classes.specs.Frames.{all_done, frames, AreAllowed}
use Rattle.all_classes.specs.Requests.{first_of, span_of}

-- what `bonsai` may answer to a command on the class of a number
abbrev pub IsAnswer : ClassCommand → Network → ℕ → Outcome → Type 0
IsAnswer command network number o = IsOfClass (class_at (classes_of network) number) number (IsOnClass command network number) o

-- The work is done: the frames of outcomes that are allowed, one for each class that is asked.
pub record IsFramed (IsAllowed : ℕ → Outcome → Type 0) (asked : Asked) (classes : ℕ) (o : Telling) : Type 0 where
  pub outcomes : List Outcome
  pub are : AreAllowed IsAllowed (first_of asked) outcomes
  pub many : length outcomes ≡ span_of asked classes
  pub told : o ≡ output (all_done outcomes) (frames (first_of asked) outcomes)

-- Memory ran out behind the frames of the first of them.
pub record IsCutShort (IsAllowed : ℕ → Outcome → Type 0) (asked : Asked) (classes : ℕ) (o : Telling) : Type 0 where
  pub outcomes : List Outcome
  pub are : AreAllowed IsAllowed (first_of asked) outcomes
  pub few : length outcomes < span_of asked classes
  pub told : o ≡ out_of_memory_behind (frames (first_of asked) outcomes)

-- The frames of the first of them were begun.
pub record IsBegun (IsAllowed : ℕ → Outcome → Type 0) (asked : Asked) (classes : ℕ) (o : Telling) : Type 0 where
  pub outcomes : List Outcome
  pub are : AreAllowed IsAllowed (first_of asked) outcomes
  pub few : length outcomes ≤ span_of asked classes
  pub told : o ≡ output (all_done outcomes) (frames (first_of asked) outcomes)

-- What is reported of them has its cause: the work is done, or memory ran out, or `out` failed.
abbrev pub HasFrames : (ℕ → Outcome → Type 0) → Asked → ℕ → Ending → Telling → Type 0
HasFrames IsAllowed asked classes result o =
    IsFramed IsAllowed asked classes o ⊎ ((o ≡ out_of_memory) ⊎ IsCutShort IsAllowed asked classes o) ⊎ ((result ≡ WriteFault) × IsBegun IsAllowed asked classes o)
