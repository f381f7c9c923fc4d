-- What is written at the end of an output.
use Rattle.std.specs.Prelude.{◌≡◌, ℕ, Bool, List, ◌++◌}
use Rattle.solution_answers.specs.Pairwise.{Pairwise}
use Rattle.solution_answers.specs.Parts.{Part, bytes_of, are_all}

-- an allowed part was appended
pub record Writes (IsAllowed : Part → Type 0) (old new : List ℕ) (all : Bool) : Type 0 where
  pub part : Part
  pub is : IsAllowed part
  pub bytes : new ≡ old ++ part.bytes
  pub all_is : all ≡ part.all

-- an allowed part was appended for each of the items, in order
pub record WritesEach {X : Type 0} (IsAllowed : X → Part → Type 0) (items : List X) (old new : List ℕ) (all : Bool) : Type 0 where
  pub parts : List Part
  pub are : Pairwise IsAllowed items parts
  pub bytes : new ≡ old ++ bytes_of parts
  pub all_is : all ≡ are_all parts
