-- New numbers for the pieces of divided blocks.
use Rattle.std.specs.Prelude.{◌≡◌, ◌≢◌, ℕ, ◌+◌, ◌<◌, ◌≤◌, List, [], ◌∷◌, ◌++◌, length, slice_index, slice_index_or, Option, Some, None, Contains, All, Vec, ◌⊎◌}
use Rattle.std.specs.declared.alloc.Global.{Global}
use Rattle.refine_partition.specs.Members.{AreBlocks}
use Rattle.refine_partition.specs.Splits.{StandsBeforeByBlock}

-- no router before this one is in its block
abbrev pub IsFirstOfBlock : List ℕ → ℕ → Type 0
IsFirstOfBlock numbers router = (u : ℕ) → u < router → slice_index numbers u ≢ slice_index numbers router

-- a router before this one is in its block
abbrev pub HasEarlierMember : List ℕ → ℕ → Type 0
HasEarlierMember numbers router = (u : ℕ) × (u < router) × (slice_index numbers u ≡ slice_index numbers router)

-- the number of the least member's piece, or of a further piece
abbrev pub IsFreshNumber : List ℕ → ℕ → ℕ → List ℕ → List ℕ → ℕ → Type 0
IsFreshNumber numbers router before origins origins' number =
    (IsFirstOfBlock numbers router × (number ≡ slice_index numbers router) × (origins' ≡ origins))
    ⊎ (HasEarlierMember numbers router × (number ≡ before + length origins) × (origins' ≡ origins ++ slice_index numbers router ∷ []))

-- the number of a class that has one, or a fresh one
abbrev pub IsNextNumber : Option ℕ → List ℕ → ℕ → ℕ → List ℕ → List ℕ → ℕ → Type 0
IsNextNumber named numbers router before origins origins' number =
    ((named ≡ Some number) × (origins' ≡ origins)) ⊎ ((named ≡ None) × IsFreshNumber numbers router before origins origins' number)

-- the number of a class, if it has one
abbrev pub number_of_class : List (Option ℕ) → ℕ → Option ℕ
number_of_class names class = slice_index_or names class None

-- the class has that number, and all others have what they had
pub record IsNamedNow (old new : List (Option ℕ)) (class number : ℕ) : Type 0 where
  pub size : length new ≡ length old
  pub named : number_of_class new class ≡ Some number
  pub others : (other : ℕ) → other ≢ class → number_of_class new other ≡ number_of_class old other

-- The numbers after the first routers of the queue were renumbered: the least member's class keeps the
-- block's number, further classes have the next ones in the order in which the queue meets them.
pub record IsRenumbered (numbers classes queue : List ℕ) (before : ℕ) (next origins : List ℕ) : Type 0 where
  pub total : length next ≡ length numbers
  pub rest : (u : ℕ) → u < length numbers → ¬ Contains queue u → slice_index next u ≡ slice_index numbers u
  pub together : (u v : ℕ) → Contains queue u → Contains queue v → slice_index classes u ≡ slice_index classes v → slice_index next u ≡ slice_index next v
  pub apart : (u v : ℕ) → Contains queue u → Contains queue v → slice_index next u ≡ slice_index next v → slice_index classes u ≡ slice_index classes v
  pub kept : (u : ℕ) → Contains queue u → slice_index next u < before → slice_index next u ≡ slice_index numbers u
  pub below : (u : ℕ) → Contains queue u → slice_index next u < before + length origins
  pub origin : (u k : ℕ) → Contains queue u → slice_index next u ≡ before + k → slice_index origins k ≡ slice_index numbers u
  pub least : (v : ℕ) → v < length numbers → ((u : ℕ) → u < v → slice_index numbers u ≢ slice_index numbers v) → slice_index next v ≡ slice_index numbers v
  pub used : (k : ℕ) → k < length origins → (u : ℕ) × Contains queue u × (slice_index next u ≡ before + k)
  pub in_order : (i number : ℕ) → i < length queue → before ≤ number → number < slice_index next (slice_index queue i) →
      (j : ℕ) × (j < i) × (slice_index next (slice_index queue j) ≡ number)

-- classes that divide numbered blocks, none of which is empty
pub record IsRefined (numbers : List ℕ) (blocks : List (Vec ℕ Global)) (classes : List ℕ) (class_count : ℕ) : Type 0 where
  pub members : AreBlocks numbers blocks
  pub below : All (λ number. number < length blocks) numbers
  pub nonempty : (block : ℕ) → block < length blocks → (u : ℕ) × (u < length numbers) × (slice_index numbers u ≡ block)
  pub total : length classes ≡ length numbers
  pub class_below : All (λ class. class < class_count) classes
  pub same : (u v : ℕ) → u < length numbers → v < length numbers → slice_index classes u ≡ slice_index classes v → slice_index numbers u ≡ slice_index numbers v

-- routers in the order of their blocks, each once
pub record IsQueueOf (numbers queue : List ℕ) : Type 0 where
  pub below : All (λ u. u < length numbers) queue
  pub in_order : (i j : ℕ) → i < j → j < length queue → StandsBeforeByBlock numbers (slice_index queue i) (slice_index queue j)
