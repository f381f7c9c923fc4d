-- Routers in numbered blocks, of which a turn moves only those that edges reach.
use Rattle.std.specs.Prelude.{◌≡◌, ◌≢◌, ℕ, ◌+◌, ◌<◌, ◌≤◌, List, [], ◌∷◌, ◌++◌, length, slice_index, slice_index_or, All, Contains, Vec, Some, None, ◌⊎◌}
use Rattle.std.specs.declared.alloc.Global.{Global}
use Rattle.base_kit.specs.declared.act_graph.ActGraph.{ActGraph}
use Rattle.refine_partition.specs.ClassNames.{ClassNames, class_name}
use Rattle.refine_partition.specs.Splits.{StayTogether, IsSplit}

-- each router is in the list of its block, which may have others too
pub record AreListed (numbers : List ℕ) (lists : List (Vec ℕ Global)) : Type 0 where
  pub below : All (λ number. number < length lists) numbers
  pub routers : (block : ℕ) (d : Vec ℕ Global) → block < length lists → All (λ u. u < length numbers) (slice_index_or lists block d).items
  pub members : (u : ℕ) (d : Vec ℕ Global) → u < length numbers → Contains (slice_index_or lists (slice_index numbers u) d).items u

-- each of the first blocks has a member
abbrev pub AreUsed : ℕ → List ℕ → Type 0
AreUsed count numbers = (block : ℕ) → block < count → (u : ℕ) × (u < length numbers) × (slice_index numbers u ≡ block)

-- routers of one class are in one block
abbrev pub AreFiner : List ℕ → List ℕ → Type 0
AreFiner numbers classes = (u v : ℕ) → u < length numbers → v < length numbers → slice_index classes u ≡ slice_index classes v →
    slice_index numbers u ≡ slice_index numbers v

-- the list has a member of the block
abbrev pub HasMember : List ℕ → ℕ → List ℕ → Type 0
HasMember numbers block list = (u : ℕ) × Contains list u × (slice_index numbers u ≡ block)

-- no router is added, and all members of the block are still there
pub record IsStillListed (numbers : List ℕ) (block : ℕ) (old new : List ℕ) : Type 0 where
  pub routers : All (λ u. u < length numbers) new
  pub members : (u : ℕ) → Contains old u → slice_index numbers u ≡ block → Contains new u

-- The class of one of the block's listed members. If it is not the block's number, no listed member has
-- that number as its class.
pub record IsStayingClass (numbers classes : List ℕ) (block : ℕ) (list : List ℕ) (class : ℕ) : Type 0 where
  pub member : (u : ℕ) × Contains list u × (slice_index numbers u ≡ block) × (slice_index classes u ≡ class)
  pub all_left : class ≢ block → (u : ℕ) → Contains list u → slice_index numbers u ≡ block → slice_index classes u ≢ block

-- the class of one of the block's members; if it is not the block's number, no member has that number as
-- its class
pub record IsStaying (numbers classes : List ℕ) (block class : ℕ) : Type 0 where
  pub member : (u : ℕ) × (u < length numbers) × (slice_index numbers u ≡ block) × (slice_index classes u ≡ class)
  pub all_left : class ≢ block → (u : ℕ) → u < length numbers → slice_index numbers u ≡ block → slice_index classes u ≢ block

-- the class has the number, and all others have what they had
pub record IsNamedAs (old new : ClassNames) (class number : ℕ) : Type 0 where
  pub named : class_name new class ≡ Some number
  pub others : (other : ℕ) → other ≢ class → class_name new other ≡ class_name old other

-- for each of these blocks the class that keeps its number
pub record AreStaying (numbers classes blocks : List ℕ) (names : ClassNames) : Type 0 where
  pub only : (class number : ℕ) → class_name names class ≡ Some number → Contains blocks number × IsStaying numbers classes number class
  pub one : (a b number : ℕ) → class_name names a ≡ Some number → class_name names b ≡ Some number → a ≡ b
  pub each : All (λ block. (class : ℕ) × (class_name names class ≡ Some block)) blocks

-- a new, empty block is the class's piece, and comes from this origin
pub record IsNewPiece (names names' : ClassNames) (lists lists' : List (Vec ℕ Global)) (origins origins' : List ℕ) (class origin number : ℕ) : Type 0 where
  pub none : class_name names class ≡ None
  pub number_is : number ≡ length lists
  pub named : IsNamedAs names names' class number
  pub list : (v : Vec ℕ Global) × (v.items ≡ []) × (lists' ≡ lists ++ v ∷ [])
  pub origins_are : origins' ≡ origins ++ origin ∷ []

-- the number of a class that has one, or that of a new, empty block
abbrev pub IsPieceOf : ClassNames → ClassNames → List (Vec ℕ Global) → List (Vec ℕ Global) → List ℕ → List ℕ → ℕ → ℕ → ℕ → Type 0
IsPieceOf names names' lists lists' origins origins' class origin number =
    ((class_name names class ≡ Some number) × (names' ≡ names) × (lists' ≡ lists) × (origins' ≡ origins))
    ⊎ IsNewPiece names names' lists lists' origins origins' class origin number

-- the router has this number, and all others have what they had
pub record IsMoved (old new : List ℕ) (router number : ℕ) : Type 0 where
  pub total : length new ≡ length old
  pub here : slice_index new router ≡ number
  pub others : (u : ℕ) → u ≢ router → slice_index new u ≡ slice_index old u

-- The blocks are the classes. One class of each block keeps its number, and the others have the next ones.
pub record AreMoved (numbers classes reached : List ℕ) (before : ℕ) (next origins : List ℕ) : Type 0 where
  pub total : length next ≡ length numbers
  pub rest : (u : ℕ) → u < length numbers → ¬ Contains reached u → slice_index next u ≡ slice_index numbers u
  pub together : (u v : ℕ) → u < length numbers → v < length numbers → slice_index classes u ≡ slice_index classes v → slice_index next u ≡ slice_index next v
  pub apart : (u v : ℕ) → u < length numbers → v < length numbers → slice_index next u ≡ slice_index next v → slice_index classes u ≡ slice_index classes v
  pub kept : (u : ℕ) → u < length numbers → slice_index next u < before → slice_index next u ≡ slice_index numbers u
  pub below : (u : ℕ) → u < length numbers → slice_index next u < before + length origins
  pub origin : (u k : ℕ) → u < length numbers → slice_index next u ≡ before + k → slice_index origins k ≡ slice_index numbers u
  pub used : AreUsed (before + length origins) next

-- Blocks that one of them has divided, in any order, and for each new one the block that it comes from.
pub record AreParted (graph : ActGraph) (taken : ℕ) (old new : List ℕ) (before after : ℕ) (origins : List ℕ) : Type 0 where
  pub total : length new ≡ graph.count
  pub together : (u v : ℕ) → u < graph.count → v < graph.count → StayTogether graph.edges old taken u v → slice_index new u ≡ slice_index new v
  pub apart : (u v : ℕ) → u < graph.count → v < graph.count → slice_index new u ≡ slice_index new v → StayTogether graph.edges old taken u v
  pub kept : (u : ℕ) → u < graph.count → slice_index new u < before → slice_index new u ≡ slice_index old u
  pub below : (u : ℕ) → u < graph.count → slice_index new u < after
  pub size : after ≡ before + length origins
  pub few : after ≤ graph.count
  pub origin : (u k : ℕ) → u < graph.count → slice_index new u ≡ before + k → slice_index origins k ≡ slice_index old u
  pub known : All (λ origin. origin < before) origins

-- between turns: all routers are listed, no block is empty, and each router's class is its block
pub record AreSettled (numbers classes : List ℕ) (lists : List (Vec ℕ Global)) : Type 0 where
  pub listed : AreListed numbers lists
  pub used : AreUsed (length lists) numbers
  pub classes_are : classes ≡ numbers

-- The same blocks under other numbers: two routers have one number exactly if they had one before, and
-- each number below `count` is in use.
pub record AreRenamed (count : ℕ) (numbers others : List ℕ) : Type 0 where
  pub total : length others ≡ length numbers
  pub below : All (λ number. number < count) others
  pub used : AreUsed count others
  pub together : (u v : ℕ) → u < length numbers → v < length numbers → slice_index numbers u ≡ slice_index numbers v →
      slice_index others u ≡ slice_index others v
  pub apart : (u v : ℕ) → u < length numbers → v < length numbers → slice_index others u ≡ slice_index others v → slice_index numbers u ≡ slice_index numbers v

-- Blocks `new` that are, under some numbers, the split by the block `taken`, if it has a member, of the
-- blocks `old`, which have these numbers.
pub record IsSplitFrom (graph : ActGraph) (taken : ℕ) (old numbers new : List ℕ) (before after : ℕ) : Type 0 where
  pub next : List ℕ
  pub renamed : AreRenamed after new next
  pub split : (u : ℕ) → u < graph.count → slice_index old u ≡ taken → IsSplit graph (slice_index numbers u) numbers next before after

-- A division of the blocks as a split makes it, number for number, whatever the numbers of the blocks are.
pub record IsDividedAsSplit (graph : ActGraph) (taken : ℕ) (old new : List ℕ) (before after : ℕ) : Type 0 where
  pub split : (numbers : List ℕ) → AreRenamed before old numbers → IsSplitFrom graph taken old numbers new before after
