-- What it means to divide the blocks of a graph's routers by their edges into one of them.
--
-- The blocks are numbered from 0, and given as the list of the routers' numbers. Splitting by a block
-- is the step of partition refinement (Paige and Tarjan, "Three partition refinement algorithms", 1987).
use Rattle.std.specs.Prelude.{◌≡◌, ◌≢◌, ℕ, ◌<◌, ◌≤◌, List, length, slice_index, Any, ◌⊎◌}
use Rattle.base_kit.specs.declared.act_graph.Edge.{Edge}
use Rattle.base_kit.specs.declared.act_graph.ActGraph.{ActGraph}
use Rattle.base_kit.specs.Partition.{color, IsNumbered}

-- the router has an edge into the block that acts in this way
pub record HasAct (edges : List Edge) (numbers : List ℕ) (block router act : ℕ) : Type 0 where
  pub edge : Any (λ e. (e.importer ≡ router) × (e.act ≡ act) × (slice_index numbers e.exporter ≡ block)) edges

-- the acts of the two routers' edges into the block are the same
pub record ActAlike (edges : List Edge) (numbers : List ℕ) (block u v : ℕ) : Type 0 where
  pub there : (act : ℕ) → HasAct edges numbers block u act → HasAct edges numbers block v act
  pub back : (act : ℕ) → HasAct edges numbers block v act → HasAct edges numbers block u act

-- two routers that a split by the block `taken` leaves together: that block divides no member of its own
pub record StayTogether (edges : List Edge) (numbers : List ℕ) (taken u v : ℕ) : Type 0 where
  pub same : slice_index numbers u ≡ slice_index numbers v
  pub alike : slice_index numbers u ≢ taken → ActAlike edges numbers taken u v

-- the one router stands before the other: by the numbers of their blocks, and within one block as routers
abbrev pub StandsBeforeByBlock : List ℕ → ℕ → ℕ → Type 0
StandsBeforeByBlock numbers u v = (slice_index numbers u < slice_index numbers v) ⊎ ((slice_index numbers u ≡ slice_index numbers v) × (u < v))

-- The numbers of the blocks after a split by the block `taken`. The piece of the least member keeps the
-- number. The further pieces have the next numbers, in the order of the numbers of the divided blocks
-- and within one block of their least members.
pub record IsSplit (graph : ActGraph) (taken : ℕ) (old new : List ℕ) (before after : ℕ) : Type 0 where
  pub total : length new ≡ graph.count
  pub together : (u v : ℕ) → u < graph.count → v < graph.count → StayTogether graph.edges old taken u v → slice_index new u ≡ slice_index new v
  pub apart : (u v : ℕ) → u < graph.count → v < graph.count → slice_index new u ≡ slice_index new v → StayTogether graph.edges old taken u v
  pub least : (v : ℕ) → v < graph.count → ((u : ℕ) → u < v → slice_index old u ≢ slice_index old v) → slice_index new v ≡ slice_index old v
  pub kept : (v : ℕ) → v < graph.count → slice_index new v < before → slice_index new v ≡ slice_index old v
  pub more : before ≤ after
  pub below : (v : ℕ) → v < graph.count → slice_index new v < after
  pub used : (number : ℕ) → before ≤ number → number < after → (u : ℕ) × (u < graph.count) × (slice_index new u ≡ number)
  pub in_order : (v number : ℕ) → v < graph.count → before ≤ number → number < slice_index new v → (u : ℕ) × (u < graph.count) × StandsBeforeByBlock old u v
      × (slice_index new u ≡ number)

-- The blocks before the first split: one per color, numbered from 0 by their least members.
pub record IsStart (graph : ActGraph) (numbers : List ℕ) (count : ℕ) : Type 0 where
  pub total : length numbers ≡ graph.count
  pub numbered : IsNumbered numbers count
  pub few : count ≤ graph.count
  pub together : (u v : ℕ) → u < graph.count → v < graph.count → color graph u ≡ color graph v → slice_index numbers u ≡ slice_index numbers v
  pub apart : (u v : ℕ) → u < graph.count → v < graph.count → slice_index numbers u ≡ slice_index numbers v → color graph u ≡ color graph v
