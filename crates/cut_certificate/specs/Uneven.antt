-- What keeps blocks from being even.
use Rattle.std.specs.Prelude.{◌≡◌, ◌≢◌, ℕ, ◌-◌, ◌<◌, ◌≤◌, true, false, List, length, slice_index}
use Rattle.base_kit.specs.declared.act_graph.Edge.{Edge}
use Rattle.base_kit.specs.Partition.{IsMirroredAt}
use Rattle.cut_certificate.specs.declared.certificate.Split.{Split}
use Rattle.cut_certificate.specs.declared.certifying.Parting.{Parting}
use Rattle.cut_certificate.specs.declared.outgoing.Placed.{Placed}
use Rattle.cut_certificate.specs.Blocks.{edge_act, reaches}
use Rattle.cut_certificate.specs.Evenness.{mirror_each_other}

-- an edge of the router into another block; the other router has no twin of it
pub record IsUnmatched (edges : List Edge) (numbers : List ℕ) (p : Placed) (router other : ℕ) : Type 0 where
  pub inside : p.place < length edges
  pub act : edge_act edges p.place ≡ p.edge.act
  pub exporter : p.edge.exporter < length numbers
  pub leaves : slice_index numbers p.edge.exporter ≢ slice_index numbers router
  pub reached : reaches edges numbers (slice_index numbers p.edge.exporter) p.edge.act router ≡ true
  pub unreached : reaches edges numbers (slice_index numbers p.edge.exporter) p.edge.act other ≡ false

-- an edge parts a block: it leads from one member into another block, and another member has no twin
pub record IsParting (edges : List Edge) (numbers : List ℕ) (p : Parting) : Type 0 where
  pub goes : p.goes < length numbers
  pub stays : p.stays < length numbers
  pub together : slice_index numbers p.stays ≡ slice_index numbers p.goes
  pub unmatched : IsUnmatched edges numbers p.by p.goes p.stays

-- the split of the block that the edge parts, by the block into which it leads
pub record IsSplitBy (numbers : List ℕ) (p : Parting) (split : Split) : Type 0 where
  pub block : split.block ≡ slice_index numbers p.goes
  pub by : split.by ≡ slice_index numbers p.by.edge.exporter
  pub edge : split.edge ≡ p.by.place

-- a member of each block, by the numbers of the blocks less one
pub record AreLeaders (numbers leaders : List ℕ) : Type 0 where
  pub member : (u : ℕ) → u < length numbers → slice_index leaders (slice_index numbers u - 1) < length numbers
  pub together : (u : ℕ) → u < length numbers → slice_index numbers (slice_index leaders (slice_index numbers u - 1)) ≡ slice_index numbers u

-- each router from here on and the leader of its block mirror each other
pub record AreEvenFrom (edges : List Edge) (numbers leaders : List ℕ) (from : ℕ) : Type 0 where
  pub each : (u : ℕ) → from ≤ u → u < length numbers → mirror_each_other edges numbers (slice_index leaders (slice_index numbers u - 1)) u ≡ true

-- members of one block mirror each other
pub record AreMirrored (edges : List Edge) (numbers : List ℕ) : Type 0 where
  pub each : (u v : ℕ) → u < length numbers → v < length numbers → slice_index numbers u ≡ slice_index numbers v → IsMirroredAt edges numbers u v
