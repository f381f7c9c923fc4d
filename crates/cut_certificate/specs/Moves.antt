-- The members of a block that a split moves, and lists in which the members of blocks stand.
use Rattle.std.specs.Prelude.{◌≡◌, ℕ, ◌+◌, ◌<◌, true, false, Bool, ◌&&◌, ◌==◌, nat_lt, List, length, slice_index, slice_index_or, All, Contains, Vec, Option, Some, None, Result, Ok, Err}
use Rattle.std.specs.declared.alloc.Global.{Global}
use Rattle.base_kit.specs.declared.act_graph.Edge.{Edge}
use Rattle.base_kit.specs.declared.act_graph.ActGraph.{ActGraph}
use Rattle.cut_certificate.specs.declared.certificate.Split.{Split}
use Rattle.cut_certificate.specs.declared.outgoing.Placed.{Placed}
use Rattle.cut_certificate.specs.declared.refusal.CutKind.{CutKind}
use Rattle.cut_certificate.specs.Blocks.{Blocks, first_blocks, reaches}
use Rattle.cut_certificate.specs.Certificates.{AreAfter}
use Rattle.cut_certificate.specs.InUse.{AreInUse}

-- a member of the block that reaches the other one
abbrev pub is_mover : List Edge → List ℕ → ℕ → ℕ → ℕ → ℕ → Bool
is_mover edges numbers block by act router = nat_lt router (length numbers) && (slice_index numbers router == block && reaches edges numbers by act router)

-- all movers stand in the list
pub record HasMovers (edges : List Edge) (numbers : List ℕ) (block by act : ℕ) (found : List ℕ) : Type 0 where
  pub all : (u : ℕ) → is_mover edges numbers block by act u ≡ true → Contains found u

-- and only movers
pub record AreMovers (edges : List Edge) (numbers : List ℕ) (block by act : ℕ) (movers : List ℕ) : Type 0 where
  pub only : All (λ u. is_mover edges numbers block by act u ≡ true) movers
  pub all : (u : ℕ) → is_mover edges numbers block by act u ≡ true → Contains movers u

-- a member that stays
pub record HasStayer (edges : List Edge) (numbers : List ℕ) (block by act : ℕ) : Type 0 where
  pub router : ℕ
  pub below : router < length numbers
  pub member : slice_index numbers router ≡ block
  pub stays : is_mover edges numbers block by act router ≡ false

-- all members of the block in the list move
pub record AllMove (edges : List Edge) (numbers : List ℕ) (block by act : ℕ) (list : List ℕ) : Type 0 where
  pub each : (u : ℕ) → Contains list u → slice_index numbers u ≡ block → is_mover edges numbers block by act u ≡ true

-- each router is in the list of its block, which may have others too
pub record AreMembersListed (numbers : List ℕ) (lists : List (Vec ℕ Global)) : Type 0 where
  pub below : All (λ number. number < length lists) numbers
  pub routers : (block : ℕ) (d : Vec ℕ Global) → block < length lists → All (λ u. u < length numbers) (slice_index_or lists block d).items
  pub members : (u : ℕ) (d : Vec ℕ Global) → u < length numbers → Contains (slice_index_or lists (slice_index numbers u) d).items u

-- no router is added, and all members of the block are still there
pub record AreStillMembersListed (numbers : List ℕ) (block : ℕ) (old new : List ℕ) : Type 0 where
  pub routers : All (λ u. u < length numbers) new
  pub members : (u : ℕ) → Contains old u → slice_index numbers u ≡ block → Contains new u

-- blocks in use, and a list for each number, of which the number 0 is no block's
pub record AreHeld (numbers : List ℕ) (count : ℕ) (lists : List (Vec ℕ Global)) : Type 0 where
  pub in_use : AreInUse numbers count
  pub listed : AreMembersListed numbers lists
  pub size : length lists ≡ count + 1

-- each edge stands in the list of its exporter
pub record HasIncoming (edges : List Edge) (lists : List (Vec Placed Global)) : Type 0 where
  pub each : (e : Edge) (d : Vec Placed Global) → Contains edges e → e.exporter < length lists
      → (p : Placed) × Contains (slice_index_or lists e.exporter d).items p × (p.edge ≡ e)

-- a list for each router
pub record AreIncoming (graph : ActGraph) (lists : List (Vec Placed Global)) : Type 0 where
  pub total : length lists ≡ graph.count
  pub each : HasIncoming graph.edges lists

-- routers were added, among them the importers of the edges that act so
pub record AreAdded (old new : List ℕ) (edges : List Placed) (act : ℕ) : Type 0 where
  pub kept : (u : ℕ) → Contains old u → Contains new u
  pub added : (p : Placed) → Contains edges p → p.edge.act ≡ act → Contains new p.edge.importer

-- the importers of the edges from the listed routers that act so
pub record HasImporters (lists : List (Vec Placed Global)) (list : List ℕ) (act : ℕ) (found : List ℕ) : Type 0 where
  pub each : (x : ℕ) (d : Vec Placed Global) (p : Placed) → Contains list x → Contains (slice_index_or lists x d).items p
      → p.edge.act ≡ act → Contains found p.edge.importer

-- the movers have the next number, and all others what they had
pub record AreRenumbered (old movers : List ℕ) (next : ℕ) (new : List ℕ) : Type 0 where
  pub total : length new ≡ length old
  pub moved : (u : ℕ) → Contains movers u → slice_index new u ≡ next
  pub rest : (u : ℕ) → ¬ Contains movers u → slice_index new u ≡ slice_index old u

-- the blocks after a split, or the fault and the blocks as they were
abbrev pub IsSplitOrFault : Result Blocks CutKind → Blocks → Blocks → Option CutKind → Type 0
IsSplitOrFault defined before after None = defined ≡ Ok after
IsSplitOrFault defined before after (Some kind) = (defined ≡ Err kind) × (after ≡ before)

-- splits that lead from the first blocks to these, each to one block more
pub record IsCourse (graph : ActGraph) (blocks : Blocks) (splits : List Split) : Type 0 where
  pub after : AreAfter graph (first_blocks graph) splits blocks
  pub few : length splits + (first_blocks graph).count ≡ blocks.count
