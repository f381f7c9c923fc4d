-- When links between groups carry the acts of the edges between them (Beckett, Gupta, Mahajan and
-- Walker, Control Plane Compression, SIGCOMM 2018, section 5). A partition is the list of the groups of
-- the routers, and an edge is named by its place in the list of edges.
use Rattle.std.specs.Prelude.{◌≡◌, ℕ, ◌<◌, ◌≢◌, ◌⊎◌, List, Option, Some, None, map, nat_eq, slice_index, Contains, if◌then◌else◌}
use Rattle.base_kit.specs.declared.act_graph.Edge.{Edge}
use Rattle.abstract_net.specs.declared.qlink.QLink.{QLink}

-- an edge into g from h with that act
pub record HasEdgeBetween (es : List Edge) (groups : List ℕ) (g h act : ℕ) : Type 0 where
  pub edge : Edge
  pub has : Contains es edge
  pub importer : slice_index groups edge.importer ≡ g
  pub exporter : slice_index groups edge.exporter ≡ h
  pub does : edge.act ≡ act

-- g and h are the ends of the link
abbrev pub IsJoined : QLink → ℕ → ℕ → Type 0
IsJoined l g h = ((l.low ≡ g) × (l.high ≡ h)) ⊎ ((l.high ≡ g) × (l.low ≡ h))

-- the edge that the link carries into its end g
abbrev pub side_of : ℕ → QLink → Option ℕ
side_of g l = if nat_eq l.low g then l.to_low else l.to_high

abbrev pub act_at : List Edge → ℕ → ℕ
act_at es k = slice_index (map (λ (e : Edge). e.act) es) k

-- the edge at k is one of a router of g from a router of h
pub record IsEdgeAt (es : List Edge) (groups : List ℕ) (k g h : ℕ) : Type 0 where
  pub between : HasEdgeBetween es groups g h (act_at es k)

-- some link carries the act into g from h
pub record IsCarried (es : List Edge) (links : List QLink) (g h act : ℕ) : Type 0 where
  pub link : QLink
  pub has : Contains links link
  pub joined : IsJoined link g h
  pub edge : ℕ
  pub side : side_of g link ≡ Some edge
  pub does : act_at es edge ≡ act

pub record IsBelow (count : ℕ) (l : QLink) : Type 0 where
  pub ordered : l.low < l.high
  pub inside : l.high < count

-- the links carry the acts between groups, and nothing else
pub record CarriesActs (es : List Edge) (groups : List ℕ) (count : ℕ) (links : List QLink) : Type 0 where
  pub below : (l : QLink) → Contains links l → IsBelow count l
  pub real : (l : QLink) (g h k : ℕ) → Contains links l → IsJoined l g h → side_of g l ≡ Some k → IsEdgeAt es groups k g h
  pub kept : (g h act : ℕ) → g ≢ h → HasEdgeBetween es groups g h act → IsCarried es links g h act
  pub used : (l : QLink) (g h : ℕ) → Contains links l → IsJoined l g h → side_of g l ≡ None → (k : ℕ) × (side_of h l ≡ Some k)
