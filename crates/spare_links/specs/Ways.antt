-- The links over which routers forward, and those over which routes tie.
use Rattle.std.specs.Prelude.{◌≡◌, ◌≢◌, ℕ, ◌<◌, List, Option, None, IfSome, length, Contains, nat_eq, slice_index_or, if◌then◌else◌}
use Rattle.base_kit.specs.declared.act_graph.Edge.{Edge}
use Rattle.srp_core.specs.declared.route.Route.{Route}
use Rattle.srp_core.specs.Problem.{Problem, count}
use Rattle.spare_links.specs.declared.standing.Standing.TheVariants.{Same, Tied}
use Rattle.spare_links.specs.declared.ways.Ways.{Ways}
use Rattle.spare_links.specs.declared.ways.Ways.TheVariants.{Nowhere, OneLink, MoreLinks}
use Rattle.spare_links.specs.Standing.{standing_over}

-- one link more
abbrev pub with_way : Ways → ℕ → Ways
with_way Nowhere link = OneLink link
with_way (OneLink only) link = if nat_eq only link then OneLink only else MoreLinks
with_way MoreLinks link = MoreLinks

-- one of these edges, of this link, gives the router a route that stands as its label does
pub record GoesOver (problem : Problem) (labels : List (Option Route)) (edges : List Edge) (router link : ℕ) : Type 0 where
  pub edge : Edge
  pub edge_in : Contains edges edge
  pub importer : edge.importer ≡ router
  pub of_link : edge.link ≡ link
  pub same : standing_over problem labels edge ≡ Same

-- this link goes, and no other
pub record HasOneLink (goes : ℕ → Type 0) (link : ℕ) : Type 0 where
  pub it_goes : goes link
  pub only : (other : ℕ) → goes other → other ≡ link

-- two links that go differ
pub record HasTwoLinks (goes : ℕ → Type 0) : Type 0 where
  pub first : ℕ
  pub second : ℕ
  pub first_goes : goes first
  pub second_goes : goes second
  pub differ : first ≢ second

-- what is said of all links that go
abbrev pub AreAllLinks : (ℕ → Type 0) → Ways → Type 0
AreAllLinks goes Nowhere = (link : ℕ) → ¬ goes link
AreAllLinks goes (OneLink link) = HasOneLink goes link
AreAllLinks goes MoreLinks = HasTwoLinks goes

-- one of these edges, of this link, gives its importer a route that ties with the label by other communities
pub record TiesOver (problem : Problem) (labels : List (Option Route)) (edges : List Edge) (link : ℕ) : Type 0 where
  pub edge : Edge
  pub edge_in : Contains edges edge
  pub of_link : edge.link ≡ link
  pub tied : standing_over problem labels edge ≡ Tied

-- one of these edges gives the router a route that ties so
pub record TiesAt (problem : Problem) (labels : List (Option Route)) (edges : List Edge) (router : ℕ) : Type 0 where
  pub edge : Edge
  pub edge_in : Contains edges edge
  pub importer : edge.importer ≡ router
  pub tied : standing_over problem labels edge ≡ Tied

-- for each router, the links over which it forwards by these edges
pub record AreWays (problem : Problem) (labels : List (Option Route)) (edges : List Edge) (ways : List Ways) : Type 0 where
  pub total : length ways ≡ count problem
  pub each : (u : ℕ) → u < count problem → AreAllLinks (GoesOver problem labels edges u) (slice_index_or ways u Nowhere)

-- the links over which routes tie by these edges, and a router at which they do, if they tie at all
pub record AreTies (problem : Problem) (labels : List (Option Route)) (edges : List Edge) (ties : Ways) (tied : Option ℕ) : Type 0 where
  pub links : AreAllLinks (TiesOver problem labels edges) ties
  pub none : tied ≡ None → (edge : Edge) → Contains edges edge → standing_over problem labels edge ≢ Tied
  pub some : IfSome tied (TiesAt problem labels edges)
