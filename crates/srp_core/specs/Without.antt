-- The problem that is left where routers and links are down: what routing comes to where these are lost
-- and nothing else changes. A router that is down originates nothing, and neither it nor a link that is
-- down carries routes (RFC 4271 sections 6.7 and 8 for a session that is closed: its routes are gone).
use Rattle.std.specs.Prelude.{◌≡◌, ℕ, Bool, false, not, ◌&&◌, ◌||◌, nat_eq, List, filter, Option, None, slice_index_or, if◌then◌else◌}
use Rattle.base_kit.specs.declared.act_graph.Edge.{Edge}
use Rattle.srp_core.specs.declared.route.Route.{Route}
use Rattle.srp_core.specs.Problem.{Problem, initial, IsProblem}

-- the routers that are down, by place, and the links, by number
pub record Down : Type 0 where
  pub routers : ℕ → Bool
  pub links : ℕ → Bool

-- the marked routers and the marked links are down
abbrev pub marked_down : List Bool → List Bool → Down
marked_down routers links = record { routers = λ router. slice_index_or routers router false; links = λ link. slice_index_or links link false }

-- nothing is down
abbrev pub nothing_down : Down
nothing_down = record { routers = λ router. false; links = λ link. false }

-- this link is down too
abbrev pub with_link_down : ℕ → Down → Down
with_link_down link down = record { routers = down.routers; links = λ other. nat_eq other link || down.links other }

-- this router is down too
abbrev pub with_router_down : ℕ → Down → Down
with_router_down router down = record { routers = λ other. nat_eq other router || down.routers other; links = down.links }

-- whether the edge is left: neither its link nor a router at its ends is down
abbrev pub is_left : Down → Edge → Bool
is_left down edge = not (down.links edge.link) && (not (down.routers edge.importer) && not (down.routers edge.exporter))

-- a router that is down has no initial route
abbrev pub start_left : Problem → Down → ℕ → Option Route
start_left problem down router = if down.routers router then None else initial problem router

-- The same routers, with the initial routes and edges that are left. The rules say which routers are
-- lone: those that accept with two preferences over the edges that are left.
pub record IsWithout (problem : Problem) (down : Down) (other : Problem) : Type 0 where
  pub rules : IsProblem other
  pub protocol : other.protocol ≡ problem.protocol
  pub names : other.names ≡ problem.names
  pub numbers : other.numbers ≡ problem.numbers
  pub acts : other.acts ≡ problem.acts
  pub init : (u : ℕ) → initial other u ≡ start_left problem down u
  pub edges : other.edges ≡ filter (is_left down) problem.edges
