-- Networks in which a neighbour has `shutdown`: a session of it is closed (RFC 4271 section 8).
use Rattle.std.specs.Prelude.{◌≡◌, zero, suc, ℕ, Bool, true, false, not, ◌&&◌, ◌||◌, List, [], ◌∷◌, length, Some, map, filter, take, nat_eq, slice_get}
use Rattle.std.specs.Option.{option_map, option_map_or}
use Rattle.base_kit.specs.declared.act_graph.Edge.{Edge}
use Rattle.base_kit.specs.declared.protocol.Protocol.TheVariants.{Bgp as OverBgp}
use Rattle.base_kit.specs.Prefixes.{Prefix}
use Rattle.cfg_ast.specs.declared.bgp.BgpProcess.{BgpProcess}
use Rattle.cfg_ast.specs.declared.bgp.Neighbor.{Neighbor}
use Rattle.cfg_ast.specs.declared.network.Network.{Network}
use Rattle.cfg_ast.specs.declared.network.Router.{Router}
use Rattle.cfg_ast.specs.declared.topology.Link.{Link}
use Rattle.cfg_ast.specs.meaning.Classes.{classes_of}
use Rattle.cfg_ast.specs.meaning.RouterFaults.{protocol_of}
use Rattle.cfg_ast.specs.meaning.Topology.{links_of}
use Rattle.cfg_ast.specs.text.Reading.{IsGiven}
use Rattle.cfg_check.specs.Faultless.{IsFaultless}
use Rattle.srp_core.specs.Problem.{Problem}
use Rattle.srp_core.specs.ProblemOf.{IsProblemOf}
use Rattle.srp_core.specs.Without.{Down, IsWithout, nothing_down, with_link_down}

-- the item at the place, changed
abbrev pub changed_at : {X : Type 0} → (X → X) → ℕ → List X → List X
changed_at f place [] = []
changed_at f zero (x ∷ xs) = f x ∷ xs
changed_at f (suc place) (x ∷ xs) = x ∷ changed_at f place xs

abbrev pub shut_line : Neighbor → Neighbor
shut_line line = record line { shut = true }

abbrev pub shut_in : ℕ → BgpProcess → BgpProcess
shut_in item process = record process { neighbors = changed_at shut_line item process.neighbors }

abbrev pub shut_on : ℕ → Router → Router
shut_on item router = record router { bgp = option_map (shut_in item) router.bgp }

-- that neighbour of that router has `shutdown`
abbrev pub with_shutdown : Network → ℕ → ℕ → Network
with_shutdown n router item = record n { routers = changed_at (shut_on item) router n.routers }

-- the neighbour is an end of the link
abbrev pub is_end : ℕ → ℕ → Link → Bool
is_end router item link = (nat_eq link.low router && nat_eq link.low_item item) || (nat_eq link.high router && nat_eq link.high_item item)

-- the links that end at the neighbour are down
abbrev pub down_at : Network → ℕ → ℕ → Down
down_at n router item = record { routers = λ u. false; links = λ l. option_map_or (is_end router item) (slice_get (links_of n) l) false }

-- how many of the links before this one are left
abbrev pub number_left : Network → ℕ → ℕ → ℕ → ℕ
number_left n router item link = length (filter (λ other. not (is_end router item other)) (take link (links_of n)))

abbrev pub with_link : (ℕ → ℕ) → Edge → Edge
with_link number edge = record edge { link = number edge.link }

-- the problem with other numbers for its links
abbrev pub renumbered : (ℕ → ℕ) → Problem → Problem
renumbered number problem = record problem { edges = map (with_link number) problem.edges }

-- A BGP problem without the links of one neighbour is, except for the numbers of links, the problem of the
-- network in which that neighbour has `shutdown`.
abbrev pub ShutdownIsWithout : Type 0
ShutdownIsWithout = (n : Network) (prefix : Prefix) (problem other : Problem) (router item : ℕ) → IsFaultless n → problem.protocol ≡ OverBgp
    → IsProblemOf n prefix problem → IsWithout problem (down_at n router item) other
    → IsProblemOf (with_shutdown n router item) prefix (renumbered (number_left n router item) other)

-- In BGP a neighbour is an end of at most one link.
abbrev pub NeighborEndsOneLink : Type 0
NeighborEndsOneLink = (n : Network) (router item number other_number : ℕ) (link other : Link) → ∥ IsGiven n ∥₁ → IsFaultless n → protocol_of n ≡ Some OverBgp
    → slice_get (links_of n) number ≡ Some link → slice_get (links_of n) other_number ≡ Some other → is_end router item link ≡ true
    → is_end router item other ≡ true → number ≡ other_number

-- A BGP problem without one link is, except for the numbers of links, the problem of the network in which the neighbour at
-- an end of the link has `shutdown`.
abbrev pub ShutdownIsWithoutLink : Type 0
ShutdownIsWithoutLink = (n : Network) (prefix : Prefix) (problem other : Problem) (router item number : ℕ) (link : Link) → ∥ IsGiven n ∥₁ → IsFaultless n
    → problem.protocol ≡ OverBgp → IsProblemOf n prefix problem → slice_get (links_of n) number ≡ Some link → is_end router item link ≡ true
    → IsWithout problem (with_link_down number nothing_down) other
    → IsProblemOf (with_shutdown n router item) prefix (renumbered (number_left n router item) other)

-- No fault stands in that network if none stood before.
abbrev pub ShutdownKeepsFaultless : Type 0
ShutdownKeepsFaultless = (n : Network) (router item : ℕ) → IsFaultless n → IsFaultless (with_shutdown n router item)

-- In BGP the links of that network are those that do not end at the neighbour, in the same order.
abbrev pub ShutdownLeavesLinks : Type 0
ShutdownLeavesLinks = (n : Network) (router item : ℕ) → IsFaultless n → protocol_of n ≡ Some OverBgp
    → links_of (with_shutdown n router item) ≡ filter (λ link. not (is_end router item link)) (links_of n)

-- Its classes are the same, with the same numbers.
abbrev pub ShutdownKeepsClasses : Type 0
ShutdownKeepsClasses = (n : Network) (router item : ℕ) → classes_of (with_shutdown n router item) ≡ classes_of n
