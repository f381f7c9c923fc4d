-- Routes, and the keys by which they are compared (RFC 4271 sections 9.1.1 and 9.1.2.2 a for the first
-- two steps of BGP; RFC 2328 for the cost of OSPF). Later tie steps of RFC 4271 name single routers and
-- are not followed.
use Rattle.std.specs.Prelude.{ℕ, Bool, List, [], ◌∷◌, length, nat_eq, if◌then◌else◌}
use Rattle.std.specs.List.{list_any}
use Rattle.std.specs.Ordering.{nat_cmp, then_cmp, on, flip_args}
use Rattle.std.specs.Cmp.Lexicographic.{slice_cmp}
use Rattle.std.specs.declared.cmp.Ordering.{Ordering}
use Rattle.base_kit.specs.declared.protocol.Protocol.{Protocol}
use Rattle.base_kit.specs.declared.protocol.Protocol.TheVariants.{Bgp as OverBgp, Ospf as OverOspf}
use Rattle.base_kit.specs.Sets.{with_number, IsAscending}
use Rattle.srp_core.specs.declared.route.Route.{Route}
use Rattle.srp_core.specs.declared.route.Route.TheVariants.{Bgp, Ospf}

-- the preference, 0 in OSPF
abbrev pub preference_of : Route → ℕ
preference_of (Bgp lp path comms) = lp
preference_of (Ospf cost) = 0

-- the length of the path, repeats counted; in OSPF the cost
abbrev pub size_of : Route → ℕ
size_of (Bgp lp path comms) = length path
size_of (Ospf cost) = cost

-- the AS numbers on the path, none in OSPF
abbrev pub path_of : Route → List ℕ
path_of (Bgp lp path comms) = path
path_of (Ospf cost) = []

-- the communities, none in OSPF
abbrev pub comms_of : Route → List ℕ
comms_of (Bgp lp path comms) = comms
comms_of (Ospf cost) = []

-- a route of the protocol; its communities are a set
abbrev pub IsRouteOf : Protocol → Route → Type 0
IsRouteOf OverBgp (Bgp lp path comms) = IsAscending comms
IsRouteOf OverBgp (Ospf cost) = ⊥
IsRouteOf OverOspf (Bgp lp path comms) = ⊥
IsRouteOf OverOspf (Ospf cost) = Unit {0}

-- whether the number is on the path
abbrev pub is_on : ℕ → List ℕ → Bool
is_on number path = list_any (λ other. nat_eq other number) path

-- the numbers of a path that pass the test, ascending, each once
unfoldable pub chosen : (ℕ → Bool) → List ℕ → List ℕ
chosen test [] = []
chosen test (number ∷ path) = if test number then with_number number (chosen test path) else chosen test path

-- what routes are compared by: two routes of equal keys tie
pub record Key : Type 0 where
  pub preference : ℕ
  pub size : ℕ
  pub comms : List ℕ
  pub lone : List ℕ

-- the key of a route, where the test tells the numbers of lone routers
abbrev pub key_by : (ℕ → Bool) → Route → Key
key_by is_lone route = record { preference = preference_of route; size = size_of route; comms = comms_of route; lone = chosen is_lone (path_of route) }

-- Less where the first key is better: higher preference, then smaller size, then the
-- lexicographically smaller list of communities, then of lone numbers
unfoldable pub compare_keys : Key → Key → Ordering
compare_keys = then_cmp (on (λ k. k.preference) (flip_args nat_cmp))
    (then_cmp (on (λ k. k.size) nat_cmp) (then_cmp (on (λ k. k.comms) (slice_cmp nat_cmp)) (on (λ k. k.lone) (slice_cmp nat_cmp))))
