-- What a router originates because of its interfaces, in their order, and what is known about a prefix
-- after some of its originators were noted.
use Rattle.std.specs.BTreeSet.{BTreeSet, contains}
use Rattle.std.specs.Prelude.{◌≡◌, ℕ, ◌-◌, Bool, false, List, [], ◌∷◌, ◌++◌, Option, Some, None, filter_map, length, nat_eq, slice_get, unwrap_or, if◌then◌else◌}
use Rattle.std.specs.Option.{option_map_or}
use Rattle.std.specs.List.{list_any}
use Rattle.std.specs.declared.cmp.Ordering.{Ordering}
use Rattle.base_kit.specs.Prefixes.{Prefix, same_prefix}
use Rattle.base_kit.specs.contracts.prefix.PrefixOrd.TheImpl as prefix_ord
use Rattle.cfg_ast.specs.declared.bgp.BgpProcess.{BgpProcess}
use Rattle.cfg_ast.specs.declared.bgp.NetLine.{NetLine}
use Rattle.cfg_ast.specs.declared.classes.Origin.{Origin}
use Rattle.cfg_ast.specs.declared.interface.Interface.{Interface}
use Rattle.cfg_ast.specs.declared.network.Router.{Router}
use Rattle.cfg_ast.specs.meaning.Classes.{up_subnet}
use Rattle.cfg_ast.specs.meaning.Topology.{is_in_area_interface, cost_of_interface}
use Rattle.dest_classes.specs.declared.routes.Route.{Route}

-- how `cmp` orders prefixes
abbrev pub prefix_cmp : Prefix → Prefix → Ordering
prefix_cmp = (prefix_ord.ghosts).cmp

-- a `network` line has the prefix
abbrev pub is_named : List NetLine → Prefix → Bool
is_named lines p = list_any (λ (line : NetLine). same_prefix p line.prefix) lines

-- the set has what the `network` lines of the router's BGP process name, if it has one
abbrev pub AreNamed : Option BgpProcess → Option (BTreeSet Prefix) → Type 0
AreNamed None set = set ≡ None
AreNamed (Some process) None = ⊥
AreNamed (Some process) (Some set) = (p : Prefix) → contains prefix_cmp set p ≡ is_named process.networks p

abbrev pub route_to : Router → Option BgpProcess → Interface → Option Prefix → Option Route
route_to router bgp x None = None
route_to router (Some process) x (Some p) = if is_named process.networks p then Some (record { prefix = p; cost = None }) else None
route_to router None x (Some p) = if is_in_area_interface router x then Some (record { prefix = p; cost = cost_of_interface x }) else None

-- what an interface makes its router originate
abbrev pub route_at : Router → Interface → Option Route
route_at router x = route_to router router.bgp x (up_subnet x)

abbrev pub routes_on : Router → List Route
routes_on router = filter_map (route_at router) router.interfaces

-- the last origin is at that router
abbrev pub ends_with_router : ℕ → List Origin → Bool
ends_with_router router origins = option_map_or (λ (origin : Origin). nat_eq origin.router router) (slice_get origins (length origins - 1)) false

-- the origins with one more, unless its router is noted already
abbrev pub with_origin : List Origin → Origin → List Origin
with_origin origins origin = if ends_with_router origin.router origins then origins else origins ++ origin ∷ []

-- what is known of a prefix after one more route of a router
abbrev pub noted : Prefix → ℕ → Route → Option (List Origin) → Option (List Origin)
noted p router route known = if same_prefix p route.prefix then Some (with_origin (unwrap_or known []) (record { router = router; cost = route.cost }))
    else known

abbrev pub all_noted : Prefix → ℕ → List Route → Option (List Origin) → Option (List Origin)
all_noted p router [] known = known
all_noted p router (route ∷ routes) known = all_noted p router routes (noted p router route known)

-- the same after the routes of all routers
abbrev pub noted_from : Prefix → List (ℕ × Router) → Option (List Origin) → Option (List Origin)
noted_from p [] known = known
noted_from p ((place, router) ∷ rest) known = noted_from p rest (all_noted p place (routes_on router) known)
