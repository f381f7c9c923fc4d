-- A router's initial route to a prefix is the first of its routes to it.
use Rattle.std.proofs.Common.{◌≡◌, ℕ, Bool, true, false, cond, true≢false, ◌&&◌, ◌||◌, List, [], ◌∷◌, Option, Some, None, refl, sym, ◌∙◌, ap}
use Rattle.std.specs.Prelude.{filter_map, find}
use Rattle.std.specs.List.{list_any, cons_option}
use Rattle.std.specs.Option.{option_map, option_map_or}
use Rattle.base_kit.specs.Prefixes.{Prefix, same_prefix}
use Rattle.cfg_ast.specs.declared.bgp.BgpProcess.{BgpProcess}
use Rattle.cfg_ast.specs.declared.bgp.NetLine.{NetLine}
use Rattle.cfg_ast.specs.declared.interface.Interface.{Interface}
use Rattle.cfg_ast.specs.declared.network.Router.{Router}
use Rattle.cfg_ast.specs.meaning.Classes.{up_subnet, is_up_in, route_by_process, initial_route}
use Rattle.cfg_ast.specs.meaning.Topology.{is_in_area_interface, cost_of_interface}
use Rattle.cfg_ast.proofs.PrefixSets.{one_prefix}
use Rattle.dest_classes.specs.declared.routes.Route.{Route}
use Rattle.dest_classes.specs.Routes.{is_named, route_to, routes_on}

abbrev pub leads_to : Prefix → Route → Bool
leads_to p route = same_prefix p route.prefix

-- the cost of the first route to the prefix
abbrev pub start_in : Prefix → List Route → Option (Option ℕ)
start_in p routes = option_map (λ (route : Route). route.cost) (find (leads_to p) routes)

abbrev up_to : Router → Option BgpProcess → List Interface → List Route
up_to router bgp xs = filter_map (λ x. route_to router bgp x (up_subnet x)) xs

-- one more interface in BGP: n whether p is named, m whether its prefix q is, s whether q is p, others
-- whether another interface has p
announced_with : (p q : Prefix) (n m s others : Bool) (routes : List Route) → same_prefix p q ≡ s → (s ≡ true → n ≡ m) →
    start_in p routes ≡ cond (n && others) (Some None) None
    → start_in p (cons_option (cond m (Some (record { prefix = q; cost = None })) None) routes) ≡ cond (n && (s || others)) (Some None) None
announced_with p q n false false others routes same one rest = rest
announced_with p q true false true others routes same one rest = absurd (true≢false (one refl))
announced_with p q false false true others routes same one rest = rest
announced_with p q n true false others routes same one rest = rw same rest
announced_with p q true true true others routes same one rest = rw same refl
announced_with p q false true true others routes same one rest = absurd (true≢false (sym (one refl)))

named_alike : (lines : List NetLine) (p q : Prefix) → same_prefix p q ≡ true → is_named lines p ≡ is_named lines q
named_alike lines p q same = ap (is_named lines) (one_prefix p q same)

bgp_step : (router : Router) (process : BgpProcess) (p : Prefix) (x : Interface) (others : Bool) (routes : List Route) (o : Option Prefix) →
    start_in p routes ≡ cond (is_named process.networks p && others) (Some None) None
    → start_in p (cons_option (route_to router (Some process) x o) routes) ≡ cond
    (is_named process.networks p && (option_map_or (same_prefix p) o false || others)) (Some None) None
bgp_step router process p x others routes None rest = rest
bgp_step router process p x others routes (Some q) rest =
    announced_with p q (is_named process.networks p) (is_named process.networks q) (same_prefix p q) others routes refl (named_alike process.networks p q) rest

none_announced : (p : Prefix) (n : Bool) → start_in p [] ≡ cond (n && false) (Some None) None
none_announced p true = refl
none_announced p false = refl

bgp_start : (router : Router) (process : BgpProcess) (p : Prefix) (xs : List Interface) →
    start_in p (up_to router (Some process) xs) ≡ cond (is_named process.networks p && list_any (is_up_in p) xs) (Some None) None
bgp_start router process p [] = none_announced p (is_named process.networks p)
bgp_start router process p (x ∷ xs) = bgp_step router process p x (list_any (is_up_in p) xs) (up_to router (Some process) xs) (up_subnet x)
    (bgp_start router process p xs)

-- one more interface in OSPF: a whether it is in the area
area_with : (p q : Prefix) (x : Interface) (a s : Bool) (others : Option Interface) (routes : List Route) → same_prefix p q ≡ s →
    start_in p routes ≡ option_map cost_of_interface others
    → start_in p (cons_option (cond a (Some (record { prefix = q; cost = cost_of_interface x })) None) routes) ≡ option_map cost_of_interface
    (cond (a && s) (Some x) others)
area_with p q x false s others routes same rest = rest
area_with p q x true false others routes same rest = rw same rest
area_with p q x true true others routes same rest = rw same refl

ospf_step : (router : Router) (p : Prefix) (x : Interface) (a : Bool) (others : Option Interface) (routes : List Route) (o : Option Prefix) →
    is_in_area_interface router x ≡ a → start_in p routes ≡ option_map cost_of_interface others
    → start_in p (cons_option (route_to router None x o) routes) ≡ option_map cost_of_interface
    (cond (a && option_map_or (same_prefix p) o false) (Some x) others)
ospf_step router p x true others routes None is rest = rest
ospf_step router p x false others routes None is rest = rest
ospf_step router p x a others routes (Some q) is rest =
    ap (λ (b : Bool). start_in p (cons_option (cond b (Some (record { prefix = q; cost = cost_of_interface x })) None) routes)) is
    ∙ area_with p q x a (same_prefix p q) others routes refl rest

ospf_start : (router : Router) (p : Prefix) (xs : List Interface) →
    start_in p (up_to router None xs) ≡ option_map cost_of_interface (find (λ x. is_in_area_interface router x && is_up_in p x) xs)
ospf_start router p [] = refl
ospf_start router p (x ∷ xs) =
    ospf_step router p x (is_in_area_interface router x) (find (λ x. is_in_area_interface router x && is_up_in p x) xs) (up_to router None xs) (up_subnet x)
    refl (ospf_start router p xs)

by_process : (router : Router) (p : Prefix) (bgp : Option BgpProcess) → start_in p (up_to router bgp router.interfaces) ≡ route_by_process router bgp p
by_process router p (Some process) = bgp_start router process p router.interfaces
by_process router p None = ospf_start router p router.interfaces

-- the initial route is the first route to the prefix
pub initial_is : (router : Router) (p : Prefix) → start_in p (routes_on router) ≡ initial_route router p
initial_is router p = by_process router p router.bgp
