-- What the problem of a network that a text gives says is in range.
use Rattle.std.proofs.Common.{◌≡◌, ℕ, zero, suc, Bool, true, false, cond, List, [], ◌∷◌, map, refl, sym, ap, ◌∙◌, subst, arith, Option, Some, None, is_some, slice_get}
use Rattle.std.specs.Prelude.{find, slice_index, slice_index_or, Contains, IfSome}
use Rattle.std.specs.List.{AllByRecursion}
use Rattle.std.specs.Option.{option_map, option_map_or}
use Rattle.base_kit.proofs.Elements.{contains_in, get_in}
use Rattle.base_kit.specs.Prefixes.{Prefix}
use Rattle.cfg_ast.specs.declared.bgp.BgpProcess.{BgpProcess}
use Rattle.cfg_ast.specs.declared.interface.Interface.{Interface}
use Rattle.cfg_ast.specs.declared.network.Network.{Network}
use Rattle.cfg_ast.specs.declared.network.Router.{Router}
use Rattle.cfg_ast.specs.meaning.Classes.{initial_route, route_by_process, is_announced}
use Rattle.cfg_ast.specs.meaning.Policy.{Received, import_of_session}
use Rattle.cfg_ast.specs.meaning.Topology.{default_costs, default_cost_of, is_row_of, type_of, cost_of_interface}
use Rattle.cfg_ast.specs.printing.WellFormed.{IsBetween, IsNumber, IsWellFormedBgp, IsWellFormedInterface, IsWellFormedRouter}
use Rattle.route_maps.specs.declared.plain.Imported.{Imported}
use Rattle.route_maps.specs.Sessions.{imported_as}
use Rattle.specialize.proofs.Found.{found_holds}
use Rattle.srp_core.specs.declared.route.Act.{Act}
use Rattle.srp_core.specs.declared.route.Act.TheVariants.{Import, Cost}
use Rattle.srp_core.specs.declared.route.Route.{Route}
use Rattle.srp_core.specs.Acts.{import_by}
use Rattle.srp_core.specs.Problem.{Problem, act_of}
use Rattle.srp_core.specs.ProblemOf.{as_number_of, route_from, start_route, Direction, MeansLink, IsProblemOf}
use Rattle.solution_round_trip.specs.Laws.{IsInRange}
use Rattle.solution_round_trip.proofs.SessionRange.{AreComms, IsReceived, preference_number, session_range}
use Rattle.solution_round_trip.proofs.StableRange.{ImportsInRange, HasRange}

same_some : {X : Type 0} (x y : X) → Some x ≡ Some y → x ≡ y
same_some x y e = cc

-- ---- initial routes

abbrev IsRow : List ℕ × ℕ → Type 0
IsRow row = IsNumber row.1

rows : AllByRecursion IsRow default_costs
unfolding default_costs
rows = (omega arith, (omega arith, (omega arith, (omega arith, (omega arith, (omega arith, (omega arith, tt)))))))

row_cost : (row : Option (List ℕ × ℕ)) (cost : ℕ) → IfSome row IsRow → option_map (λ (r : List ℕ × ℕ). r.1) row ≡ Some cost → IsNumber cost
row_cost None cost is e = cc
row_cost (Some row) cost is e = subst IsNumber (same_some row.1 cost e) is

given_cost : (x : Interface) (given : Option ℕ) (cost : ℕ) → IfSome given (IsBetween 1 65535) →
    cond (is_some given) given (default_cost_of (type_of x)) ≡ Some cost → IsNumber cost
given_cost x None cost is e = row_cost (find (is_row_of (type_of x)) default_costs) cost (found_holds IsRow (is_row_of (type_of x)) default_costs rows) e
given_cost x (Some given) cost is e = (let high = is.1 in subst IsNumber (same_some given cost e) (omega (arith, high)))

interface_cost : (x : Option Interface) (cost : ℕ) → IfSome x IsWellFormedInterface → option_map cost_of_interface x ≡ Some (Some cost) → IsNumber cost
interface_cost None cost is e = cc
interface_cost (Some x) cost is e = given_cost x x.cost cost is.cost (same_some (cost_of_interface x) (Some cost) e)

process_cost : (router : Router) (bgp : Option BgpProcess) (p : Prefix) (cost : ℕ) → IsWellFormedRouter router →
    route_by_process router bgp p ≡ Some (Some cost) → IsNumber cost
process_cost router (Some process) p cost is e = step (is_announced router process p) e
  where
    step : (b : Bool) → cond b (Some None) None ≡ Some (Some cost) → IsNumber cost
    step true e = cc
    step false e = cc
process_cost router None p cost is e = interface_cost _ cost (found_holds IsWellFormedInterface _ router.interfaces is.interfaces) e

started : (router : Router) (p : Prefix) (o : Option (Option ℕ)) (r : Route) → IsWellFormedRouter router → initial_route router p ≡ o →
    option_map (route_from router) o ≡ Some r → IsInRange r
started router p None r is given e = cc
started router p (Some None) r is given e =
    subst IsInRange (same_some (route_from router None) r e) (record { preference = preference_number router is; numbers = tt; communities = tt; is_set = tt })
started router p (Some (Some cost)) r is given e =
    subst IsInRange (same_some (route_from router (Some cost)) r e) (process_cost router router.bgp p cost is given)

start_range : (p : Prefix) (routers : List Router) → AllByRecursion IsWellFormedRouter routers → (u : ℕ) (r : Route) →
    slice_index_or (map (start_route p) routers) u None ≡ Some r → IsInRange r
start_range p [] are u r e = cc
start_range p (router ∷ routers) are zero r e = started router p (initial_route router p) r are.0 refl e
start_range p (router ∷ routers) are (suc u) r e = start_range p routers are.1 u r e

-- ---- numbers

process_number : (bgp : Option BgpProcess) → IfSome bgp IsWellFormedBgp → IsNumber (option_map_or (λ (process : BgpProcess). process.number) bgp 0)
process_number None is = omega arith
process_number (Some process) is = is.number.1

pub numbers_range : (routers : List Router) → AllByRecursion IsWellFormedRouter routers → AllByRecursion IsNumber (map as_number_of routers)
numbers_range [] are = tt
numbers_range (router ∷ routers) are = (process_number router.bgp are.0.bgp, numbers_range routers are.1)

pub number_at : (numbers : List ℕ) (u : ℕ) → AllByRecursion IsNumber numbers → IsNumber (slice_index numbers u)
number_at [] u each = omega arith
number_at (n ∷ numbers) zero each = each.0
number_at (n ∷ numbers) (suc u) each = number_at numbers u each.1

-- ---- sessions

received_range : (o : Option Received) (i : Imported) → ((received : Received) → o ≡ Some received → IsReceived received) → option_map imported_as o ≡ Some i →
    IsNumber i.lp × AreComms i.comms
received_range None i range e = cc
received_range (Some received) i range e =
    subst (λ (j : Imported). IsNumber j.lp × AreComms j.comms) (same_some (imported_as received) i e) (range received refl)

module _ (n : Network) (p : Prefix) (are : (router : Router) → Contains n.routers router → IsWellFormedRouter router) where
  at_place : (place : ℕ) (router : Router) → slice_get n.routers place ≡ Some router → IsWellFormedRouter router
  at_place place router at = are router (contains_in n.routers router (get_in n.routers place router at))

  means_range : (d : Direction) (act : Act) → MeansLink n p d act → ImportsInRange act
  unfolding import_by
  means_range d (Import out sends into) means comms ascending each i e =
      let ends = means.ends in
      received_range (import_of_session p ends.exporter ends.exporter_line ends.importer ends.importer_line comms) i
      (λ received. session_range p ends.exporter ends.importer ends.exporter_line ends.importer_line comms received
      (at_place d.exporter ends.exporter ends.exporter_at) (at_place d.importer ends.importer ends.importer_at) each)
      (sym (means.same comms ascending) ∙ e)
  means_range d (Cost cost) means comms ascending each i e = cc

pub network_range : (n : Network) (p : Prefix) (P : Problem) → AllByRecursion IsWellFormedRouter n.routers →
    ((router : Router) → Contains n.routers router → IsWellFormedRouter router) → IsProblemOf n p P → HasRange P
network_range n p P each are of = record {
  starts = λ u r e. start_range p n.routers each u r (ap (λ (l : List (Option Route)). slice_index_or l u None) (sym of.init) ∙ e);
  exporters = λ edge edge_in. number_at P.numbers edge.exporter (subst (AllByRecursion IsNumber) (sym of.numbers) (numbers_range n.routers each));
  imports = λ edge edge_in. (let stands = of.edges_stand edge edge_in in means_range n p are stands.0 (act_of P edge) stands.1.means);
}
