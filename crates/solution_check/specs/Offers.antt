-- What the edges of a router offer it, compared with its label.
use Rattle.std.specs.Prelude.{◌≡◌, ℕ, Bool, true, false, not, ◌||◌, List, Option, Some, None, [], filter_map}
use Rattle.std.specs.List.{list_any, cons_option}
use Rattle.std.specs.Ordering.{is_lt}
use Rattle.base_kit.specs.declared.act_graph.Edge.{Edge}
use Rattle.base_kit.specs.declared.protocol.Protocol.{Protocol}
use Rattle.base_kit.specs.declared.protocol.Protocol.TheVariants.{Bgp as OverBgp, Ospf as OverOspf}
use Rattle.srp_core.specs.declared.route.Route.{Route}
use Rattle.srp_core.specs.Routes.{compare_keys}
use Rattle.srp_core.specs.Problem.{Problem, initial, key_of}
use Rattle.srp_core.specs.Candidates.{over}
use Rattle.route_keys.specs.Same.{same_route}
use Rattle.solution_check.specs.declared.weights.Weight.{Weight}

-- its initial route, and what its edges give
abbrev pub routes_of : Problem → List (Option Route) → ℕ → List Edge → List Route
routes_of problem labels router own = cons_option (initial problem router) (filter_map (over problem labels) own)

-- whether a route is the label, and whether it beats the label
abbrev pub is_label : Route → Route → Bool
is_label route candidate = same_route candidate route

abbrev pub beats_label : Problem → Route → Route → Bool
beats_label problem route candidate = is_lt (compare_keys (key_of problem candidate) (key_of problem route))

-- ---- what candidates weigh

-- they have the label among them, and one that beats it
pub record WeighsAs (problem : Problem) (route : Route) (routes : List Route) (weight : Weight) : Type 0 where
  pub held : weight.held ≡ list_any (is_label route) routes
  pub beaten : weight.beaten ≡ list_any (beats_label problem route) routes

abbrev pub one : Option Route → List Route
one found = cons_option found []

abbrev pub nothing_weighed : Weight
nothing_weighed = record { held = false; beaten = false }

abbrev pub both_weighed : Weight → Weight → Weight
both_weighed a b = record { held = a.held || b.held; beaten = a.beaten || b.beaten }

abbrev pub always : Route → Bool
always route = true

-- a BGP originator has another label than its initial route
abbrev pub is_wrong_origin : Protocol → Option Route → Option Route → Bool
is_wrong_origin OverBgp (Some initial) (Some label) = not (same_route initial label)
is_wrong_origin OverBgp (Some initial) None = true
is_wrong_origin OverBgp None label = false
is_wrong_origin OverOspf initial label = false
