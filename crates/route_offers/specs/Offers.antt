-- What the edges of a router offer it.
use Rattle.std.specs.Prelude.{◌≡◌, ℕ, Bool, true, false, List, Option, Some, None, Contains, if◌then◌else◌}
use Rattle.base_kit.specs.Sets.{with_number}
use Rattle.base_kit.specs.declared.act_graph.Edge.{Edge}
use Rattle.srp_core.specs.declared.route.Route.{Route}
use Rattle.srp_core.specs.declared.route.Route.TheVariants.{Bgp, Ospf}
use Rattle.srp_core.specs.Acts.{arrived}
use Rattle.srp_core.specs.Problem.{Problem}
use Rattle.route_offers.specs.declared.offers.Offer.{Offer}
use Rattle.route_offers.specs.declared.offers.Offer.TheVariants.{Nothing, Import, Cost}

-- the edges of the router
pub record AreOwn (problem : Problem) (router : ℕ) (own : List Edge) : Type 0 where
  pub only : (edge : Edge) → Contains own edge → Contains problem.edges edge × (edge.importer ≡ router)
  pub all : (edge : Edge) → Contains problem.edges edge → edge.importer ≡ router → Contains own edge

-- the route that an offer makes of that of the exporter with the number
abbrev pub offered : Offer → Option Route → ℕ → Option Route
offered Nothing from number = None
offered (Cost cost) from number = Some (Ospf cost)
offered (Import imported) None number = None
offered (Import imported) (Some (Ospf cost)) number = None
offered (Import imported) (Some (Bgp lp path comms)) number = Some (arrived number path imported)

-- whether an offer gives a route
abbrev pub gives : Offer → Bool
gives Nothing = false
gives (Import imported) = true
gives (Cost cost) = true

-- the lone numbers behind a number that is a lone router's or not
abbrev pub with_lone : Bool → ℕ → List ℕ → List ℕ
with_lone is_lone number rest = if is_lone then with_number number rest else rest
