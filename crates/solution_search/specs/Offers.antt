-- What routers are offered.
use Rattle.std.specs.Prelude.{◌≡◌, Option, Some, None}
use Rattle.srp_core.specs.declared.route.Route.{Route}
use Rattle.srp_core.specs.Problem.{Problem}
use Rattle.solution_search.specs.declared.bests.Best.{Best}
use Rattle.solution_search.specs.Bests.{IsFresh}

-- the route, with its lone numbers
pub record IsOfferOf (problem : Problem) (route : Route) (offer : Best) : Type 0 where
  pub same : offer.route ≡ route
  pub fresh : IsFresh problem offer

-- the route is offered, if there is one
abbrev pub OffersRoute : Problem → Option Route → Option Best → Type 0
OffersRoute problem None None = Unit {0}
OffersRoute problem None (Some offer) = ⊥
OffersRoute problem (Some route) None = ⊥
OffersRoute problem (Some route) (Some offer) = IsOfferOf problem route offer
