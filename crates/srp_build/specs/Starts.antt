-- The initial routes of routers, made from the origins of a class.
use Rattle.std.specs.Prelude.{ℕ, ◌+◌, Bool, false, List, [], ◌∷◌, Option, Some, None, nat_eq, map, if◌then◌else◌}
use Rattle.std.specs.Option.{option_map}
use Rattle.cfg_ast.specs.declared.classes.Origin.{Origin}
use Rattle.cfg_ast.specs.declared.network.Router.{Router}
use Rattle.srp_core.specs.declared.route.Route.{Route}
use Rattle.srp_core.specs.ProblemOf.{route_from}

-- the cost of the first origin, if it is at that place
abbrev pub first_cost_at : ℕ → List Origin → Option (Option ℕ)
first_cost_at place [] = None
first_cost_at place (origin ∷ origins) = if nat_eq origin.router place then Some origin.cost else None

-- the origins behind the first, if that is at that place
abbrev pub origins_behind : ℕ → List Origin → List Origin
origins_behind place [] = []
origins_behind place (origin ∷ origins) = if nat_eq origin.router place then origins else origin ∷ origins

-- the initial routes of routers from a place on, by their origins in order
abbrev pub starts_from : ℕ → List Origin → List Router → List (Option Route)
starts_from place origins [] = []
starts_from place origins (router ∷ routers) =
    option_map (route_from router) (first_cost_at place origins) ∷ starts_from (place + 1) (origins_behind place origins) routers

-- no router is lone
abbrev pub none_lone : List Router → List Bool
none_lone routers = map (λ (router : Router). false) routers
