-- The places of the lists and maps of several routers.
use Rattle.std.specs.Prelude.{◌≡◌, ℕ, List, length, Some, slice_get}
use Rattle.cfg_ast.specs.declared.network.Router.{Router}
use Rattle.specialize.specs.declared.places.Places.{Places}
use Rattle.specialize.specs.Places.{ArePlacesOfRouter}

-- each router has the places of its lists and maps
pub record HavePlaces (routers : List Router) (places : List Places) : Type 0 where
  pub total : length places ≡ length routers
  pub each : (at : ℕ) (router : Router) (own : Places) → slice_get routers at ≡ Some router → slice_get places at ≡ Some own → ArePlacesOfRouter router own
