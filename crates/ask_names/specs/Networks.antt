-- The names of a network's routers.
use Rattle.std.specs.Prelude.{ℕ, List, map}
use Rattle.cfg_ast.specs.declared.network.Network.{Network}
use Rattle.cfg_ast.specs.declared.network.Router.{Router}

abbrev pub names_of : Network → List (List ℕ)
names_of network = map (λ (router : Router). router.name) network.routers
