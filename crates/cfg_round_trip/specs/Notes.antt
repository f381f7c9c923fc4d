-- The notes of a network.
use Rattle.std.specs.Prelude.{◌≡◌, List, ℕ, true, length}
use Rattle.std.specs.List.{AllByRecursion}
use Rattle.cfg_ast.specs.declared.network.Network.{Network}
use Rattle.cfg_ast.specs.declared.network.Notes.{Notes}
use Rattle.cfg_ast.specs.text.Words.{is_router_name}

abbrev pub IsRouterName : List ℕ → Type 0
IsRouterName name = is_router_name name ≡ true

-- a list of names of routers for each router
pub record AreNotes (network : Network) (notes : Notes) : Type 0 where
  pub total : length notes.members ≡ length network.routers
  pub names : AllByRecursion (AllByRecursion IsRouterName) notes.members
