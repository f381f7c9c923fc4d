-- What a router takes by one of its route maps.
use Rattle.std.specs.Prelude.{ℕ, true, false, List, Option, Some, None}
use Rattle.base_kit.specs.Prefixes.{Prefix}
use Rattle.cfg_ast.specs.declared.network.Router.{Router}
use Rattle.policy_dd.specs.Imports.{AreOneImport}
use Rattle.route_maps.specs.declared.plain.Imported.{Imported}
use Rattle.route_maps.specs.Maps.{import_of}
use Rattle.specialize.specs.OnePrefix.{plain_of}

-- what the router imports of a set of communities by its map of that name, where the neighbour has no map
abbrev pub taken_by : Router → List ℕ → Prefix → List ℕ → Option Imported
taken_by router name p = import_of (plain_of router None None p false) true (plain_of router (Some name) None p true)

-- by both maps it imports every set of communities alike
abbrev pub TakeAlike : Router → List ℕ → List ℕ → Prefix → Type 0
TakeAlike router first second p = AreOneImport (taken_by router first p) (taken_by router second p)
