-- What a session of a network imports (RFC 4271 section 9.1), as plain maps would give it.
use Rattle.std.specs.Prelude.{ℕ, List, Option, option_map}
use Rattle.base_kit.specs.Prefixes.{Prefix}
use Rattle.cfg_ast.specs.declared.bgp.Neighbor.{Neighbor}
use Rattle.cfg_ast.specs.declared.network.Router.{Router}
use Rattle.cfg_ast.specs.meaning.Policy.{Received, import_of_session}
use Rattle.route_maps.specs.declared.plain.Imported.{Imported}

abbrev pub imported_as : Received → Imported
imported_as received = record { lp = received.lp; comms = received.comms; adds = received.adds }

-- what the importer takes over a session
abbrev pub session_import : Prefix → Router → Neighbor → Router → Neighbor → List ℕ → Option Imported
session_import prefix exporter out importer into comms = option_map imported_as (import_of_session prefix exporter out importer into comms)
