-- The plain maps of both ends of a session, and what they import together.
use Rattle.std.specs.Prelude.{◌≡◌, ℕ, true, false, All, List}
use Rattle.base_kit.specs.Prefixes.{Prefix}
use Rattle.cfg_ast.specs.meaning.Policy.{name_of}
use Rattle.cfg_ast.specs.declared.bgp.Neighbor.{Neighbor}
use Rattle.cfg_ast.specs.declared.network.Router.{Router}
use Rattle.route_maps.specs.Maps.{import_of}
use Rattle.route_maps.specs.Sessions.{session_import}
use Rattle.route_maps.specs.declared.plain.Plain.{Plain}
use Rattle.route_maps.specs.declared.plain.PlainEntry.{PlainEntry}
use Rattle.specialize.specs.OnePrefix.{plain_of}

-- what the exporter's lists and maps mean for the prefix
abbrev pub out_map : Prefix → Router → Neighbor → Plain
out_map p exporter line = plain_of exporter (name_of line.map_out) (name_of line.list_out) p false

-- what the importer's mean
abbrev pub in_map : Prefix → Router → Neighbor → Plain
in_map p importer line = plain_of importer (name_of line.map_in) (name_of line.list_in) p true

-- the map puts no AS numbers before a path
abbrev pub AddsNothing : Plain → Type 0
AddsNothing plain = All (λ (entry : PlainEntry). entry.adds ≡ 0) plain.entries

-- the maps import every set of communities as the session does
abbrev pub ImportAsSession : Prefix → Router → Neighbor → Router → Neighbor → Type 0
ImportAsSession p exporter out importer into =
    (comms : List ℕ) → import_of (out_map p exporter out) out.sends (in_map p importer into) comms ≡ session_import p exporter out importer into comms
