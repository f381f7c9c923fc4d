-- What the sessions of the network of the groups import.
use Rattle.std.specs.Prelude.{◌≡◌, ℕ, true, List, Option, Some, None, Contains}
use Rattle.base_kit.specs.Prefixes.{Prefix}
use Rattle.base_kit.specs.declared.protocol.Protocol.TheVariants.{Bgp as OverBgp}
use Rattle.abstract_net.specs.declared.qlink.QLink.{QLink}
use Rattle.route_maps.specs.Sessions.{session_import}
use Rattle.route_maps.specs.declared.plain.Imported.{Imported}
use Rattle.srp_core.specs.Acts.{import_by}
use Rattle.srp_core.specs.declared.route.Act.{Act}
use Rattle.srp_quotient.specs.Groups.{touches}
use Rattle.config_emit.specs.Emitted.{emitted_router, neighbor_at}
use Rattle.config_emit.specs.Laws.{IsPlan}
use Rattle.config_emit.specs.Maps.{other_end}
use Rattle.config_emit.specs.Plan.{Plan, act_into}

-- what the act imports; nothing where there is none
abbrev pub imported_by : Option Act → List ℕ → Option Imported
imported_by None comms = None
imported_by (Some act) comms = import_by act comms

-- A session of the network of the groups imports, at an end of its link, what the act imports that the
-- link carries into that end. If the link carries no act there, the session imports nothing.
abbrev pub SessionsImportActs : Type 0
SessionsImportActs = (e : Plan) → IsPlan e → e.problem.protocol ≡ OverBgp → (p : Prefix) (g t : ℕ) (l : QLink) → Contains e.links l → touches g l ≡ true →
    (comms : List ℕ)
    → session_import p (emitted_router e (other_end g l)) (neighbor_at e (other_end g l) (t, l)) (emitted_router e g) (neighbor_at e g (t, l))
    comms ≡ imported_by (act_into e g l) comms
