-- Whether a label holds a community, as a test.
use Rattle.std.specs.Prelude.{ℕ, Bool, true, not, Option, Some, None}
use Rattle.base_kit.specs.Sets.{has}
use Rattle.srp_core.specs.declared.route.Route.{Route}
use Rattle.srp_core.specs.Routes.{comms_of}

-- a label that is there holds it
abbrev pub holds_community : ℕ → Option Route → Bool
holds_community community None = true
holds_community community (Some route) = has (comms_of route) community

-- no label that is there holds it
abbrev pub lacks_community : ℕ → Option Route → Bool
lacks_community community None = true
lacks_community community (Some route) = not (has (comms_of route) community)
