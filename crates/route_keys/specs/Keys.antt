-- Keys by their parts.
use Rattle.std.specs.Prelude.{ℕ, List}
use Rattle.srp_core.specs.declared.route.Route.{Route}
use Rattle.srp_core.specs.Routes.{Key, preference_of, size_of, comms_of}

-- a key by its parts
abbrev pub key : ℕ → ℕ → List ℕ → List ℕ → Key
key preference size comms lone = record { preference = preference; size = size; comms = comms; lone = lone }

-- the key of a route with these lone numbers
abbrev pub key_with : Route → List ℕ → Key
key_with route lone = key (preference_of route) (size_of route) (comms_of route) lone
