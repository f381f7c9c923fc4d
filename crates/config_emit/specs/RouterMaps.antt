-- The maps of a router in the order of their first use.
use Rattle.std.specs.Prelude.{◌≡◌, ℕ, ◌+◌, Bool, List, [], ◌∷◌, ◌++◌, Option, Some, None, length, nat_eq, if◌then◌else◌}
use Rattle.std.specs.HashMap.{HashMap, get}
use Rattle.std.specs.List.{list_any}
use Rattle.std.specs.Option.{option_map, unwrap_or}
use Rattle.std.specs.declared.hash.FoldHasher.{FoldHasher}
use Rattle.std.specs.declared.hash.BuildHasherDefault.{BuildHasherDefault}
use Rattle.cfg_ast.specs.declared.network.Named.{Named}
use Rattle.route_maps.specs.declared.plain.Plain.{Plain}
use Rattle.srp_core.specs.declared.route.Act.{Act}
use Rattle.config_emit.specs.ActLinks.{act_to}
use Rattle.config_emit.specs.LinkSteps.{act_by}
use Rattle.config_emit.specs.MapNumbers.{place_from, place_of_map, act_maps}
use Rattle.config_emit.specs.Maps.{act_in_map, act_out_map, map_name, named}
use Rattle.config_emit.specs.declared.act_links.ActLink.{ActLink}
use Rattle.config_emit.specs.declared.router_maps.MapUse.{MapUse}

abbrev pub use_now : MapUse → ℕ × Plain
use_now u = (u.number, u.plain.now)

abbrev pub is_use_of : ℕ → ℕ × Plain → Bool
is_use_of n u = nat_eq u.0 n

-- a use put last, unless its number was used
abbrev pub with_use : ℕ × Plain → List (ℕ × Plain) → List (ℕ × Plain)
with_use u uses = if list_any (is_use_of u.0) uses then uses else uses ++ u ∷ []

abbrev pub with_uses : List (ℕ × Plain) → List (ℕ × Plain) → List (ℕ × Plain)
with_uses [] uses = uses
with_uses (u ∷ more) uses = with_uses more (with_use u uses)

-- a use of a map, if one is written
abbrev pub listed_use : Option ℕ → Option Plain → List (ℕ × Plain)
listed_use None plain = []
listed_use (Some n) None = []
listed_use (Some n) (Some m) = (n, m) ∷ []

-- the other end of a link
abbrev pub far_end : ℕ → ActLink → ℕ
far_end g x = if nat_eq x.low g then x.high else x.low

abbrev pub act_into_end : List Act → ℕ → ActLink → Option Act
act_into_end acts g x = option_map (act_by acts) (act_to g x)

-- the uses at a link of g: its in map, then its out map
abbrev pub uses_on : List Plain → List Act → ℕ → ActLink → List (ℕ × Plain)
uses_on known acts g x =
    listed_use (act_maps known (act_into_end acts g x)).into (Some (act_in_map (act_into_end acts g x)))
    ++ listed_use (act_maps known (act_into_end acts (far_end g x) x)).out (act_out_map (act_into_end acts (far_end g x) x))

abbrev pub PlacesByNumber : Type 0
PlacesByNumber = HashMap ℕ ℕ (BuildHasherDefault FoldHasher)

-- each number has the place of its use, from 1
pub record AreUses (places : PlacesByNumber) (uses : List (ℕ × Plain)) : Type 0 where
  pub each : (n : ℕ) → get nat_eq places n ≡ place_from (is_use_of n) 1 uses

-- the place at which a number is used, from 1
abbrev pub use_place : List (ℕ × Plain) → ℕ → ℕ
use_place uses n = unwrap_or (place_from (is_use_of n) 1 uses) (length uses + 1)

abbrev pub use_name : List (ℕ × Plain) → ℕ → Named
use_name uses n = named (map_name (use_place uses n))

-- a map under its number among the known ones
abbrev pub use_of : List Plain → Plain → ℕ × Plain
use_of known m = (place_of_map known m, m)
