-- Maps numbered by what they say.
use Rattle.std.specs.Prelude.{◌≡◌, ℕ, ◌+◌, Bool, true, false, List, [], ◌∷◌, ◌++◌, Option, Some, None, map, Contains, if◌then◌else◌}
use Rattle.std.proofs.Common.{Bor}
use Rattle.std.specs.Global.{Vec}
use Rattle.std.specs.HashMap.{HashMap, get}
use Rattle.std.specs.List.{list_any, position_or_len}
use Rattle.std.specs.Option.{option_and_then}
use Rattle.number_hashing.specs.declared.hashing.NumberHashing.{NumberHashing}
use Rattle.route_maps.specs.Same.{same_map}
use Rattle.route_maps.specs.declared.plain.Plain.{Plain}
use Rattle.srp_core.specs.declared.route.Act.{Act}
use Rattle.config_emit.specs.Maps.{closed_map, act_in_map, act_out_map, sends_by, is_whole}
use Rattle.config_emit.specs.MapKeys.{shown, said_of_map, is_map, same_keys}
use Rattle.config_emit.specs.declared.map_keys.EntryKey.{EntryKey}
use Rattle.config_emit.specs.declared.act_maps.ActMaps.{ActMaps}
use Rattle.config_emit.specs.declared.act_maps.Policies.{Policies}

abbrev pub NumbersByKey : Type 0
NumbersByKey = HashMap (Vec EntryKey) ℕ NumberHashing

-- the place of the first item that passes, counted from n
abbrev pub place_from : {X : Type 0} → (X → Bool) → ℕ → List X → Option ℕ
place_from test n [] = None
place_from test n (x ∷ xs) = if test x then Some n else place_from test (n + 1) xs

-- the map says what the key shows
abbrev pub says_key : Vec EntryKey → Plain → Bool
says_key key m = is_map (shown key) (said_of_map m)

-- each key has the place of the first map that says what it shows
pub record AreNumbers (numbers : NumbersByKey) (maps : List Plain) : Type 0 where
  pub each : (key : Vec EntryKey) → get same_keys numbers key ≡ place_from (says_key key) 0 maps

-- the maps with one more, unless one of them is the same
abbrev pub with_map : Plain → List Plain → List Plain
with_map m maps = if list_any (same_map m) maps then maps else maps ++ m ∷ []

abbrev pub place_of_map : List Plain → Plain → ℕ
place_of_map maps m = position_or_len (same_map m) maps

-- the number under which a map is known, none where it is written as no line
abbrev pub map_number : List Plain → Plain → Option ℕ
map_number maps m = if is_whole m.entries then None else Some (place_of_map maps m)

-- a map that is written is the same as a known one
pub record IsKnown (maps : List Plain) (m : Plain) : Type 0 where
  pub known : is_whole m.entries ≡ false → list_any (same_map m) maps ≡ true

pub record IsGrown (old new : List Plain) : Type 0 where
  pub more : List Plain
  pub is : new ≡ old ++ more

-- the maps that an act gives both ends, by their numbers
abbrev pub act_maps : List Plain → Option Act → ActMaps
act_maps maps act = record { into = map_number maps (act_in_map act); out = option_and_then (map_number maps) (act_out_map act); sends = sends_by act }

pub record KnowsAct (maps : List Plain) (act : Act) : Type 0 where
  pub into : IsKnown maps (act_in_map (Some act))
  pub out : (m : Plain) → act_out_map (Some act) ≡ Some m → IsKnown maps m

pub record HasMaps (maps : List Plain) (act : Act) (numbers : ActMaps) : Type 0 where
  pub known : KnowsAct maps act
  pub are : numbers ≡ act_maps maps (Some act)

pub record KnowsClosed (maps : List Plain) (number : ℕ) : Type 0 where
  pub any : list_any (same_map closed_map) maps ≡ true
  pub is : number ≡ place_of_map maps closed_map

abbrev pub maps_now : List (Bor Plain) → List Plain
maps_now maps = map (λ m. m.now) maps

-- the acts' maps are known by their numbers
pub record AreKnown (maps : List Plain) (acts : List Act) (numbers : List ActMaps) : Type 0 where
  pub are : numbers ≡ map (λ act. act_maps maps (Some act)) acts
  pub known : (act : Act) → Contains acts act → KnowsAct maps act

pub record ArePolicies (p : Policies) : Type 0 where
  pub closed : p.closed.now ≡ closed_map
  pub closed_known : KnowsClosed (maps_now p.maps.items) p.closed_number
  pub acts : AreKnown (maps_now p.maps.items) p.acts.now p.numbers.items
