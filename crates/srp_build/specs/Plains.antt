-- Plain maps by numbers: maps that say the same may have one number.
use Rattle.std.specs.Prelude.{◌≡◌, ◌⊎◌, ℕ, Bool, List, [], ◌∷◌, ◌++◌, length, Option, Some, slice_get, slice_index_or}
use Rattle.std.specs.Option.{option_map, option_and_then}
use Rattle.base_kit.specs.Prefixes.{Prefix}
use Rattle.cfg_ast.specs.declared.bgp.Neighbor.{Neighbor}
use Rattle.cfg_ast.specs.declared.network.Router.{Router}
use Rattle.cfg_ast.specs.meaning.Policy.{name_of}
use Rattle.cfg_ast.specs.meaning.Topology.{neighbors_of}
use Rattle.route_maps.specs.declared.plain.Plain.{Plain}
use Rattle.route_maps.specs.declared.plain.Imported.{Imported}
use Rattle.route_maps.specs.Maps.{verdict, import_of}
use Rattle.srp_build.specs.declared.hops.Hop.{Hop}
use Rattle.srp_build.specs.declared.imports.ImportByPolicies.{ImportByPolicies}
use Rattle.srp_build.specs.declared.imports.ImportByMaps.{ImportByMaps}
use Rattle.srp_build.specs.Lines.{map_named, list_named, map_of_line, deny_all, map_at, sends_at}

-- the maps have one verdict on every set of communities
pub record SayTheSame (a b : Plain) : Type 0 where
  pub verdicts : (comms : List ℕ) → verdict a.entries comms ≡ verdict b.entries comms

-- the map with the number says the same as this one
pub record IsNumberOf (maps : List Plain) (number : ℕ) (map : Plain) : Type 0 where
  pub other : Plain
  pub at : slice_get maps number ≡ Some other
  pub same : SayTheSame other map

-- nothing was put last, or the item was, with the number of its place
abbrev pub IsGrownBy : {X : Type 0} → List X → List X → X → ℕ → Type 0
IsGrownBy old new x number = (new ≡ old) ⊎ ((new ≡ old ++ x ∷ []) × (number ≡ length old))

-- the map of the line at a place of a router, or the closed one where no line stands there
pub record IsMapOfPlace (p : Prefix) (routers : List Router) (map : Plain) : Type 0 where
  pub inbound : Bool
  pub router : ℕ
  pub item : ℕ
  pub is : map ≡ map_at p routers inbound router item

-- an earlier line names the same map and the same list, and the number is its number
pub record IsAsEarlier (inbound : Bool) (lines : List Neighbor) (numbers : List ℕ) (line : Neighbor) (number : ℕ) : Type 0 where
  pub place : ℕ
  pub other : Neighbor
  pub at : slice_get lines place ≡ Some other
  pub numbered : slice_get numbers place ≡ Some number
  pub map : name_of (map_named inbound other) ≡ name_of (map_named inbound line)
  pub list : name_of (list_named inbound other) ≡ name_of (list_named inbound line)

-- the number at a place is that of the map of the line at that place
pub record IsNumberOfLine (p : Prefix) (router : Router) (inbound : Bool) (maps : List Plain) (lines : List Neighbor) (place number : ℕ) : Type 0 where
  pub line : Neighbor
  pub at : slice_get lines place ≡ Some line
  pub is : IsNumberOf maps number (map_of_line p router inbound line)

abbrev pub AreNumbersOfLines : Prefix → Router → Bool → List Plain → List Neighbor → List ℕ → Type 0
AreNumbersOfLines p router inbound maps lines numbers = (place number : ℕ) → slice_get numbers place ≡ Some number →
    IsNumberOfLine p router inbound maps lines place number

-- the numbers of the maps of all lines of a router
pub record HasMapNumbers (p : Prefix) (router : Router) (inbound : Bool) (maps : List Plain) (numbers : List ℕ) : Type 0 where
  pub total : length numbers ≡ length (neighbors_of router)
  pub each : AreNumbersOfLines p router inbound maps (neighbors_of router) numbers

-- the routers of a table have their numbers, router by router
abbrev pub HaveNumbers : Prefix → Bool → List Plain → List Router → List (List ℕ) → Type 0
HaveNumbers p inbound maps [] [] = Unit {0}
HaveNumbers p inbound maps [] (numbers ∷ table) = ⊥
HaveNumbers p inbound maps (router ∷ routers) [] = ⊥
HaveNumbers p inbound maps (router ∷ routers) (numbers ∷ table) = HasMapNumbers p router inbound maps numbers × HaveNumbers p inbound maps routers table

-- the number at a place of a router
abbrev pub number_at : List (List ℕ) → ℕ → ℕ → Option ℕ
number_at table router item = option_and_then (λ (numbers : List ℕ). slice_get numbers item) (slice_get table router)

-- the numbers of the policies of the lines at both ends of a direction, and whether communities are sent
abbrev pub import_by_policies : List Router → List (List ℕ) → List (List ℕ) → Hop → Option ImportByPolicies
import_by_policies routers outs ins hop = option_and_then (λ (out : ℕ).
    option_map (λ (into : ℕ). record { out = out; sends = sends_at routers hop.exporter hop.exporter_item; into = into })
    (number_at ins hop.importer hop.importer_item)) (number_at outs hop.exporter hop.exporter_item)

-- the map with a number
abbrev pub map_numbered : List Plain → ℕ → Plain
map_numbered maps number = slice_index_or maps number deny_all

-- what is imported over numbered maps
abbrev pub import_over : List Plain → ImportByMaps → List ℕ → Option Imported
import_over maps import = import_of (map_numbered maps import.out) import.sends (map_numbered maps import.into)
