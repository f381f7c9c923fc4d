-- Policies of neighbour lines: whatever the prefix, the maps of lines of one policy say the same.
use Rattle.std.specs.Prelude.{◌≡◌, ◌<◌, ◌⊎◌, ℕ, Bool, true, false, List, [], ◌∷◌, ◌++◌, length, Some, is_none, slice_get}
use Rattle.std.specs.List.{list_all}
use Rattle.std.specs.Option.{option_map_or}
use Rattle.base_kit.specs.Prefixes.{Prefix}
use Rattle.cfg_ast.specs.declared.bgp.Neighbor.{Neighbor}
use Rattle.cfg_ast.specs.declared.network.Router.{Router}
use Rattle.cfg_ast.specs.declared.policy.MapEntry.{MapEntry}
use Rattle.cfg_ast.specs.declared.policy.RouteMap.{RouteMap}
use Rattle.cfg_ast.specs.meaning.Policy.{route_map_named}
use Rattle.cfg_ast.specs.meaning.Topology.{neighbors_of}
use Rattle.route_maps.specs.declared.plain.Plain.{Plain}
use Rattle.srp_build.specs.declared.hops.Hop.{Hop}
use Rattle.srp_build.specs.declared.policies.PolicyTable.{PolicyTable}
use Rattle.srp_build.specs.declared.policies.LinePolicies.{LinePolicies}
use Rattle.srp_build.specs.declared.lines.LinePlace.{LinePlace}
use Rattle.srp_build.specs.declared.imports.ImportByPolicies.{ImportByPolicies}
use Rattle.srp_build.specs.Lines.{map_of_line, map_at}
use Rattle.srp_build.specs.Plains.{SayTheSame, IsAsEarlier, import_by_policies}

-- no entry of the map under that name matches prefix lists
abbrev pub names_no_list : Router → List ℕ → Bool
names_no_list router name = option_map_or (λ (map : RouteMap). list_all (λ (entry : MapEntry). is_none entry.prefixes) map.entries)
    (route_map_named router name) true

-- the map of the line is the same for every prefix
abbrev pub IsSameForEachPrefix : Router → Bool → Neighbor → Type 0
IsSameForEachPrefix router inbound line = (p q : Prefix) → map_of_line p router inbound line ≡ map_of_line q router inbound line

-- the map of the line at a place, or the closed one where no line stands there
abbrev pub map_of_place : Prefix → List Router → LinePlace → Plain
map_of_place p routers place = map_at p routers place.inbound place.router place.item

-- The map of the line says the same, for every prefix, as the map at the number-th of some places. The
-- first lines of policies are put at these places.
pub record IsPolicyOf (routers : List Router) (firsts : List LinePlace) (router : Router) (inbound : Bool) (line : Neighbor) (number : ℕ) : Type 0 where
  pub first : LinePlace
  pub at : slice_get firsts number ≡ Some first
  pub same : (p : Prefix) → SayTheSame (map_of_place p routers first) (map_of_line p router inbound line)

-- the number at a place is that of the policy of the line at that place
pub record IsPolicyOfLine (routers : List Router) (router : Router) (inbound : Bool) (firsts : List LinePlace) (lines : List Neighbor) (place number : ℕ) : Type 0
  where
    pub line : Neighbor
    pub at : slice_get lines place ≡ Some line
    pub is : IsPolicyOf routers firsts router inbound line number

abbrev pub ArePoliciesOf : List Router → Router → Bool → List LinePlace → List Neighbor → List ℕ → Type 0
ArePoliciesOf routers router inbound firsts lines numbers = (place number : ℕ) → slice_get numbers place ≡ Some number →
    IsPolicyOfLine routers router inbound firsts lines place number

-- the numbers of the policies of all lines of a router
pub record HasPolicies (routers : List Router) (router : Router) (inbound : Bool) (firsts : List LinePlace) (numbers : List ℕ) : Type 0 where
  pub total : length numbers ≡ length (neighbors_of router)
  pub each : ArePoliciesOf routers router inbound firsts (neighbors_of router) numbers

-- the routers of a table, which are among all routers, have the numbers of their policies, router by router
abbrev pub HavePolicies : List Router → Bool → List LinePlace → List Router → List (List ℕ) → Type 0
HavePolicies all inbound firsts [] [] = Unit {0}
HavePolicies all inbound firsts [] (numbers ∷ table) = ⊥
HavePolicies all inbound firsts (router ∷ routers) [] = ⊥
HavePolicies all inbound firsts (router ∷ routers) (numbers ∷ table) = HasPolicies all router inbound firsts numbers × HavePolicies all inbound firsts routers table

-- Each line, outbound and inbound, has a number: for every prefix its map says the same as the map at the
-- place with that number. Policies may be alike.
pub record AreLinePolicies (routers : List Router) (policies : LinePolicies) : Type 0 where
  pub outs : HavePolicies routers false policies.firsts.items routers policies.outs
  pub ins : HavePolicies routers true policies.firsts.items routers policies.ins

-- a neighbour line stands at the place of the router at a place
pub record HasLine (routers : List Router) (place item : ℕ) : Type 0 where
  pub router : Router
  pub at : slice_get routers place ≡ Some router
  pub inside : item < length (neighbors_of router)

-- the direction leads from a neighbour line to a neighbour line
pub record JoinsLines (routers : List Router) (hop : Hop) : Type 0 where
  pub exporter : HasLine routers hop.exporter hop.exporter_item
  pub importer : HasLine routers hop.importer hop.importer_item

-- the imports are those of the directions, by the numbers of the policies of their lines
pub record AreImportsOf (routers : List Router) (policies : LinePolicies) (hops : List Hop) (imports : List ImportByPolicies) : Type 0 where
  pub total : length imports ≡ length hops
  pub each : (place : ℕ) (hop : Hop) (import : ImportByPolicies) → slice_get hops place ≡ Some hop → slice_get imports place ≡ Some import →
      import_by_policies routers policies.outs policies.ins hop ≡ Some import

-- ---- how policies are numbered

-- the map is that of the line at the place for every prefix
abbrev pub IsAlwaysAt : List Router → LinePlace → Plain → Type 0
IsAlwaysAt routers place plain = (p : Prefix) → map_of_place p routers place ≡ plain

-- the map says the same as that of the policy's first line for every prefix
pub record IsAlwaysOf (routers : List Router) (firsts : List LinePlace) (number : ℕ) (plain : Plain) : Type 0 where
  pub first : LinePlace
  pub at : slice_get firsts number ≡ Some first
  pub same : (p : Prefix) → SayTheSame (map_of_place p routers first) plain

-- each map stands beside its policy, which has it for every prefix
pub record AreFixedPolicies (routers : List Router) (table : PolicyTable) : Type 0 where
  pub total : length table.policies.items ≡ length table.fixed.maps.items
  pub each : (place number : ℕ) (plain : Plain) → slice_get table.policies.items place ≡ Some number → slice_get table.fixed.maps.items place ≡ Some plain →
      IsAlwaysOf routers table.firsts.items number plain

-- the line stands at the place
pub record IsLineAt (routers : List Router) (place : LinePlace) (router : Router) (line : Neighbor) : Type 0 where
  pub at : slice_get routers place.router ≡ Some router
  pub line_at : slice_get (neighbors_of router) place.item ≡ Some line

-- policies keep their numbers and their first lines
abbrev pub PoliciesKept : List LinePlace → List LinePlace → Type 0
PoliciesKept old new = (number : ℕ) (first : LinePlace) → slice_get old number ≡ Some first → slice_get new number ≡ Some first

-- a policy came last, with the next number and its first line at the place; the maps and their policies stay
pub record IsNewPolicy (old new : PolicyTable) (first : LinePlace) (number : ℕ) : Type 0 where
  pub next : number ≡ length old.firsts.items
  pub last : new.firsts.items ≡ old.firsts.items ++ first ∷ []
  pub maps : new.fixed.maps.items ≡ old.fixed.maps.items
  pub policies : new.policies.items ≡ old.policies.items

-- policies stay; if the line at the place has the map for every prefix, the table stays right, and the number
-- is that of a policy that has it
pub record IsFixedPolicy (old new : PolicyTable) (first : LinePlace) (plain : Plain) (number : ℕ) : Type 0 where
  pub kept : PoliciesKept old.firsts.items new.firsts.items
  pub fixed : (routers : List Router) → IsAlwaysAt routers first plain → AreFixedPolicies routers old → AreFixedPolicies routers new
  pub is : (routers : List Router) → IsAlwaysAt routers first plain → AreFixedPolicies routers old → IsAlwaysOf routers new.firsts.items number plain

-- policies stay; if the line stands at the place, the table stays right, and the number is that of a policy of
-- the line
pub record IsPolicyNumber (old new : PolicyTable) (place : LinePlace) (router : Router) (line : Neighbor) (number : ℕ) : Type 0 where
  pub kept : PoliciesKept old.firsts.items new.firsts.items
  pub fixed : (routers : List Router) → IsLineAt routers place router line → AreFixedPolicies routers old → AreFixedPolicies routers new
  pub is : (routers : List Router) → IsLineAt routers place router line → AreFixedPolicies routers old →
      IsPolicyOf routers new.firsts.items router place.inbound line number

-- an earlier line has the number and names the same map and list, or the line was numbered
abbrev pub IsSeenOrNumbered : PolicyTable → PolicyTable → LinePlace → Router → List ℕ → Neighbor → ℕ → Type 0
IsSeenOrNumbered old new place router numbers line number = ((new ≡ old) × IsAsEarlier place.inbound (neighbors_of router) numbers line number)
    ⊎ IsPolicyNumber old new place router line number
