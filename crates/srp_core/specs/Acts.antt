-- What an edge does to a route: the import over a BGP session (RFC 4271 section 9.1), or the cost of an
-- OSPF adjacency (RFC 2328).
use Rattle.std.specs.Prelude.{◌≡◌, ℕ, suc, zero, ◌+◌, ◌<◌, All, List, ◌∷◌, Option, Some, None, nat_lt, option_map, if◌then◌else◌}
use Rattle.base_kit.specs.declared.protocol.Protocol.{Protocol}
use Rattle.base_kit.specs.declared.protocol.Protocol.TheVariants.{Bgp as OverBgp, Ospf as OverOspf}
use Rattle.base_kit.specs.Sets.{IsAscending}
use Rattle.cfg_ast.specs.declared.policy.Change.{Change}
use Rattle.cfg_ast.specs.declared.policy.Change.TheVariants.{Clear, Replace, Append}
use Rattle.route_maps.specs.declared.plain.PlainEntry.{PlainEntry}
use Rattle.route_maps.specs.declared.plain.Imported.{Imported}
use Rattle.route_maps.specs.Maps.{import_of}
use Rattle.srp_core.specs.declared.route.Route.{Route}
use Rattle.srp_core.specs.declared.route.Route.TheVariants.{Bgp, Ospf}
use Rattle.srp_core.specs.declared.route.Act.{Act}
use Rattle.srp_core.specs.declared.route.Act.TheVariants.{Import, Cost}

-- the import of a set of communities; a cost imports none
unfoldable pub import_by : Act → List ℕ → Option Imported
import_by (Import out sends into) comms = import_of out sends into comms
import_by (Cost cost) comms = None

-- equal imports of every set of communities
pub record ImportsAlike (first second : Act) : Type 0 where
  pub same : (comms : List ℕ) → IsAscending comms → import_by first comms ≡ import_by second comms

-- equal imports, or equal costs
abbrev pub ActsAlike : Act → Act → Type 0
ActsAlike (Import out sends into) (Import out' sends' into') = ImportsAlike (Import out sends into) (Import out' sends' into')
ActsAlike (Import out sends into) (Cost cost) = ⊥
ActsAlike (Cost cost) (Import out sends into) = ⊥
ActsAlike (Cost cost) (Cost other) = cost ≡ other

-- a change that puts communities in place of all puts a set there
abbrev pub ChangesToSet : Option Change → Type 0
ChangesToSet None = Unit {0}
ChangesToSet (Some Clear) = Unit {0}
ChangesToSet (Some (Replace by)) = IsAscending by
ChangesToSet (Some (Append more)) = Unit {0}

-- what the map gives for a set of communities is a set
abbrev pub MapsToSets : List PlainEntry → Type 0
MapsToSets entries = All (λ entry. ChangesToSet entry.change) entries

-- both maps give sets
unfoldable pub KeepsSets : Act → Type 0
KeepsSets (Import out sends into) = MapsToSets out.entries × MapsToSets into.entries
KeepsSets (Cost cost) = Unit {0}

-- an act of the protocol: the importer's map puts no numbers before the path, and a cost is at least 1
abbrev pub IsActOf : Protocol → Act → Type 0
IsActOf OverBgp (Import out sends into) = All (λ entry. entry.adds ≡ 0) into.entries
IsActOf OverBgp (Cost cost) = ⊥
IsActOf OverOspf (Import out sends into) = ⊥
IsActOf OverOspf (Cost cost) = 0 < cost

-- the number, so many times, before the path
abbrev pub prepended : ℕ → ℕ → List ℕ → List ℕ
prepended zero number path = path
prepended (suc times) number path = number ∷ prepended times number path

-- the route that arrives: the exporter's number one time more than the count, before the old path
abbrev pub arrived : ℕ → List ℕ → Imported → Route
arrived number path imported = Bgp imported.lp (prepended (suc imported.adds) number path) imported.comms

-- what an act makes of the route of the exporter with that number, before the loop check
unfoldable pub step_by : Act → ℕ → Route → Option Route
step_by (Import out sends into) number (Bgp lp path comms) = option_map (arrived number path) (import_by (Import out sends into) comms)
step_by (Import out sends into) number (Ospf cost) = None
step_by (Cost cost) number (Bgp lp path comms) = None
step_by (Cost cost) number (Ospf other) = if nat_lt 4294967295 (cost + other) then None else Some (Ospf (cost + other))
