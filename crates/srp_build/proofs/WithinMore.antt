-- Maps that name only communities of a set also name only communities of every larger set.
use Rattle.std.proofs.Common.{◌≡◌, ℕ, Bool, true, false, ◌||◌, nat_eq, List, [], ◌∷◌, Option, Some, None, refl, sym, subst, arith}
use Rattle.std.specs.Prelude.{Contains, IfSome, slice_get}
use Rattle.std.specs.Option.{option_map_or}
use Rattle.std.specs.List.{AllByRecursion}
use Rattle.std.proofs.lemmas.Bool.Decides.{nat_tests}
use Rattle.base_kit.specs.Prefixes.{Prefix}
use Rattle.base_kit.specs.Sets.{has}
use Rattle.base_kit.proofs.Elements.{contains_in, get_in}
use Rattle.cfg_ast.specs.declared.network.Network.{Network}
use Rattle.cfg_ast.specs.declared.network.Router.{Router}
use Rattle.cfg_ast.specs.declared.bgp.Neighbor.{Neighbor}
use Rattle.cfg_ast.specs.declared.policy.Change.{Change}
use Rattle.cfg_ast.specs.declared.policy.Change.TheVariants.{Clear, Replace, Append}
use Rattle.cfg_ast.specs.declared.policy.CommunityList.{CommunityList}
use Rattle.cfg_ast.specs.meaning.PolicyFaults.{communities_of}
use Rattle.cfg_ast.specs.meaning.Topology.{neighbors_of}
use Rattle.route_maps.specs.declared.plain.Plain.{Plain}
use Rattle.route_maps.specs.declared.plain.PlainEntry.{PlainEntry}
use Rattle.route_maps.specs.Within.{AreWithin, IsLineWithin, IsListWithin, AreListsWithin, IsChangeWithin, IsEntryWithin, IsMapWithin}
use Rattle.specialize.specs.OnePrefix.{plain_of}
use Rattle.srp_build.specs.LineMaps.{LineMaps, AreLineMaps}
use Rattle.srp_build.specs.Lines.{map_of_line, deny_all, map_at}
use Rattle.srp_build.specs.MetImports.{AreMapsWithin}

each_as : {X : Type 0} (P Q : X → Type 0) → ((x : X) → P x → Q x) → (xs : List X) → AllByRecursion P xs → AllByRecursion Q xs
each_as P Q more [] all = tt
each_as P Q more (x ∷ xs) all = (more x all.0, each_as P Q more xs all.1)

some_as : {X : Type 0} (P Q : X → Type 0) → ((x : X) → P x → Q x) → (o : Option X) → IfSome o P → IfSome o Q
some_as P Q more None is = tt
some_as P Q more (Some x) is = more x is

found_step : (more : List ℕ) (x c : ℕ) (rest b : Bool) → nat_eq x c ≡ b → has more x ≡ true → (rest ≡ true → has more c ≡ true) → b || rest ≡ true →
    has more c ≡ true
found_step more x c rest true e here later found = subst (λ (y : ℕ). has more y ≡ true) (let same : x ≡ c = grind (arith, nat_tests) in same) here
found_step more x c rest false e here later found = later found

more_has : (set more : List ℕ) → AreWithin more set → (c : ℕ) → has set c ≡ true → has more c ≡ true
more_has [] more within c found = absurd cc
more_has (x ∷ set) more within c found = found_step more x c (has set c) (nat_eq x c) refl within.0 (more_has set more within.1 c) found

module _ (set more : List ℕ) (within : AreWithin more set) where
  comms_within : (comms : List ℕ) → AreWithin set comms → AreWithin more comms
  comms_within comms are = each_as (λ c. has set c ≡ true) (λ c. has more c ≡ true) (more_has set more within) comms are

  list_within : (list : CommunityList) → IsListWithin set list → IsListWithin more list
  list_within list is = each_as (IsLineWithin set) (IsLineWithin more) (λ line. comms_within line.comms) list.lines is

  lists_within : (lists : List CommunityList) → AreListsWithin set lists → AreListsWithin more lists
  lists_within lists are = each_as (IsListWithin set) (IsListWithin more) list_within lists are

  change_within : (change : Change) → IsChangeWithin set change → IsChangeWithin more change
  change_within Clear is = is
  change_within (Replace by) is = comms_within by is
  change_within (Append comms) is = comms_within comms is

  entry_within : (entry : PlainEntry) → IsEntryWithin set entry → IsEntryWithin more entry
  entry_within entry is = record {
    lists = some_as (AreListsWithin set) (AreListsWithin more) lists_within entry.lists is.lists;
    change = some_as (IsChangeWithin set) (IsChangeWithin more) change_within entry.change is.change;
    delete = some_as (IsListWithin set) (IsListWithin more) list_within entry.delete is.delete;
  }

  pub map_within : (map : Plain) → IsMapWithin set map → IsMapWithin more map
  map_within map is = each_as (IsEntryWithin set) (IsEntryWithin more) entry_within map.entries is

-- the plain maps of a network's routers stay within its communities
abbrev pub MapsStayWithin : Type 0
MapsStayWithin = (network : Network) (router : Router) → Contains network.routers router → (name list : Option (List ℕ)) (p : Prefix) (inbound : Bool) →
    IsMapWithin (communities_of network) (plain_of router name list p inbound)

line_within : MapsStayWithin → (n : Network) (p : Prefix) (router : Router) → Contains n.routers router → (inbound : Bool) (line : Neighbor) →
    IsMapWithin (communities_of n) (map_of_line p router inbound line)
line_within stay n p router has true line = stay n router has _ _ p true
line_within stay n p router has false line = stay n router has _ _ p false

closed_within : (set : List ℕ) → IsMapWithin set deny_all
closed_within set = tt

place_within : MapsStayWithin → (n : Network) (p : Prefix) (inbound : Bool) (router item : ℕ) →
    IsMapWithin (communities_of n) (map_at p n.routers inbound router item)
place_within stay n p inbound router item = by_router (slice_get n.routers router) refl
  where
    by_line : (r : Router) → Contains n.routers r → (o : Option Neighbor) → IsMapWithin (communities_of n) (option_map_or (map_of_line p r inbound) o deny_all)
    by_line r has None = closed_within (communities_of n)
    by_line r has (Some line) = line_within stay n p r has inbound line

    by_router : (o : Option Router) → slice_get n.routers router ≡ o →
        IsMapWithin (communities_of n) (option_map_or (λ (r : Router). option_map_or (map_of_line p r inbound) (slice_get (neighbors_of r) item) deny_all) o
        deny_all)
    by_router None none = closed_within (communities_of n)
    by_router (Some r) some = by_line r (contains_in n.routers r (get_in n.routers router r some)) (slice_get (neighbors_of r) item)

pub maps_within : MapsStayWithin → (n : Network) (p : Prefix) (universe : List ℕ) (maps : LineMaps) → AreWithin universe (communities_of n) →
    AreLineMaps p n.routers maps → AreMapsWithin universe maps.maps
maps_within stay n p universe maps known are number map at =
    let made = are.made number map at in
    map_within (communities_of n) universe known map
    (subst (IsMapWithin (communities_of n)) (sym made.is) (place_within stay n p made.inbound made.router made.item))
