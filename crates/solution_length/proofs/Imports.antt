-- What a session of a network imports: at most ten more AS numbers, and only communities that the
-- network names, if this holds of the communities that are sent.
use Rattle.std.proofs.Common.{◌≡◌, ◌≤◌, ℕ, Bool, true, false, cond, not, ◌||◌, List, [], ◌∷◌, map, filter, refl, ap, ◌∙◌, subst, arith, Option, Some, None}
use Rattle.std.specs.Prelude.{nat_eq, nat_lt, IfSome, bytes_eq, flat_map, Contains, ◌==◌}
use Rattle.std.specs.List.{AllByRecursion}
use Rattle.std.specs.Option.{option_map, option_and_then}
use Rattle.base_kit.proofs.Elements.{In, in_contains, in_map, in_right, in_flat_map, contains_in}
use Rattle.base_kit.proofs.SetFacts.{same_number, has-with_numbers}
use Rattle.base_kit.specs.Prefixes.{Prefix}
use Rattle.base_kit.specs.Sets.{has, with_number, with_numbers}
use Rattle.cfg_ast.specs.declared.bgp.Neighbor.{Neighbor}
use Rattle.cfg_ast.specs.declared.network.Network.{Network}
use Rattle.cfg_ast.specs.declared.network.Router.{Router}
use Rattle.cfg_ast.specs.declared.policy.Change.{Change}
use Rattle.cfg_ast.specs.declared.policy.Change.TheVariants.{Clear, Replace, Append}
use Rattle.cfg_ast.specs.declared.policy.CommunityList.{CommunityList}
use Rattle.cfg_ast.specs.declared.policy.MapEntry.{MapEntry}
use Rattle.cfg_ast.specs.declared.policy.Mention.{Mention}
use Rattle.cfg_ast.specs.declared.policy.Prepend.{Prepend}
use Rattle.cfg_ast.specs.declared.policy.RouteMap.{RouteMap}
use Rattle.cfg_ast.specs.meaning.Lists.{community_list_permits}
use Rattle.cfg_ast.specs.meaning.Policy.{Permitted, Received, route_map_named, map_entry_holds, without_deleted_by, after_change, deletion_list, comms_set, prepend_count, permitted_as_is, permitted_by_entry, verdict_of, passes_list, passed_by_map, passed_by, name_of, received_as, received_by, import_of_session}
use Rattle.cfg_ast.specs.meaning.PolicyFaults.{mention_at, changed_by, mentions_in, mentions_in_list, mentions_in_map, mentions_of, mentions, community_of, communities_of}
use Rattle.cfg_ast.specs.printing.WellFormed.{IsWellFormedMapEntry, IsWellFormedPrepend, IsWellFormedRouteMap, IsWellFormedRouter}
use Rattle.route_maps.specs.Within.{AreWithin, IsChangeWithin}
use Rattle.specialize.proofs.Found.{found_holds, each_contained, any_contained, contained_holds}

-- communities of the set, and at most ten AS numbers
pub record IsFew (set sent : List ℕ) (count : ℕ) : Type 0 where
  pub comms : AreWithin set sent
  pub adds : count ≤ 10

abbrev IsFewPermitted : List ℕ → Permitted → Type 0
IsFewPermitted set permitted = IsFew set permitted.comms permitted.adds

abbrev pub IsFewReceived : List ℕ → Received → Type 0
IsFewReceived set received = IsFew set received.comms received.adds

-- an entry that prepends at most ten numbers, and changes to communities of the set
pub record IsFewEntry (set : List ℕ) (entry : MapEntry) : Type 0 where
  pub prepend : IfSome entry.prepend IsWellFormedPrepend
  pub change : IfSome entry.change (IsChangeWithin set)

abbrev pub IsFewMap : List ℕ → RouteMap → Type 0
IsFewMap set m = AllByRecursion (IsFewEntry set) m.entries

abbrev pub HasFewMaps : List ℕ → Router → Type 0
HasFewMaps set router = AllByRecursion (IsFewMap set) router.route_maps

same_some : {X : Type 0} (x y : X) → Some x ≡ Some y → x ≡ y
same_some x y e = cc

-- ---- sets

filtered : (set : List ℕ) (p : ℕ → Bool) (comms : List ℕ) → AreWithin set comms → AreWithin set (filter p comms)
filtered set p [] each = tt
filtered set p (c ∷ comms) each = step (p c) (filtered set p comms each.1)
  where
    step : (b : Bool) → AreWithin set (filter p comms) → AreWithin set (cond b (c ∷ filter p comms) (filter p comms))
    step true more = (each.0, more)
    step false more = more

with_one : (set : List ℕ) (n : ℕ) (comms : List ℕ) → has set n ≡ true → AreWithin set comms → AreWithin set (with_number n comms)
with_one set n [] there each = (there, tt)
with_one set n (c ∷ comms) there each = step (nat_lt n c) (n == c) (with_one set n comms there each.1)
  where
    step : (a b : Bool) → AreWithin set (with_number n comms) → AreWithin set (cond a (n ∷ c ∷ comms) (cond b (c ∷ comms) (c ∷ with_number n comms)))
    step true b more = (there, each)
    step false true more = each
    step false false more = (each.0, more)

with_more : (set ns comms : List ℕ) → AreWithin set ns → AreWithin set comms → AreWithin set (with_numbers ns comms)
with_more set [] comms there each = each
with_more set (n ∷ ns) comms there each = with_more set ns (with_number n comms) there.1 (with_one set n comms there.0 each)

without_deleted : (set : List ℕ) (list : Option CommunityList) (comms : List ℕ) → AreWithin set comms → AreWithin set (without_deleted_by list comms)
without_deleted set None comms each = each
without_deleted set (Some list) comms each = filtered set (λ c. not (community_list_permits list (c ∷ []))) comms each

changed : (set : List ℕ) (change : Option Change) (comms : List ℕ) → IfSome change (IsChangeWithin set) → AreWithin set comms
    → AreWithin set (after_change change comms)
changed set None comms is each = each
changed set (Some Clear) comms is each = tt
changed set (Some (Replace by)) comms is each = is
changed set (Some (Append more)) comms is each = with_more set more comms is each

few_numbers : (prepend : Option Prepend) → IfSome prepend IsWellFormedPrepend → prepend_count prepend ≤ 10
few_numbers None is = omega arith
few_numbers (Some line) is = is.count.1

-- ---- maps

module _ (set : List ℕ) where
  entry_few : (router : Router) (entry : MapEntry) (comms : List ℕ) (permitted : Permitted) → IsFewEntry set entry → AreWithin set comms
      → permitted_by_entry router comms entry ≡ Some permitted → IsFewPermitted set permitted
  entry_few router entry comms permitted is each = step entry.permit
    where
      made : Permitted
      made = record { lp = entry.lp; comms = comms_set router entry comms; adds = prepend_count entry.prepend }

      made_few : IsFewPermitted set made
      made_few = record {
        comms = changed set entry.change (without_deleted_by (deletion_list router entry.delete) comms) is.change
            (without_deleted set (deletion_list router entry.delete) comms each);
        adds = few_numbers entry.prepend is.prepend;
      }

      step : (b : Bool) → cond b (Some made) None ≡ Some permitted → IsFewPermitted set permitted
      step true e = subst (IsFewPermitted set) (same_some made permitted e) made_few
      step false e = cc

  verdict_few : (router : Router) (p : Prefix) (entries : List MapEntry) (comms : List ℕ) (permitted : Permitted) → AllByRecursion (IsFewEntry set) entries
      → AreWithin set comms → verdict_of router p entries comms ≡ Some permitted → IsFewPermitted set permitted
  verdict_few router p [] comms permitted are each e = cc
  verdict_few router p (entry ∷ entries) comms permitted are each e =
      step (map_entry_holds router p comms entry) (verdict_few router p entries comms permitted are.1 each) e
    where
      step : (b : Bool) → (verdict_of router p entries comms ≡ Some permitted → IsFewPermitted set permitted)
          → cond b (permitted_by_entry router comms entry) (verdict_of router p entries comms) ≡ Some permitted → IsFewPermitted set permitted
      step true more e = entry_few router entry comms permitted are.0 each e
      step false more e = more e

  named_map : (router : Router) (p : Prefix) (comms : List ℕ) (permitted : Permitted) (m : Option RouteMap) → IfSome m (IsFewMap set) → AreWithin set comms
      → option_and_then (λ (x : RouteMap). verdict_of router p x.entries comms) m ≡ Some permitted → IsFewPermitted set permitted
  named_map router p comms permitted None is each e = cc
  named_map router p comms permitted (Some m) is each e = verdict_few router p m.entries comms permitted is each e

  map_few : (router : Router) (p : Prefix) (name : Option (List ℕ)) (comms : List ℕ) (permitted : Permitted) → HasFewMaps set router → AreWithin set comms
      → passed_by_map router p name comms ≡ Some permitted → IsFewPermitted set permitted
  map_few router p None comms permitted is each e =
      subst (IsFewPermitted set) (same_some (permitted_as_is comms) permitted e) (record { comms = each; adds = omega arith })
  map_few router p (Some name) comms permitted is each e =
      named_map router p comms permitted (route_map_named router name)
      (found_holds (IsFewMap set) (λ (m : RouteMap). bytes_eq m.name name) router.route_maps is) each e

  passed_few : (router : Router) (p : Prefix) (list map : Option (List ℕ)) (comms : List ℕ) (permitted : Permitted) → HasFewMaps set router
      → AreWithin set comms → passed_by router p list map comms ≡ Some permitted → IsFewPermitted set permitted
  passed_few router p list map comms permitted is each e = step (passes_list router p list) e
    where
      step : (b : Bool) → cond b (passed_by_map router p map comms) None ≡ Some permitted → IsFewPermitted set permitted
      step true e = map_few router p map comms permitted is each e
      step false e = cc

  -- ---- sessions

  taken_few : (importer : Router) (adds : ℕ) (taken : Option Permitted) (received : Received) → adds ≤ 10
      → ((permitted : Permitted) → taken ≡ Some permitted → IsFewPermitted set permitted)
      → option_map (received_as importer adds) taken ≡ Some received → IsFewReceived set received
  taken_few importer adds None received few is e = cc
  taken_few importer adds (Some permitted) received few is e =
      let inside = is permitted refl in
      subst (IsFewReceived set) (same_some (received_as importer adds permitted) received e) (record { comms = inside.comms; adds = few })

  sent_comms : (sends : Bool) (comms : List ℕ) → AreWithin set comms → AreWithin set (cond sends comms [])
  sent_comms true comms each = each
  sent_comms false comms each = tt

  sent_few : (p : Prefix) (out into : Neighbor) (importer : Router) (sent : Option Permitted) (received : Received) → HasFewMaps set importer
      → ((permitted : Permitted) → sent ≡ Some permitted → IsFewPermitted set permitted)
      → option_and_then (received_by importer into p out.sends) sent ≡ Some received → IsFewReceived set received
  sent_few p out into importer None received is few e = cc
  sent_few p out into importer (Some sent) received is few e =
      let comms = cond out.sends sent.comms [] in
      let inside = few sent refl in
      taken_few importer sent.adds (passed_by importer p (name_of into.list_in) (name_of into.map_in) comms) received inside.adds
      (λ permitted taken. passed_few importer p (name_of into.list_in) (name_of into.map_in) comms permitted is
      (sent_comms out.sends sent.comms inside.comms) taken) e

  pub session_few : (p : Prefix) (exporter importer : Router) (out into : Neighbor) (comms : List ℕ) (received : Received) → HasFewMaps set exporter
      → HasFewMaps set importer → AreWithin set comms
      → import_of_session p exporter out importer into comms ≡ Some received → IsFewReceived set received
  session_few p exporter importer out into comms received is other each e =
      sent_few p out into importer (passed_by exporter p (name_of out.list_out) (name_of out.map_out) comms) received other
      (λ permitted sent. passed_few exporter p (name_of out.list_out) (name_of out.map_out) comms permitted is each sent) e

-- ---- the maps of a network

mentioned : (n : Network) (mention : Mention) → In (mentions n) mention → has (communities_of n) mention.community ≡ true
unfolding communities_of
mentioned n mention here =
    let named = map community_of (mentions n) in
    let c = mention.community in
    has-with_numbers named [] c ∙ ap (λ b. b || has [] c)
    (any_contained (λ other. nat_eq other c) named c (contains_in named c (in_map community_of (mentions n) mention here)) (same_number c c refl))

of_change : (n : Network) (router : Router) (m : RouteMap) (entry : MapEntry) (c : ℕ) → In n.routers router → In router.route_maps m → In m.entries entry
    → In (changed_by entry.change) c → has (communities_of n) c ≡ true
of_change n router m entry c in_network in_router in_map_m in_change =
    let mention = mention_at entry.change_line c in
    let on_line = in_map (mention_at entry.change_line) (changed_by entry.change) c in_change in
    let in_maps = in_flat_map mentions_in_map router.route_maps m mention in_router (in_flat_map mentions_in m.entries entry mention in_map_m on_line) in
    mentioned n mention (in_flat_map mentions_of n.routers router mention in_network
    (in_right (flat_map mentions_in_list router.community_lists) (flat_map mentions_in_map router.route_maps) mention in_maps))

change_within : (set : List ℕ) (change : Option Change) → AreWithin set (changed_by change) → IfSome change (IsChangeWithin set)
change_within set None within = tt
change_within set (Some Clear) within = tt
change_within set (Some (Replace by)) within = within
change_within set (Some (Append more)) within = within

pub maps_few : (n : Network) (router : Router) → Contains n.routers router → IsWellFormedRouter router → HasFewMaps (communities_of n) router
maps_few n router contained is =
    let set = communities_of n in
    each_contained (IsFewMap set) router.route_maps (λ m in_router.
    each_contained (IsFewEntry set) m.entries (λ entry in_entries. record {
      prepend = (contained_holds IsWellFormedMapEntry m.entries entry
          (contained_holds IsWellFormedRouteMap router.route_maps m is.route_maps in_router).entries in_entries).prepend;
      change = change_within set entry.change (each_contained (λ c. has set c ≡ true) (changed_by entry.change) (λ c in_change.
          of_change n router m entry c (in_contains n.routers router contained) (in_contains router.route_maps m in_router)
          (in_contains m.entries entry in_entries) (in_contains (changed_by entry.change) c in_change)));
    }))
