-- What a session of well-formed routers imports of communities in range is in range.
use Rattle.std.proofs.Common.{◌≡◌, ℕ, Bool, true, false, cond, not, List, [], ◌∷◌, filter, refl, subst, arith, Option, Some, None, unwrap_or}
use Rattle.std.specs.Prelude.{nat_lt, IfSome, bytes_eq, ◌==◌}
use Rattle.std.specs.List.{AllByRecursion}
use Rattle.std.specs.Option.{option_map, option_map_or, option_and_then}
use Rattle.base_kit.specs.Prefixes.{Prefix}
use Rattle.base_kit.specs.Sets.{with_number, with_numbers}
use Rattle.cfg_ast.specs.declared.bgp.Base.{Base}
use Rattle.cfg_ast.specs.declared.bgp.BgpProcess.{BgpProcess}
use Rattle.cfg_ast.specs.declared.bgp.Neighbor.{Neighbor}
use Rattle.cfg_ast.specs.declared.network.Router.{Router}
use Rattle.cfg_ast.specs.declared.policy.Change.{Change}
use Rattle.cfg_ast.specs.declared.policy.Change.TheVariants.{Clear, Replace, Append}
use Rattle.cfg_ast.specs.declared.policy.CommunityList.{CommunityList}
use Rattle.cfg_ast.specs.declared.policy.MapEntry.{MapEntry}
use Rattle.cfg_ast.specs.declared.policy.RouteMap.{RouteMap}
use Rattle.cfg_ast.specs.meaning.Lists.{community_list_permits}
use Rattle.cfg_ast.specs.meaning.Policy.{Permitted, Received, route_map_named, map_entry_holds, without_deleted_by, after_change, deletion_list, comms_set, prepend_count, permitted_as_is, permitted_by_entry, verdict_of, passes_list, passed_by_map, passed_by, name_of, default_preference, received_as, received_by, import_of_session}
use Rattle.cfg_ast.specs.printing.WellFormed.{IsBetween, IsNumber, IsWellFormedBase, IsWellFormedBgp, IsWellFormedChange, IsWellFormedMapEntry, IsWellFormedRouteMap, IsWellFormedRouter}
use Rattle.specialize.proofs.Found.{found_holds}

-- communities that can be written
abbrev pub AreComms : List ℕ → Type 0
AreComms comms = AllByRecursion (IsBetween 1 4294901759) comms

-- the preference that a map sets, if any, and the communities
pub record IsInRange (permitted : Permitted) : Type 0 where
  pub lp : IfSome permitted.lp IsNumber
  pub comms : AreComms permitted.comms

same_some : {X : Type 0} (x y : X) → Some x ≡ Some y → x ≡ y
same_some x y e = cc

filtered : (p : ℕ → Bool) (comms : List ℕ) → AreComms comms → AreComms (filter p comms)
filtered p [] each = tt
filtered p (c ∷ comms) each = step (p c) (filtered p comms each.1)
  where
    step : (b : Bool) → AreComms (filter p comms) → AreComms (cond b (c ∷ filter p comms) (filter p comms))
    step true more = (each.0, more)
    step false more = more

with_one : (n : ℕ) (comms : List ℕ) → IsBetween 1 4294901759 n → AreComms comms → AreComms (with_number n comms)
with_one n [] range each = (range, tt)
with_one n (c ∷ comms) range each = step (nat_lt n c) (n == c) (with_one n comms range each.1)
  where
    step : (a b : Bool) → AreComms (with_number n comms) → AreComms (cond a (n ∷ c ∷ comms) (cond b (c ∷ comms) (c ∷ with_number n comms)))
    step true b more = (range, each)
    step false true more = each
    step false false more = (each.0, more)

with_more : (ns comms : List ℕ) → AreComms ns → AreComms comms → AreComms (with_numbers ns comms)
with_more [] comms range each = each
with_more (n ∷ ns) comms range each = with_more ns (with_number n comms) range.1 (with_one n comms range.0 each)

without_deleted : (list : Option CommunityList) (comms : List ℕ) → AreComms comms → AreComms (without_deleted_by list comms)
without_deleted None comms each = each
without_deleted (Some list) comms each = filtered (λ c. not (community_list_permits list (c ∷ []))) comms each

changed : (change : Option Change) (comms : List ℕ) → IfSome change IsWellFormedChange → AreComms comms → AreComms (after_change change comms)
changed None comms is each = each
changed (Some Clear) comms is each = tt
changed (Some (Replace by)) comms is each = is.each
changed (Some (Append more)) comms is each = with_more more comms is.each each

entry_range : (router : Router) (entry : MapEntry) (comms : List ℕ) (permitted : Permitted) → IsWellFormedMapEntry entry → AreComms comms →
    permitted_by_entry router comms entry ≡ Some permitted → IsInRange permitted
entry_range router entry comms permitted is each = step entry.permit
  where
    made : Permitted
    made = record { lp = entry.lp; comms = comms_set router entry comms; adds = prepend_count entry.prepend }

    made_range : IsInRange made
    made_range = record {
      lp = is.lp;
      comms =
          changed entry.change (without_deleted_by (deletion_list router entry.delete) comms) is.change
          (without_deleted (deletion_list router entry.delete) comms each);
    }

    step : (b : Bool) → cond b (Some made) None ≡ Some permitted → IsInRange permitted
    step true e = subst IsInRange (same_some made permitted e) made_range
    step false e = cc

verdict_range : (router : Router) (p : Prefix) (entries : List MapEntry) (comms : List ℕ) (permitted : Permitted) →
    AllByRecursion IsWellFormedMapEntry entries → AreComms comms → verdict_of router p entries comms ≡ Some permitted → IsInRange permitted
verdict_range router p [] comms permitted are each e = cc
verdict_range router p (entry ∷ entries) comms permitted are each e =
    step (map_entry_holds router p comms entry) (verdict_range router p entries comms permitted are.1 each) e
  where
    step : (b : Bool) → (verdict_of router p entries comms ≡ Some permitted → IsInRange permitted) →
        cond b (permitted_by_entry router comms entry) (verdict_of router p entries comms) ≡ Some permitted → IsInRange permitted
    step true more e = entry_range router entry comms permitted are.0 each e
    step false more e = more e

named_map : (router : Router) (p : Prefix) (comms : List ℕ) (permitted : Permitted) (map : Option RouteMap) → IfSome map IsWellFormedRouteMap → AreComms comms
    → option_and_then (λ (m : RouteMap). verdict_of router p m.entries comms) map ≡ Some permitted → IsInRange permitted
named_map router p comms permitted None is each e = cc
named_map router p comms permitted (Some map) is each e = verdict_range router p map.entries comms permitted is.entries each e

map_range : (router : Router) (p : Prefix) (name : Option (List ℕ)) (comms : List ℕ) (permitted : Permitted) → IsWellFormedRouter router → AreComms comms →
    passed_by_map router p name comms ≡ Some permitted → IsInRange permitted
map_range router p None comms permitted is each e = subst IsInRange (same_some (permitted_as_is comms) permitted e) (record { lp = tt; comms = each })
map_range router p (Some name) comms permitted is each e =
    named_map router p comms permitted (route_map_named router name)
    (found_holds IsWellFormedRouteMap (λ (m : RouteMap). bytes_eq m.name name) router.route_maps is.route_maps) each e

passed_range : (router : Router) (p : Prefix) (list map : Option (List ℕ)) (comms : List ℕ) (permitted : Permitted) → IsWellFormedRouter router →
    AreComms comms → passed_by router p list map comms ≡ Some permitted → IsInRange permitted
passed_range router p list map comms permitted is each e = step (passes_list router p list) e
  where
    step : (b : Bool) → cond b (passed_by_map router p map comms) None ≡ Some permitted → IsInRange permitted
    step true e = map_range router p map comms permitted is each e
    step false e = cc

base_number : (base : Option Base) → IfSome base IsWellFormedBase → IsNumber (option_map_or (λ (b : Base). b.value) base 100)
base_number None is = omega arith
base_number (Some base) is = is

default_number : (bgp : Option BgpProcess) → IfSome bgp IsWellFormedBgp →
    IsNumber (option_map_or (λ (process : BgpProcess). option_map_or (λ (b : Base). b.value) process.base 100) bgp 100)
default_number None is = omega arith
default_number (Some process) is = base_number process.base is.base

-- the default preference of a router
pub preference_number : (router : Router) → IsWellFormedRouter router → IsNumber (default_preference router)
preference_number router is = default_number router.bgp is.bgp

set_number : (lp : Option ℕ) (default : ℕ) → IfSome lp IsNumber → IsNumber default → IsNumber (unwrap_or lp default)
set_number None default is number = number
set_number (Some lp) default is number = is

-- what was received is in range
abbrev pub IsReceived : Received → Type 0
IsReceived received = IsNumber received.lp × AreComms received.comms

given_range : (importer : Router) (adds : ℕ) (taken : Option Permitted) (received : Received) → IsWellFormedRouter importer →
    ((permitted : Permitted) → taken ≡ Some permitted → IsInRange permitted)
    → option_map (received_as importer adds) taken ≡ Some received → IsReceived received
given_range importer adds None received is range e = cc
given_range importer adds (Some permitted) received is range e =
    let in_range = range permitted refl in
    subst IsReceived (same_some (received_as importer adds permitted) received e)
    (set_number permitted.lp (default_preference importer) in_range.lp (preference_number importer is), in_range.comms)

sent_comms : (sends : Bool) (comms : List ℕ) → AreComms comms → AreComms (cond sends comms [])
sent_comms true comms each = each
sent_comms false comms each = tt

sent_range : (p : Prefix) (out into : Neighbor) (importer : Router) (sent : Option Permitted) (received : Received) → IsWellFormedRouter importer →
    ((permitted : Permitted) → sent ≡ Some permitted → IsInRange permitted)
    → option_and_then (received_by importer into p out.sends) sent ≡ Some received → IsReceived received
sent_range p out into importer None received is range e = cc
sent_range p out into importer (Some sent) received is range e =
    let comms = cond out.sends sent.comms [] in
    given_range importer sent.adds (passed_by importer p (name_of into.list_in) (name_of into.map_in) comms) received is
    (λ permitted taken. passed_range importer p (name_of into.list_in) (name_of into.map_in) comms permitted is
    (sent_comms out.sends sent.comms (range sent refl).comms) taken) e

pub session_range : (p : Prefix) (exporter importer : Router) (out into : Neighbor) (comms : List ℕ) (received : Received) → IsWellFormedRouter exporter →
    IsWellFormedRouter importer → AreComms comms
    → import_of_session p exporter out importer into comms ≡ Some received → IsReceived received
session_range p exporter importer out into comms received is other each e =
    sent_range p out into importer (passed_by exporter p (name_of out.list_out) (name_of out.map_out) comms) received other
    (λ permitted sent. passed_range exporter p (name_of out.list_out) (name_of out.map_out) comms permitted is each sent) e
