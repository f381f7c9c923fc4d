-- The map for one prefix keeps the verdict.
use Rattle.std.proofs.Common.{◌≡◌, ℕ, ◌≤◌, Bool, true, false, cond, ◌&&◌, ◌||◌, List, [], ◌∷◌, length, Option, Some, None, map, refl, ◌∙◌, ap, arith}
use Rattle.std.specs.Prelude.{filter, filter_map, min, bytes_eq, IfSome}
use Rattle.std.specs.Option.{option_map_or, option_and_then, option_or}
use Rattle.std.specs.List.{list_any, cons_option, AllByRecursion}
use Rattle.base_kit.specs.Prefixes.{Prefix}
use Rattle.cfg_ast.specs.declared.network.Router.{Router}
use Rattle.cfg_ast.specs.declared.policy.CommunityList.{CommunityList}
use Rattle.cfg_ast.specs.declared.policy.MapEntry.{MapEntry}
use Rattle.cfg_ast.specs.declared.policy.NameLine.{NameLine}
use Rattle.cfg_ast.specs.declared.policy.Prepend.{Prepend}
use Rattle.cfg_ast.specs.declared.policy.RouteMap.{RouteMap}
use Rattle.cfg_ast.specs.meaning.Policy.{community_list_named, route_map_named, list_answer, comms_permitted_by, communities_match, prefixes_match}
use Rattle.cfg_ast.specs.meaning.Policy.{prepend_count, comms_set, permitted_by_entry, verdict_of, passes_list, passed_by_map}
use Rattle.cfg_ast.specs.printing.WellFormed.{IsWellFormedPrepend, IsWellFormedMapEntry, IsWellFormedRouteMap, IsWellFormedRouter}
use Rattle.route_maps.specs.declared.plain.Verdict.TheVariants.{Deny, Permit}
use Rattle.route_maps.specs.Maps.{lists_hold, entry_verdict, verdict}
use Rattle.specialize.proofs.Found.{found_holds}
use Rattle.specialize.specs.OnePrefix.{PrependsFew, MapPrependsFew, own_preference, lists_named, plain_entry, plain_entries, entries_for, plain_of}
use Rattle.specialize.specs.OnePrefix.{verdict_with, KeepsVerdict}

any_named : (router : Router) (exact : Bool) (comms : List ℕ) (names : List (List ℕ))
    → list_any (list_answer exact comms) (filter_map (community_list_named router) names) ≡ list_any (comms_permitted_by router exact comms) names
any_named router exact comms [] = refl
any_named router exact comms (name ∷ names) = step (community_list_named router name) (any_named router exact comms names) where
  step : (o : Option CommunityList)
      → list_any (list_answer exact comms) (filter_map (community_list_named router) names) ≡ list_any (comms_permitted_by router exact comms) names
      → list_any (list_answer exact comms) (cons_option o (filter_map (community_list_named router) names)) ≡ (option_map_or (list_answer exact comms) o false
      || list_any (comms_permitted_by router exact comms) names)
  step None rest = rest
  step (Some list) rest = ap (λ b. list_answer exact comms list || b) rest

matches_named : (router : Router) (exact : Bool) (comms : List ℕ) (line : Option NameLine)
    → lists_hold exact comms (lists_named router line) ≡ communities_match router exact comms line
matches_named router exact comms None = refl
matches_named router exact comms (Some line) = any_named router exact comms line.names

whole_count : (prepend : Option Prepend) → prepend_count prepend ≤ 255 → min (prepend_count prepend) 255 ≡ prepend_count prepend
whole_count None few = refl
whole_count (Some line) few = omega (arith, few)

-- what an entry that holds says, for a permit and for a denial
entry_said : (router : Router) (own : Option ℕ) (comms : List ℕ) (entry : MapEntry) (permit : Bool) → PrependsFew entry
    → cond permit (Permit (cond permit (option_or entry.lp own) entry.lp) (comms_set router entry comms) (min (prepend_count entry.prepend) 255)) Deny
    ≡ verdict_with own (cond permit (Some (record { lp = entry.lp; comms = comms_set router entry comms; adds = prepend_count entry.prepend })) None)
entry_said router own comms entry false few = refl
entry_said router own comms entry true few = ap (λ n. Permit (option_or entry.lp own) (comms_set router entry comms) n) (whole_count entry.prepend few)

entries_said : (router : Router) (own : Option ℕ) (p : Prefix) (comms : List ℕ) (entries : List MapEntry) → AllByRecursion PrependsFew entries
    → verdict (plain_entries router own p entries) comms ≡ verdict_with own (verdict_of router p entries comms)
entries_said router own p comms [] few = refl
entries_said router own p comms (entry ∷ entries) few =
    step (prefixes_match router p entry.prefixes) (communities_match router entry.exact comms entry.comms) refl (entries_said router own p comms entries few.1)
  where
    first : entry_verdict (plain_entry router own entry) comms ≡ verdict_with own (permitted_by_entry router comms entry)
    first = entry_said router own comms entry entry.permit few.0

    step : (a h : Bool) → communities_match router entry.exact comms entry.comms ≡ h
        → verdict (plain_entries router own p entries) comms ≡ verdict_with own (verdict_of router p entries comms)
        → verdict (map (plain_entry router own) (cond a (entry ∷ filter (λ (e : MapEntry). prefixes_match router p e.prefixes) entries)
        (filter (λ (e : MapEntry). prefixes_match router p e.prefixes) entries))) comms
        ≡ verdict_with own (cond (a && h) (permitted_by_entry router comms entry) (verdict_of router p entries comms))
    step false h holds rest = rest
    step true true holds rest =
        ap (λ b. cond b (entry_verdict (plain_entry router own entry) comms) (verdict (plain_entries router own p entries) comms))
        (matches_named router entry.exact comms entry.comms ∙ holds)
        ∙ first
    step true false holds rest =
        ap (λ b. cond b (entry_verdict (plain_entry router own entry) comms) (verdict (plain_entries router own p entries) comms))
        (matches_named router entry.exact comms entry.comms ∙ holds)
        ∙ rest

map_said : (router : Router) (own : Option ℕ) (p : Prefix) (map : Option (List ℕ)) (comms : List ℕ) → MapPrependsFew router map
    → verdict (entries_for router own p map) comms ≡ verdict_with own (passed_by_map router p map comms)
map_said router own p None comms few = refl
map_said router own p (Some name) comms few =
    step (route_map_named router name) few where
      step : (o : Option RouteMap) → IfSome o (λ m. AllByRecursion PrependsFew m.entries)
          → verdict (option_map_or (λ (m : RouteMap). plain_entries router own p m.entries) o []) comms ≡ verdict_with own
          (option_and_then (λ (m : RouteMap). verdict_of router p m.entries comms) o)
      step None found = refl
      step (Some m) found = entries_said router own p comms m.entries found

pub verdict_kept : (router : Router) (map list : Option (List ℕ)) (p : Prefix) (inbound : Bool) → MapPrependsFew router map
    → KeepsVerdict router map list p inbound (plain_of router map list p inbound)
verdict_kept router map list p inbound few comms = step (passes_list router p list) where
  step : (b : Bool)
      → verdict (cond b (entries_for router (own_preference router inbound) p map) []) comms ≡ verdict_with (own_preference router inbound)
      (cond b (passed_by_map router p map comms) None)
  step true = map_said router (own_preference router inbound) p map comms few
  step false = refl

-- ---- the grammar bounds the numbers of an entry by 10

few_numbers : (prepend : Option Prepend) → IfSome prepend IsWellFormedPrepend → prepend_count prepend ≤ 255
few_numbers None form = omega arith
few_numbers (Some line) form = let few : length line.numbers ≤ 10 = form.count.1 in omega arith

few_entries : (entries : List MapEntry) → AllByRecursion IsWellFormedMapEntry entries → AllByRecursion PrependsFew entries
few_entries [] forms = tt
few_entries (entry ∷ entries) forms = (few_numbers entry.prepend forms.0.prepend, few_entries entries forms.1)

few_found : (o : Option RouteMap) → IfSome o IsWellFormedRouteMap → IfSome o (λ m. AllByRecursion PrependsFew m.entries)
few_found None found = tt
few_found (Some m) found = few_entries m.entries found.entries

pub prepends_few : (router : Router) (map : Option (List ℕ)) → IsWellFormedRouter router → MapPrependsFew router map
prepends_few router None form = tt
prepends_few router (Some name) form =
    few_found (route_map_named router name) (found_holds IsWellFormedRouteMap (λ (m : RouteMap). bytes_eq m.name name) router.route_maps form.route_maps)
