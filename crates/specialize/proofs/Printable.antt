-- What a router's maps mean for a prefix can be printed.
use Rattle.std.proofs.Common.{◌≡◌, ℕ, ◌≤◌, Bool, true, false, cond, not, ◌||◌, ◌&&◌, List, [], ◌∷◌, ◌++◌, length, Option, Some, None, map, nat_lt, nat_eq, refl, sym, ◌∙◌, ap, subst, arith}
use Rattle.std.specs.Prelude.{filter, filter_map, find, flat_map, Contains, IfSome, is_some, bytes_eq, min}
use Rattle.std.specs.Option.{option_map_or, option_and_then, option_or}
use Rattle.std.specs.List.{list_any, cons_option, AllByRecursion}
use Rattle.std.proofs.lemmas.Bool.Decides.{nat_tests}
use Rattle.std.proofs.lemmas.Cmp.{nat_list_eq_equiv}
use Rattle.base_kit.specs.Prefixes.{Prefix}
use Rattle.base_kit.specs.Sets.{AllAbove, IsAscending}
use Rattle.cfg_ast.specs.meaning.Policy.{default_preference, community_list_named, route_map_named, prefixes_match, deletion_list, prepend_count, passes_list}
use Rattle.cfg_ast.specs.meaning.PolicyFaults.{match_line_naming, lacks_prefix_list, lacks_community_list, entry_lines_naming, lines_in_map_naming, list_lines_naming, undefined_lists_of, line_naming, is_name, is_deleted_in, is_deleted, several_at, several_in, wide_deletions_of, undefined_list_lines, delete_list_lines}
use Rattle.cfg_ast.specs.meaning.Topology.{neighbors_of}
use Rattle.cfg_ast.specs.printing.WellFormed.{IsBetween, IsNumber, IsWellFormedBase, IsWellFormedBgp, IsWellFormedCommunityLine, IsWellFormedCommunityList, IsWellFormedNameLine, IsWellFormedPrepend, IsWellFormedMapEntry, map_seqs, IsWellFormedRouteMap, IsWellFormedRouter, IsWellFormed}
use Rattle.cfg_ast.specs.declared.bgp.Base.{Base}
use Rattle.cfg_ast.specs.declared.bgp.BgpProcess.{BgpProcess}
use Rattle.cfg_ast.specs.declared.network.Named.{Named}
use Rattle.cfg_ast.specs.declared.network.Network.{Network}
use Rattle.cfg_ast.specs.declared.network.Router.{Router}
use Rattle.cfg_ast.specs.declared.policy.CommunityLine.{CommunityLine}
use Rattle.cfg_ast.specs.declared.policy.CommunityList.{CommunityList}
use Rattle.cfg_ast.specs.declared.policy.MapEntry.{MapEntry}
use Rattle.cfg_ast.specs.declared.policy.NameLine.{NameLine}
use Rattle.cfg_ast.specs.declared.policy.Prepend.{Prepend}
use Rattle.cfg_ast.specs.declared.policy.RouteMap.{RouteMap}
use Rattle.route_maps.specs.Printable.{IsPrintableList, NamesOne, IsPrintableDeletion, ArePrintableLists, IsPrintableEntry, plain_seqs, IsPrintable}
use Rattle.specialize.proofs.Entries.{plain_holds}
use Rattle.specialize.proofs.Found.{found_holds, found_contained, found_passes, contained_holds, any_contained, none_pass, first_empty, second_empty, each_empty, contained_empty, unless_given}
use Rattle.specialize.specs.OnePrefix.{own_preference, lists_named, plain_entry, whole_entry, plain_entries, entries_for, plain_of}
use Rattle.specialize.specs.Printable.{HasPrintableMaps}

-- ---- the lists of a match line

printable_list : (list : CommunityList) → IsWellFormedCommunityList list → IsPrintableList list
printable_list list form = record { some = form.some; lines = form.lines }

-- a name that the router does not lack is found
found_named : (name : List ℕ) (lists : List CommunityList) → not (list_any (λ (list : CommunityList). bytes_eq name list.name) lists) ≡ false →
    is_some (find (λ (list : CommunityList). bytes_eq list.name name) lists) ≡ true
found_named name [] defined = absurd (cc)
found_named name (list ∷ lists) defined =
    let later = found_named name lists in
    subst (λ (b : Bool). is_some (cond b (Some list) (find (λ (l : CommunityList). bytes_eq l.name name) lists)) ≡ true) (nat_list_eq_equiv.symm name list.name)
    (step later (bytes_eq name list.name) defined) where
      step : (not (list_any (λ (l : CommunityList). bytes_eq name l.name) lists) ≡ false →
          is_some (find (λ (l : CommunityList). bytes_eq l.name name) lists) ≡ true) → (b : Bool)
          → not (b || list_any (λ (l : CommunityList). bytes_eq name l.name) lists) ≡ false →
          is_some (cond b (Some list) (find (λ (l : CommunityList). bytes_eq l.name name) lists)) ≡ true
      step later true here = refl
      step later false there = later there

all_found : (router : Router) (names : List (List ℕ)) → AllByRecursion (λ name. lacks_community_list router name ≡ false) names →
    length (filter_map (community_list_named router) names) ≡ length names
all_found router [] defined = refl
all_found router (name ∷ names) defined =
    step (community_list_named router name) (found_named name router.community_lists defined.0) (all_found router names defined.1) where
      step : (o : Option CommunityList) → is_some o ≡ true → length (filter_map (community_list_named router) names) ≡ length names →
          length (cons_option o (filter_map (community_list_named router) names)) ≡ length (name ∷ names)
      step None found rest = absurd (cc)
      step (Some list) found rest = omega arith

all_printable : (router : Router) (names : List (List ℕ)) → IsWellFormedRouter router →
    AllByRecursion IsPrintableList (filter_map (community_list_named router) names)
all_printable router [] form = tt
all_printable router (name ∷ names) form =
    step (community_list_named router name) (found_holds IsWellFormedCommunityList (λ (list : CommunityList). bytes_eq list.name name) router.community_lists
    form.community_lists) (all_printable router names form) where
      step : (o : Option CommunityList) → IfSome o IsWellFormedCommunityList → AllByRecursion IsPrintableList (filter_map (community_list_named router) names) →
          AllByRecursion IsPrintableList (cons_option o (filter_map (community_list_named router) names))
      step None found rest = rest
      step (Some list) found rest = (printable_list list found, rest)

printable_lists : (router : Router) (comms : Option NameLine) → IsWellFormedRouter router → match_line_naming (lacks_community_list router) comms ≡ [] →
    IfSome comms IsWellFormedNameLine → IfSome (lists_named router comms) ArePrintableLists
printable_lists router None form defined named = tt
printable_lists router (Some line) form defined named =
    let each = none_pass (lacks_community_list router) line.names (unless_given (list_any (lacks_community_list router) line.names) line.line defined) in
    record {
      count = subst (IsBetween 1 32) (sym (all_found router line.names each)) named.count;
      each = all_printable router line.names form;
    }

-- ---- the deletion list of an entry

one_of : (line : CommunityLine) → IsWellFormedCommunityLine line → several_at line ≡ [] → NamesOne line
one_of line form single =
    let few = unless_given (nat_lt 1 (length line.comms)) line.line single in
    let some : 1 ≤ length line.comms = form.count.0 in
    grind (arith, nat_tests)

all_alone : (lines : List CommunityLine) → AllByRecursion IsWellFormedCommunityLine lines → AllByRecursion (λ line. several_at line ≡ []) lines →
    AllByRecursion NamesOne lines
all_alone [] forms single = tt
all_alone (line ∷ lines) forms single = (one_of line forms.0 single.0, all_alone lines forms.1 single.1)

-- a list that the router has, and that an entry names, is a deletion list of the router
deleted_by : (router : Router) (m : RouteMap) (entry : MapEntry) (named : Named) (list : CommunityList) → Contains router.route_maps m →
    Contains m.entries entry → entry.delete ≡ Some named → bytes_eq list.name named.name ≡ true → is_deleted router list.name ≡ true
deleted_by router m entry named list in_router in_map is same =
    any_contained (is_deleted_in list.name) router.route_maps m in_router
    (any_contained (λ (e : MapEntry). is_name list.name e.delete) m.entries entry in_map (ap (is_name list.name) is ∙ same))

printable_deletion : (router : Router) (m : RouteMap) (entry : MapEntry) → HasPrintableMaps router → Contains router.route_maps m → Contains m.entries entry →
    IfSome (deletion_list router entry.delete) IsPrintableDeletion
printable_deletion router m entry has in_router in_map = by_name entry.delete refl where
  of_list : (named : Named) (list : CommunityList) → entry.delete ≡ Some named → IsWellFormedCommunityList list → Contains router.community_lists list →
      bytes_eq list.name named.name ≡ true → IsPrintableDeletion list
  of_list named list is form contained same =
      let none : several_in (is_deleted router) list ≡ [] = contained_empty (several_in (is_deleted router)) router.community_lists list has.single contained in
      let deleted = deleted_by router m entry named list in_router in_map is same in
      let single : flat_map several_at list.lines ≡ [] = subst (λ (b : Bool). cond b (flat_map several_at list.lines) [] ≡ []) deleted none in
      record { printable = printable_list list form; alone = all_alone list.lines form.lines (each_empty several_at list.lines single) }

  found : (named : Named) (o : Option CommunityList) → entry.delete ≡ Some named → IfSome o IsWellFormedCommunityList →
      IfSome o (Contains router.community_lists) → IfSome o (λ (list : CommunityList). bytes_eq list.name named.name ≡ true) → IfSome o IsPrintableDeletion
  found named None is form contained same = tt
  found named (Some list) is form contained same = of_list named list is form contained same

  by_name : (delete : Option Named) → entry.delete ≡ delete →
      IfSome (option_and_then (λ (named : Named). community_list_named router named.name) delete) IsPrintableDeletion
  by_name None is = tt
  by_name (Some named) is =
      let test = λ (list : CommunityList). bytes_eq list.name named.name in
      found named (community_list_named router named.name) is
      (found_holds IsWellFormedCommunityList test router.community_lists has.well_formed.community_lists)
      (found_contained test router.community_lists)
      (found_passes test router.community_lists)

-- ---- an entry

-- a default preference is a number
fits_default : (router : Router) → IsWellFormedRouter router → IsNumber (default_preference router)
fits_default router form = by_process router.bgp form.bgp where
  by_base : (base : Option Base) → IfSome base IsWellFormedBase → IsNumber (option_map_or (λ (b : Base). b.value) base 100)
  by_base None fits = omega arith
  by_base (Some base) fits = fits

  by_process : (bgp : Option BgpProcess) → IfSome bgp IsWellFormedBgp →
      IsNumber (option_map_or (λ (b : BgpProcess). option_map_or (λ (base : Base). base.value) b.base 100) bgp 100)
  by_process None fits = omega arith
  by_process (Some b) fits = by_base b.base fits.base

fits_own : (router : Router) (inbound : Bool) → IsWellFormedRouter router → IfSome (own_preference router inbound) IsNumber
fits_own router inbound form = step (inbound && not (nat_eq (default_preference router) 100)) where
  step : (b : Bool) → IfSome (cond b (Some (default_preference router)) None) IsNumber
  step true = fits_default router form
  step false = tt

fits_chosen : (given own : Option ℕ) → IfSome given IsNumber → IfSome own IsNumber → IfSome (option_or given own) IsNumber
fits_chosen None own fits own_fits = own_fits
fits_chosen (Some lp) own fits own_fits = fits

fits_entry : (permit : Bool) (given own : Option ℕ) → IfSome given IsNumber → IfSome own IsNumber → IfSome (cond permit (option_or given own) given) IsNumber
fits_entry true given own fits own_fits = fits_chosen given own fits own_fits
fits_entry false given own fits own_fits = fits

few_added : (prepend : Option Prepend) → IfSome prepend IsWellFormedPrepend → min (prepend_count prepend) 255 ≤ 10
few_added None form = omega arith
few_added (Some line) form = let few : length line.numbers ≤ 10 = form.count.1 in omega arith

-- the names of the community lists that an entry matches are defined
comms_defined : (router : Router) (m : RouteMap) (entry : MapEntry) → HasPrintableMaps router → Contains router.route_maps m → Contains m.entries entry →
    match_line_naming (lacks_community_list router) entry.comms ≡ []
comms_defined router m entry has in_router in_map =
    let prefixes = lacks_prefix_list router in
    let comms = lacks_community_list router in
    let in_maps = second_empty (flat_map (list_lines_naming prefixes) (neighbors_of router)) (flat_map (lines_in_map_naming prefixes comms) router.route_maps)
    has.defined in
    let in_entries = contained_empty (lines_in_map_naming prefixes comms) router.route_maps m in_maps in_router in
    let in_entry = contained_empty (entry_lines_naming prefixes comms) m.entries entry in_entries in_map in
    second_empty (match_line_naming prefixes entry.prefixes) (match_line_naming comms entry.comms)
    (first_empty (match_line_naming prefixes entry.prefixes ++ match_line_naming comms entry.comms) (line_naming comms entry.delete) in_entry)

printable_entry : (router : Router) (own : Option ℕ) (m : RouteMap) (entry : MapEntry) → IfSome own IsNumber → HasPrintableMaps router →
    Contains router.route_maps m → Contains m.entries entry → IsWellFormedMapEntry entry → IsPrintableEntry (plain_entry router own entry)
printable_entry router own m entry own_fits has in_router in_map form = record {
  seq = form.seq;
  lists = printable_lists router entry.comms has.well_formed (comms_defined router m entry has in_router in_map) form.comms;
  lp = fits_entry entry.permit entry.lp own form.lp own_fits;
  change = form.change;
  delete = printable_deletion router m entry has in_router in_map;
  adds = few_added entry.prepend form.prepend;
}

-- ---- a map

above_kept : (router : Router) (own : Option ℕ) (p : Prefix) (n : ℕ) (entries : List MapEntry) → AllAbove n (map_seqs entries) →
    AllAbove n (plain_seqs (plain_entries router own p entries))
above_kept router own p n [] above = tt
above_kept router own p n (entry ∷ entries) above = step (prefixes_match router p entry.prefixes) (above_kept router own p n entries above.1) where
  step : (b : Bool) → AllAbove n (plain_seqs (plain_entries router own p entries))
      → AllAbove n (plain_seqs (map (plain_entry router own)
      (cond b (entry ∷ filter (λ (e : MapEntry). prefixes_match router p e.prefixes) entries)
      (filter (λ (e : MapEntry). prefixes_match router p e.prefixes) entries))))
  step true rest = (above.0, rest)
  step false rest = rest

ascending_kept : (router : Router) (own : Option ℕ) (p : Prefix) (entries : List MapEntry) → IsAscending (map_seqs entries) →
    IsAscending (plain_seqs (plain_entries router own p entries))
ascending_kept router own p [] up = tt
ascending_kept router own p (entry ∷ entries) up = step (prefixes_match router p entry.prefixes) (ascending_kept router own p entries up.1) where
  step : (b : Bool) → IsAscending (plain_seqs (plain_entries router own p entries))
      → IsAscending (plain_seqs (map (plain_entry router own)
      (cond b (entry ∷ filter (λ (e : MapEntry). prefixes_match router p e.prefixes) entries)
      (filter (λ (e : MapEntry). prefixes_match router p e.prefixes) entries))))
  step true rest = (above_kept router own p entry.seq entries up.0, rest)
  step false rest = rest

ascending_entries : (router : Router) (own : Option ℕ) (p : Prefix) (name : Option (List ℕ)) → IsWellFormedRouter router →
    IsAscending (plain_seqs (entries_for router own p name))
ascending_entries router own p None form = (tt, tt)
ascending_entries router own p (Some name) form =
    step (route_map_named router name) (found_holds IsWellFormedRouteMap (λ (m : RouteMap). bytes_eq m.name name) router.route_maps form.route_maps) where
      step : (o : Option RouteMap) → IfSome o IsWellFormedRouteMap →
          IsAscending (plain_seqs (option_map_or (λ (m : RouteMap). plain_entries router own p m.entries) o []))
      step None found = tt
      step (Some m) found = ascending_kept router own p m.entries found.ascending

ascending_plain : (router : Router) (name list : Option (List ℕ)) (p : Prefix) (inbound : Bool) → IsWellFormedRouter router →
    IsAscending (plain_seqs (plain_of router name list p inbound).entries)
ascending_plain router name list p inbound form = step (passes_list router p list) where
  step : (b : Bool) → IsAscending (plain_seqs (cond b (entries_for router (own_preference router inbound) p name) []))
  step true = ascending_entries router (own_preference router inbound) p name form
  step false = tt

printable_whole : (own : Option ℕ) → IfSome own IsNumber → IsPrintableEntry (whole_entry own)
printable_whole own fits = record { seq = omega arith; lists = tt; lp = fits; change = tt; delete = tt; adds = omega arith }

pub printable_plain : (router : Router) (name list : Option (List ℕ)) (p : Prefix) (inbound : Bool) → HasPrintableMaps router →
    IsPrintable (plain_of router name list p inbound)
printable_plain router name list p inbound has =
    let own = own_preference router inbound in
    let fits = fits_own router inbound has.well_formed in
    record {
      entries = plain_holds IsPrintableEntry router name list p inbound (printable_whole own fits) (λ m named entry in_map.
          let form = contained_holds IsWellFormedRouteMap router.route_maps m has.well_formed.route_maps named.contained in
          printable_entry router own m entry fits has named.contained in_map (contained_holds IsWellFormedMapEntry m.entries entry form.entries in_map));
      ascending = ascending_plain router name list p inbound has.well_formed;
    }

pub printable_maps : (network : Network) (router : Router) → IsWellFormed network → undefined_list_lines network ≡ [] → delete_list_lines network ≡ [] →
    Contains network.routers router → HasPrintableMaps router
unfolding undefined_list_lines delete_list_lines
printable_maps network router form defined single contained = record {
  well_formed = contained_holds IsWellFormedRouter network.routers router form.routers contained;
  defined = contained_empty undefined_lists_of network.routers router defined contained;
  single = contained_empty wide_deletions_of network.routers router single contained;
}
