-- The maps of lines, by the numbers of the maps of their policies.
use Rattle.std.proofs.Common.{◌≡◌, ℕ, zero, suc, ◌+◌, ◌<◌, Bool, true, false, List, [], ◌∷◌, ◌++◌, inl, inr, map, length, take, get_or, Option, Some, None, refl, sym, ◌∙◌, ap, subst, arith}
use Rattle.std.proofs.lemmas.List.{length-map}
use Rattle.std.specs.Prelude.{slice_get, slice_index_or}
use Rattle.std.specs.Option.{option_map, option_and_then}
use Rattle.base_kit.specs.Prefixes.{Prefix}
use Rattle.cfg_ast.specs.declared.bgp.Neighbor.{Neighbor}
use Rattle.cfg_ast.specs.declared.network.Router.{Router}
use Rattle.cfg_ast.specs.meaning.Topology.{neighbors_of}
use Rattle.route_maps.specs.declared.plain.Plain.{Plain}
use Rattle.srp_build.specs.declared.hops.Hop.{Hop}
use Rattle.srp_build.specs.declared.policy_maps.PolicyMaps.{PolicyMaps}
use Rattle.srp_build.specs.declared.policies.LinePolicies.{LinePolicies}
use Rattle.srp_build.specs.declared.lines.LinePlace.{LinePlace}
use Rattle.srp_build.specs.declared.imports.ImportByPolicies.{ImportByPolicies}
use Rattle.srp_build.specs.declared.imports.ImportByMaps.{ImportByMaps}
use Rattle.srp_build.specs.BgpEdges.{import_at, AreImportsInside}
use Rattle.srp_build.specs.LinePolicies.{map_of_place, IsPolicyOf, ArePoliciesOf, HavePolicies, AreLinePolicies, AreImportsOf}
use Rattle.srp_build.specs.LineMaps.{AreLineMaps, AreMapsOfPolicies, map_number_at, with_maps, line_maps}
use Rattle.srp_build.specs.Lines.{map_of_line, sends_at}
use Rattle.srp_build.specs.Plains.{IsNumberOf, IsGrownBy, IsMapOfPlace, IsNumberOfLine, AreNumbersOfLines, HaveNumbers, number_at, import_by_policies}
use Rattle.srp_build.proofs.FirstUse.{get_front, front_or_last, take_more, length_last, within_get}
use Rattle.srp_build.proofs.LinePolicyLemmas.{says_too}
use Rattle.srp_build.proofs.ImportMaps.{IsImportAt, import_is_at, line_numbered}

-- ---- reading numbers

pub record HasItem {X : Type 0} (xs : List X) (k : ℕ) : Type 0 where
  pub item : X
  pub at : slice_get xs k ≡ Some item

pub has_item : {X : Type 0} (xs : List X) (k : ℕ) → k < length xs → HasItem xs k
has_item [] k h = absurd (omega arith)
has_item (x ∷ xs) zero h = record { item = x; at = refl }
has_item (x ∷ xs) (suc k) h = let there = has_item xs k (omega arith) in record { item = there.item; at = there.at }

pub some_at : {X : Type 0} (xs : List X) (k : ℕ) (x : X) → k < length xs → slice_get xs k ≡ Some (slice_index_or xs k x)
some_at [] k x h = absurd (omega arith)
some_at (y ∷ ys) zero x h = refl
some_at (y ∷ ys) (suc k) x h = some_at ys k x (omega arith)

get_map : {X Y : Type 0} (f : X → Y) (xs : List X) (k : ℕ) → slice_get (map f xs) k ≡ option_map f (slice_get xs k)
get_map f [] k = refl
get_map f (x ∷ xs) zero = refl
get_map f (x ∷ xs) (suc k) = get_map f xs k

table_at : (f : ℕ → ℕ) (table : List (List ℕ)) (router item : ℕ) → number_at (map (map f) table) router item ≡ option_map f (number_at table router item)
table_at f [] router item = refl
table_at f (numbers ∷ table) zero item = get_map f numbers item
table_at f (numbers ∷ table) (suc router) item = table_at f table router item

import_parts : (f : ℕ → ℕ) (sends : Bool) (out into : Option ℕ) (import : ImportByPolicies)
    → option_and_then (λ (o : ℕ). option_map (λ (i : ℕ). (let s : ImportByPolicies = record { out = o; sends = sends; into = i } in s)) into) out ≡ Some import
    → option_and_then (λ (o : ℕ). option_map (λ (i : ℕ). (let s : ImportByMaps = record { out = o; sends = sends; into = i } in s)) (option_map f into))
    (option_map f out) ≡ Some (record { out = f import.out; sends = import.sends; into = f import.into })
import_parts f sends None into import e = absurd cc
import_parts f sends (Some o) None import e = absurd cc
import_parts f sends (Some o) (Some i) import e =
    let same : (let s : ImportByPolicies = record { out = o; sends = sends; into = i } in s) ≡ import = cc in
    ap (λ (s : ImportByPolicies). Some (let t : ImportByMaps = record { out = f s.out; sends = s.sends; into = f s.into } in t)) same

-- the import of a direction has the numbers of the maps of its policies
pub import_numbered : (routers : List Router) (policies : LinePolicies) (maps : PolicyMaps) (hop : Hop) (import : ImportByPolicies) →
    import_by_policies routers policies.outs policies.ins hop ≡ Some import
    → import_at routers (line_maps policies maps) hop ≡ Some (with_maps maps.numbers.items import)
import_numbered routers policies maps hop import e =
    let f = map_number_at maps.numbers.items in
    let sends = sends_at routers hop.exporter hop.exporter_item in
    (λ j. option_and_then (λ (o : ℕ). option_map (λ (i : ℕ). (let s : ImportByMaps = record { out = o; sends = sends; into = i } in s))
    (table_at f policies.ins hop.importer hop.importer_item j)) (table_at f policies.outs hop.exporter hop.exporter_item j))
    ∙ import_parts f sends (number_at policies.outs hop.exporter hop.exporter_item) (number_at policies.ins hop.importer hop.importer_item) import e

-- one more import
pub imports_next : (routers : List Router) (policies : LinePolicies) (outs ins : List (List ℕ)) (hops : List Hop) (i : ℕ) (hop d : Hop)
    (imports : List ImportByPolicies)
    (import : ImportByPolicies) → outs ≡ policies.outs → ins ≡ policies.ins → i < length hops → get_or hops i d ≡ hop
    → AreImportsOf routers policies (take i hops) imports →
    import_by_policies routers outs ins hop ≡ Some import → AreImportsOf routers policies (take (i + 1) hops) (imports ++ import ∷ [])
imports_next routers policies outs ins hops i hop d imports import outs_are ins_are inside at so_far is =
    subst (λ (h : List Hop). AreImportsOf routers policies h (imports ++ import ∷ [])) (sym (take_more hops i hop d inside at)) (record {
      total = (let a = length_last (take i hops) hop in let b = length_last imports import in let c = so_far.total in omega arith);
      each = λ place h s h_at s_at. elim (front_or_last (take i hops) hop place h h_at) [
        | inl before ↦ elim (front_or_last imports import place s s_at) [
          | inl there ↦ so_far.each place h s before there
          | inr last ↦ absurd (let a = within_get (take i hops) place h before in let b = so_far.total in let c = last.0 in omega arith)
        ]
        | inr here ↦ elim (front_or_last imports import place s s_at) [
          | inl there ↦ absurd (let a = within_get imports place s there in let b = so_far.total in let c = here.0 in omega arith)
          | inr last ↦ (λ j. import_by_policies routers (sym outs_are j) (sym ins_are j) (sym here.1 j)) ∙ is ∙ ap (λ (x : ImportByPolicies). Some x) last.1
        ]
      ];
    })

-- ---- the maps of policies, one after another

pub maps_next : (p : Prefix) (routers : List Router) (policies : List LinePlace) (i : ℕ) (policy d : LinePlace) (maps more : List Plain) (numbers : List ℕ)
    (number : ℕ) → i < length policies → get_or policies i d ≡ policy → AreMapsOfPolicies p routers (take i policies) maps numbers →
    IsNumberOf more number (map_of_place p routers policy) → IsGrownBy maps more (map_of_place p routers policy) number →
    AreMapsOfPolicies p routers (take (i + 1) policies) more (numbers ++ number ∷ [])
maps_next p routers policies i policy d maps more numbers number inside at so_far is grown =
    subst (λ (k : List LinePlace). AreMapsOfPolicies p routers k more (numbers ++ number ∷ [])) (sym (take_more policies i policy d inside at)) (record {
      total = (let a = length_last (take i policies) policy in let b = length_last numbers number in let c = so_far.total in omega arith);
      each = λ place other k k_at other_at. elim (front_or_last (take i policies) policy place k k_at) [
        | inl before ↦ elim (front_or_last numbers number place other other_at) [
          | inl there ↦ kept grown other k (so_far.each place other k before there)
          | inr last ↦ absurd (let a = within_get (take i policies) place k before in let b = so_far.total in let c = last.0 in omega arith)
        ]
        | inr here ↦ elim (front_or_last numbers number place other other_at) [
          | inl there ↦ absurd (let a = within_get numbers place other there in let b = so_far.total in let c = here.0 in omega arith)
          | inr last ↦ subst (λ (x : LinePlace). IsNumberOf more other (map_of_place p routers x)) here.1
              (subst (λ (m : ℕ). IsNumberOf more m (map_of_place p routers policy)) last.1 is)
        ]
      ];
      made = came grown;
    })
  where
    kept : IsGrownBy maps more (map_of_place p routers policy) number → (other : ℕ) (k : LinePlace) → IsNumberOf maps other (map_of_place p routers k) →
        IsNumberOf more other (map_of_place p routers k)
    kept (inl same) other k of = subst (λ (l : List Plain). IsNumberOf l other (map_of_place p routers k)) (sym same) of
    kept (inr last) other k of = record {
      other = of.other;
      at = ap (λ (l : List Plain). slice_get l other) last.0
          ∙ get_front maps (map_of_place p routers policy ∷ []) other of.other of.at;
      same = of.same;
    }

    came : IsGrownBy maps more (map_of_place p routers policy) number → (other : ℕ) (plain : Plain) → slice_get more other ≡ Some plain →
        IsMapOfPlace p routers plain
    came (inl same) other plain at = so_far.made other plain (ap (λ (l : List Plain). slice_get l other) (sym same) ∙ at)
    came (inr last) other plain at = elim (front_or_last maps (map_of_place p routers policy) other plain
        (ap (λ (l : List Plain). slice_get l other) (sym last.0) ∙ at)) [
          | inl before ↦ so_far.made other plain before
          | inr here ↦ record { inbound = policy.inbound; router = policy.router; item = policy.item; is = sym here.1 }
        ]

-- ---- the maps of lines

module _ (p : Prefix) (all : List Router) (policies : List LinePlace) (maps : List Plain) (numbers : List ℕ)
    (of_policies : AreMapsOfPolicies p all policies maps numbers)
    (inbound : Bool) where
  line_number : (router : Router) (line : Neighbor) (number : ℕ) → IsPolicyOf all policies router inbound line number →
      IsNumberOf maps (map_number_at numbers number) (map_of_line p router inbound line)
  line_number router line number of =
      let inside = within_get policies number of.first of.at in
      let total = of_policies.total in
      let there = of_policies.each number (map_number_at numbers number) of.first of.at (some_at numbers number 0 (omega arith)) in
      record {
        other = there.other;
        at = there.at;
        same =
            says_too there.other (map_of_place p all of.first) (map_of_line p router inbound line) there.same (of.same p);
      }

  router_numbers : (router : Router) (of : List ℕ) → ArePoliciesOf all router inbound policies (neighbors_of router) of →
      AreNumbersOfLines p router inbound maps (neighbors_of router) (map (map_number_at numbers) of)
  router_numbers router of are place number at = by_policy (slice_get of place) refl (sym (get_map (map_number_at numbers) of place) ∙ at)
    where
      by_policy : (o : Option ℕ) → slice_get of place ≡ o → option_map (map_number_at numbers) o ≡ Some number →
          IsNumberOfLine p router inbound maps (neighbors_of router) place number
      by_policy None none e = absurd cc
      by_policy (Some policy) some e =
          let there = are place policy some in
          record {
            line = there.line;
            at = there.at;
            is =
                subst (λ (m : ℕ). IsNumberOf maps m (map_of_line p router inbound there.line)) (let same : map_number_at numbers policy ≡ number = cc in same)
                (line_number router there.line policy there.is);
          }

  have_numbers : (routers : List Router) (table : List (List ℕ)) → HavePolicies all inbound policies routers table →
      HaveNumbers p inbound maps routers (map (map (map_number_at numbers)) table)
  have_numbers [] [] have = tt
  have_numbers [] (of ∷ table) have = absurd have
  have_numbers (router ∷ routers) [] have = absurd have
  have_numbers (router ∷ routers) (of ∷ table) have = (
    record { total = length-map of (map_number_at numbers) ∙ have.0.total; each = router_numbers router of have.0.each },
    have_numbers routers table have.1,
  )

pub line_maps_are : (p : Prefix) (routers : List Router) (policies : LinePolicies) (maps : PolicyMaps) → AreLinePolicies routers policies →
    AreMapsOfPolicies p routers policies.firsts.items maps.maps.items maps.numbers.items → AreLineMaps p routers (line_maps policies maps)
line_maps_are p routers policies maps are of_policies = record {
  outs = have_numbers p routers policies.firsts.items maps.maps.items maps.numbers.items of_policies false routers policies.outs are.outs;
  ins = have_numbers p routers policies.firsts.items maps.maps.items maps.numbers.items of_policies true routers policies.ins are.ins;
  made = of_policies.made;
}

-- ---- the numbers of imports are places of maps

below : (p : Prefix) (inbound : Bool) (maps : List Plain) (routers : List Router) (table : List (List ℕ)) → HaveNumbers p inbound maps routers table →
    (router item number : ℕ) → number_at table router item ≡ Some number → number < length maps
below p inbound maps routers table have router item number at = let line = line_numbered p inbound maps routers table have router item number at in
    within_get maps number line.is.other line.is.at

pub inside_are : (p : Prefix) (routers : List Router) (policies : LinePolicies) (maps : PolicyMaps) (hops : List Hop) (imports : List ImportByPolicies) →
    AreLineMaps p routers (line_maps policies maps) → AreImportsOf routers policies hops imports → AreImportsInside maps imports
inside_are p routers policies maps hops imports lines are place import at =
    let inside = within_get imports place import at in
    let total = are.total in
    let hop = has_item hops place (omega arith) in
    let at_hop : IsImportAt routers (line_maps policies maps) hop.item (with_maps maps.numbers.items import) =
    import_is_at routers (line_maps policies maps) hop.item (with_maps maps.numbers.items import)
    (import_numbered routers policies maps hop.item import (are.each place hop.item import hop.at at)) in
    record {
      out = below p false maps.maps.items routers (line_maps policies maps).outs lines.outs hop.item.exporter hop.item.exporter_item
          (map_number_at maps.numbers.items import.out) at_hop.out;
      into = below p true maps.maps.items routers (line_maps policies maps).ins lines.ins hop.item.importer hop.item.importer_item
          (map_number_at maps.numbers.items import.into) at_hop.into;
    }
