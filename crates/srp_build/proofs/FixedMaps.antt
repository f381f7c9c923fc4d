-- A line whose map names no prefix list has one map for all prefixes.
use Rattle.std.proofs.Common.{◌≡◌, ℕ, Bool, true, false, ◌&&◌, List, [], ◌∷◌, map, filter, Option, Some, None, refl, ap}
use Rattle.std.specs.Prelude.{is_none, if◌then◌else◌}
use Rattle.std.specs.Option.{option_map_or}
use Rattle.std.specs.List.{list_all}
use Rattle.base_kit.specs.Prefixes.{Prefix}
use Rattle.cfg_ast.specs.declared.bgp.Neighbor.{Neighbor}
use Rattle.cfg_ast.specs.declared.network.Named.{Named}
use Rattle.cfg_ast.specs.declared.network.Router.{Router}
use Rattle.cfg_ast.specs.declared.policy.MapEntry.{MapEntry}
use Rattle.cfg_ast.specs.declared.policy.NameLine.{NameLine}
use Rattle.cfg_ast.specs.declared.policy.RouteMap.{RouteMap}
use Rattle.cfg_ast.specs.meaning.Policy.{name_of, prefixes_match, route_map_named}
use Rattle.route_maps.specs.declared.plain.Plain.{Plain}
use Rattle.route_maps.specs.declared.plain.PlainEntry.{PlainEntry}
use Rattle.specialize.specs.OnePrefix.{own_preference, plain_entry, plain_of}
use Rattle.srp_build.specs.LinePolicies.{IsSameForEachPrefix, names_no_list}
use Rattle.srp_build.specs.Lines.{map_named, list_named}

abbrev lists_none : MapEntry → Bool
lists_none entry = is_none entry.prefixes

module _ (router : Router) where
  free_entry : (p q : Prefix) (prefixes : Option NameLine) → is_none prefixes ≡ true → prefixes_match router p prefixes ≡ prefixes_match router q prefixes
  free_entry p q None free = refl
  free_entry p q (Some line) free = absurd cc

  split : (a b : Bool) → (a && b) ≡ true → (a ≡ true) × (b ≡ true)
  split true b e = (refl, e)
  split false b e = absurd cc

  free_entries : (p q : Prefix) (entries : List MapEntry) → list_all lists_none entries ≡ true →
      filter (λ (entry : MapEntry). prefixes_match router p entry.prefixes) entries ≡ filter (λ (entry : MapEntry). prefixes_match router q entry.prefixes)
      entries
  free_entries p q [] free = refl
  free_entries p q (entry ∷ entries) free =
      let parts = split (lists_none entry) (list_all lists_none entries) free in
      λ j. (if free_entry p q entry.prefixes parts.0 j then entry ∷ free_entries p q entries parts.1 j else free_entries p q entries parts.1 j)

  free_map : (p q : Prefix) (own : Option ℕ) (found : Option RouteMap) → option_map_or (λ (m : RouteMap). list_all lists_none m.entries) found true ≡ true
      → option_map_or (λ (m : RouteMap). map (plain_entry router own) (filter (λ (entry : MapEntry). prefixes_match router p entry.prefixes) m.entries)) found
      []
      ≡ option_map_or (λ (m : RouteMap). map (plain_entry router own) (filter (λ (entry : MapEntry). prefixes_match router q entry.prefixes) m.entries)) found
      []
  free_map p q own None free = refl
  free_map p q own (Some found) free = ap (map (plain_entry router own)) (free_entries p q found.entries free)

  abbrev with_entries : List PlainEntry → Plain
  with_entries entries = record { entries = entries }

  free_plain : (p q : Prefix) (inbound : Bool) (named listed : Option Named) → is_none listed ≡ true →
      option_map_or (λ (n : Named). names_no_list router n.name) named true ≡ true →
      plain_of router (name_of named) (name_of listed) p inbound ≡ plain_of router (name_of named) (name_of listed) q inbound
  free_plain p q inbound None None free free_map_named = refl
  free_plain p q inbound (Some named) None free free_map_named =
      ap with_entries (free_map p q (own_preference router inbound) (route_map_named router named.name) free_map_named)
  free_plain p q inbound named (Some listed) free free_map_named = absurd cc

  pub is_fixed : (inbound : Bool) (line : Neighbor) → is_none (list_named inbound line) ≡ true →
      option_map_or (λ (n : Named). names_no_list router n.name) (map_named inbound line) true ≡ true → IsSameForEachPrefix router inbound line
  is_fixed true line listed free p q = free_plain p q true line.map_in line.list_in listed free
  is_fixed false line listed free p q = free_plain p q false line.map_out line.list_out listed free
