-- What holds of all entries of a map that is written out for a prefix.
use Rattle.std.proofs.Common.{◌≡◌, ℕ, Bool, true, false, cond, List, [], ◌∷◌, Option, Some, None, map}
use Rattle.std.specs.Prelude.{filter, Contains, IfSome, IsSomeAnd, bytes_eq}
use Rattle.std.specs.Option.{option_map_or}
use Rattle.std.specs.List.{AllByRecursion}
use Rattle.base_kit.specs.Prefixes.{Prefix}
use Rattle.cfg_ast.specs.meaning.Policy.{route_map_named, prefixes_match, passes_list}
use Rattle.cfg_ast.specs.declared.network.Router.{Router}
use Rattle.cfg_ast.specs.declared.policy.MapEntry.{MapEntry}
use Rattle.cfg_ast.specs.declared.policy.RouteMap.{RouteMap}
use Rattle.route_maps.specs.declared.plain.PlainEntry.{PlainEntry}
use Rattle.specialize.proofs.Found.{found_contained, found_passes, each_contained}
use Rattle.specialize.specs.OnePrefix.{own_preference, plain_entry, whole_entry, plain_entries, entries_for, plain_of}

-- a map of the router under the name
pub record IsNamedMap (router : Router) (name : Option (List ℕ)) (m : RouteMap) : Type 0 where
  pub contained : Contains router.route_maps m
  pub named : IsSomeAnd name (λ (n : List ℕ). bytes_eq m.name n ≡ true)

-- each entry of such a map, written out, has the property
abbrev pub HoldsOfEntries : (PlainEntry → Type 0) → Router → Option ℕ → Option (List ℕ) → Type 0
HoldsOfEntries P router own name = (m : RouteMap) → IsNamedMap router name m → (entry : MapEntry) → Contains m.entries entry → P (plain_entry router own entry)

kept_hold : (P : PlainEntry → Type 0) (router : Router) (own : Option ℕ) (p : Prefix) (entries : List MapEntry) →
    AllByRecursion (λ (entry : MapEntry). P (plain_entry router own entry)) entries → AllByRecursion P (plain_entries router own p entries)
kept_hold P router own p [] all = tt
kept_hold P router own p (entry ∷ entries) all = step (prefixes_match router p entry.prefixes) (kept_hold P router own p entries all.1) where
  step : (b : Bool) → AllByRecursion P (plain_entries router own p entries)
      → AllByRecursion P (map (plain_entry router own)
      (cond b (entry ∷ filter (λ (e : MapEntry). prefixes_match router p e.prefixes) entries)
      (filter (λ (e : MapEntry). prefixes_match router p e.prefixes) entries)))
  step true rest = (all.0, rest)
  step false rest = rest

entries_hold : (P : PlainEntry → Type 0) (router : Router) (own : Option ℕ) (p : Prefix) (name : Option (List ℕ)) → P (whole_entry own) →
    HoldsOfEntries P router own name → AllByRecursion P (entries_for router own p name)
entries_hold P router own p None whole each = (whole, tt)
entries_hold P router own p (Some name) whole each =
    let test = λ (m : RouteMap). bytes_eq m.name name in
    step (route_map_named router name) (found_contained test router.route_maps) (found_passes test router.route_maps) where
      step : (o : Option RouteMap) → IfSome o (Contains router.route_maps) → IfSome o (λ (m : RouteMap). bytes_eq m.name name ≡ true) →
          AllByRecursion P (option_map_or (λ (m : RouteMap). plain_entries router own p m.entries) o [])
      step None contained named = tt
      step (Some m) contained named = kept_hold P router own p m.entries
          (each_contained (λ (entry : MapEntry). P (plain_entry router own entry)) m.entries (each m (record { contained = contained; named = named })))

-- what holds of the entry for an absent map, and of each entry of a map under the name, holds of all
pub plain_holds : (P : PlainEntry → Type 0) (router : Router) (name list : Option (List ℕ)) (p : Prefix) (inbound : Bool) →
    P (whole_entry (own_preference router inbound)) → HoldsOfEntries P router (own_preference router inbound) name
    → AllByRecursion P (plain_of router name list p inbound).entries
plain_holds P router name list p inbound whole each = step (passes_list router p list) where
  step : (b : Bool) → AllByRecursion P (cond b (entries_for router (own_preference router inbound) p name) [])
  step true = entries_hold P router (own_preference router inbound) p name whole each
  step false = tt
