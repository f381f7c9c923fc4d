-- What a route map of a router means for one prefix.
use Rattle.std.specs.Prelude.{◌≡◌, ◌≤◌, ℕ, IfSome, Bool, true, false, not, ◌&&◌, List, [], ◌∷◌, Option, Some, None, map, filter, filter_map, nat_eq, min, if◌then◌else◌}
use Rattle.std.specs.List.{AllByRecursion}
use Rattle.std.specs.Option.{option_map, option_map_or, option_or}
use Rattle.base_kit.specs.Prefixes.{Prefix}
use Rattle.cfg_ast.specs.declared.network.Router.{Router}
use Rattle.cfg_ast.specs.declared.policy.CommunityList.{CommunityList}
use Rattle.cfg_ast.specs.declared.policy.MapEntry.{MapEntry}
use Rattle.cfg_ast.specs.declared.policy.NameLine.{NameLine}
use Rattle.cfg_ast.specs.declared.policy.RouteMap.{RouteMap}
use Rattle.cfg_ast.specs.meaning.Policy.{community_list_named, route_map_named, prefixes_match, deletion_list, prepend_count, passes_list, default_preference, Permitted, passed_by}
use Rattle.route_maps.specs.declared.plain.Plain.{Plain}
use Rattle.route_maps.specs.declared.plain.PlainEntry.{PlainEntry}
use Rattle.route_maps.specs.declared.plain.Verdict.{Verdict}
use Rattle.route_maps.specs.declared.plain.Verdict.TheVariants.{Deny, Permit}
use Rattle.route_maps.specs.Maps.{verdict}

-- the preference that a permit without one gets: inbound, the router's default one, if it is not 100
abbrev pub own_preference : Router → Bool → Option ℕ
own_preference router inbound = if inbound && not (nat_eq (default_preference router) 100) then Some (default_preference router) else None

-- the lists that the router has under the names of a match line
abbrev pub lists_named : Router → Option NameLine → Option (List CommunityList)
lists_named router comms = option_map (λ (line : NameLine). filter_map (community_list_named router) line.names) comms

-- an entry without its prefix match, its lists written out
abbrev pub plain_entry : Router → Option ℕ → MapEntry → PlainEntry
plain_entry router own entry = record {
  seq = entry.seq;
  permit = entry.permit;
  lists = lists_named router entry.comms;
  lp = if entry.permit then option_or entry.lp own else entry.lp;
  change = entry.change;
  delete = deletion_list router entry.delete;
  adds = min (prepend_count entry.prepend) 255;
  exact = entry.exact;
}

-- the entry that stands for an absent map
abbrev pub whole_entry : Option ℕ → PlainEntry
whole_entry own = record { seq = 10; permit = true; lists = None; lp = own; change = None; delete = None; adds = 0; exact = false }

-- the entries whose prefix match is absent or holds
abbrev pub plain_entries : Router → Option ℕ → Prefix → List MapEntry → List PlainEntry
plain_entries router own p entries = map (plain_entry router own) (filter (λ (entry : MapEntry). prefixes_match router p entry.prefixes) entries)

abbrev pub entries_for : Router → Option ℕ → Prefix → Option (List ℕ) → List PlainEntry
entries_for router own p None = whole_entry own ∷ []
entries_for router own p (Some name) = option_map_or (λ (map : RouteMap). plain_entries router own p map.entries) (route_map_named router name) []

-- the map for the prefix; no entry where the prefix list denies it
abbrev pub plain_of : Router → Option (List ℕ) → Option (List ℕ) → Prefix → Bool → Plain
plain_of router map list p inbound = record { entries = if passes_list router p list then entries_for router (own_preference router inbound) p map else [] }

abbrev pub verdict_with : Option ℕ → Option Permitted → Verdict
verdict_with own None = Deny
verdict_with own (Some permitted) = Permit (option_or permitted.lp own) permitted.comms permitted.adds

-- an entry puts at most 255 numbers before a path, as many as a plain entry can say
abbrev pub PrependsFew : MapEntry → Type 0
PrependsFew entry = prepend_count entry.prepend ≤ 255

-- so does each entry of the map that the router has under the name
abbrev pub MapPrependsFew : Router → Option (List ℕ) → Type 0
MapPrependsFew router map = IfSome map (λ name. IfSome (route_map_named router name) (λ m. AllByRecursion PrependsFew m.entries))

-- For every set of communities the plain map's verdict is that of the router's prefix list followed by
-- its map, where a permit without a preference gets the router's own.
abbrev pub KeepsVerdict : Router → Option (List ℕ) → Option (List ℕ) → Prefix → Bool → Plain → Type 0
KeepsVerdict router map list p inbound plain =
    (comms : List ℕ) → verdict plain.entries comms ≡ verdict_with (own_preference router inbound) (passed_by router p list map comms)
