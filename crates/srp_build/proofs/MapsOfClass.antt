-- A router's maps mean the same for all prefixes of a class, since they ask only its prefix lists about
-- a prefix.
use Rattle.std.proofs.Common.{◌≡◌, ℕ, Bool, false, List, [], ◌∷◌, map, filter, flat_map, Option, Some, None, inl, inr, refl, sym, ◌∙◌, ap, subst}
use Rattle.std.specs.Prelude.{Contains, bytes_eq, if◌then◌else◌}
use Rattle.std.specs.Option.{option_map_or}
use Rattle.std.specs.List.{list_any}
use Rattle.base_kit.specs.Prefixes.{Prefix}
use Rattle.base_kit.proofs.Elements.{In, in_contains, in_flat_map, map_in, filter_in}
use Rattle.cfg_ast.specs.declared.classes.DestClass.{DestClass}
use Rattle.cfg_ast.specs.declared.network.Network.{Network}
use Rattle.cfg_ast.specs.declared.network.Router.{Router}
use Rattle.cfg_ast.specs.declared.policy.MapEntry.{MapEntry}
use Rattle.cfg_ast.specs.declared.policy.NameLine.{NameLine}
use Rattle.cfg_ast.specs.declared.policy.PrefixList.{PrefixList}
use Rattle.cfg_ast.specs.declared.policy.RouteMap.{RouteMap}
use Rattle.cfg_ast.specs.meaning.Classes.{answers_of, lists_on, originated, is_same_class, is_least, class_of, classes_of}
use Rattle.cfg_ast.specs.meaning.Policy.{prefix_list_named, prefixes_permitted_by, prefixes_match, passes_list, route_map_named}
use Rattle.cfg_ast.specs.meaning.PrefixLists.{prefix_list_permits}
use Rattle.cfg_ast.proofs.ClassFacts.{one_class}
use Rattle.route_maps.specs.declared.plain.Plain.{Plain}
use Rattle.route_maps.specs.declared.plain.PlainEntry.{PlainEntry}
use Rattle.specialize.specs.OnePrefix.{own_preference, plain_entry, plain_entries, entries_for, plain_of}
use Rattle.srp_build.proofs.OspfRoutes.{found}

map_agree : {X : Type 0} (f g : X → Bool) (xs : List X) (x : X) → map f xs ≡ map g xs → In xs x → f x ≡ g x
map_agree f g [] x e at = absurd at
map_agree f g (y ∷ ys) x e (inl same) = sym (ap f same) ∙ (let first : f y ≡ g y = cc in first) ∙ ap g same
map_agree f g (y ∷ ys) x e (inr at) = map_agree f g ys x (let rest : map f ys ≡ map g ys = cc in rest) at

module _ (network : Network) (p q : Prefix) (same : answers_of network p ≡ answers_of network q) (r : Router) (r_in : In network.routers r) where
  permits_alike : (list : PrefixList) → In r.prefix_lists list → prefix_list_permits list p ≡ prefix_list_permits list q
  unfolding answers_of
  permits_alike list at = map_agree (λ (l : PrefixList). prefix_list_permits l p) (λ (l : PrefixList). prefix_list_permits l q)
      (flat_map lists_on network.routers) list same (in_flat_map lists_on network.routers r list r_in at)

  by_list : (name : List ℕ) (o : Option PrefixList) → prefix_list_named r name ≡ o →
      option_map_or (λ (l : PrefixList). prefix_list_permits l p) o false ≡ option_map_or (λ (l : PrefixList). prefix_list_permits l q) o false
  by_list name None e = refl
  by_list name (Some list) e = permits_alike list (found (λ (l : PrefixList). bytes_eq l.name name) r.prefix_lists list e).0

  same_permitted : (name : List ℕ) → prefixes_permitted_by r p name ≡ prefixes_permitted_by r q name
  same_permitted name = by_list name (prefix_list_named r name) refl

  same_passes : (list : Option (List ℕ)) → passes_list r p list ≡ passes_list r q list
  same_passes None = refl
  same_passes (Some name) = same_permitted name

  same_match : (prefixes : Option NameLine) → prefixes_match r p prefixes ≡ prefixes_match r q prefixes
  same_match None = refl
  same_match (Some line) = λ j. list_any (λ name. same_permitted name j) line.names

  same_entries : (own : Option ℕ) (entries : List MapEntry) → plain_entries r own p entries ≡ plain_entries r own q entries
  same_entries own entries = λ j. map (plain_entry r own) (filter (λ (entry : MapEntry). same_match entry.prefixes j) entries)

  same_for : (own : Option ℕ) (name : Option (List ℕ)) → entries_for r own p name ≡ entries_for r own q name
  same_for own None = refl
  same_for own (Some name) = λ j. option_map_or (λ (m : RouteMap). same_entries own m.entries j) (route_map_named r name) []

  abbrev with_entries : List PlainEntry → Plain
  with_entries entries = record { entries = entries }

  pub same_plain : (name list : Option (List ℕ)) (inbound : Bool) → plain_of r name list p inbound ≡ plain_of r name list q inbound
  same_plain name list inbound = λ j. with_entries (if same_passes list j then same_for (own_preference r inbound) name j else [])

answers_in : (network : Network) (class : DestClass) (q p : Prefix) → class_of network q ≡ class → In class.prefixes p →
    answers_of network q ≡ answers_of network p
answers_in network class q p is at =
    let among : In (class_of network q).prefixes p = subst (λ (c : DestClass). In c.prefixes p) (sym is) at in
    (one_class network q p (filter_in (is_same_class network q) (originated network) p among).1).answers

-- the lists answer alike to two prefixes of a class
pub answers_of_class : (network : Network) (class : DestClass) (p q : Prefix) → Contains (classes_of network) class → Contains class.prefixes p →
    Contains class.prefixes q → answers_of network p ≡ answers_of network q
unfolding classes_of
answers_of_class network class p q has at also =
    let of = map_in (class_of network) (filter (is_least network) (originated network)) class (in_contains _ class has) in
    sym (answers_in network class of.0 p of.2 (in_contains class.prefixes p at)) ∙ answers_in network class of.0 q of.2 (in_contains class.prefixes q also)

pub maps_of_class : (network : Network) (class : DestClass) (p q : Prefix) → Contains (classes_of network) class → Contains class.prefixes p →
    Contains class.prefixes q → (r : Router) → Contains network.routers r
    → (name list : Option (List ℕ)) (inbound : Bool) → plain_of r name list p inbound ≡ plain_of r name list q inbound
maps_of_class network class p q has at also r r_in name list inbound =
    same_plain network p q (answers_of_class network class p q has at also) r (in_contains network.routers r r_in) name list inbound
