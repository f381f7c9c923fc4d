-- The classes of a network in which a neighbour has `shutdown`.
use Rattle.std.proofs.Common.{◌≡◌, ℕ, zero, suc, ◌+◌, Bool, not, ◌&&◌, List, [], ◌∷◌, map, Option, Some, None, refl, sym, ◌∙◌, ap}
use Rattle.std.specs.Prelude.{filter, filter_map, is_some}
use Rattle.std.specs.Bool.{beq}
use Rattle.std.specs.List.{list_any, enumerate_from, cons_option}
use Rattle.base_kit.specs.Prefixes.{Prefix}
use Rattle.cfg_ast.specs.declared.bgp.BgpProcess.{BgpProcess}
use Rattle.cfg_ast.specs.declared.classes.DestClass.{DestClass}
use Rattle.cfg_ast.specs.declared.classes.Origin.{Origin}
use Rattle.cfg_ast.specs.declared.network.Network.{Network}
use Rattle.cfg_ast.specs.declared.network.Router.{Router}
use Rattle.cfg_ast.specs.meaning.Classes.{up_subnet, is_before, initial_route, originated_by, originated, with_prefixes, origin_at, origins_of, lists_on, answers_of, same_origin, same_items, is_same_class, classes_of}
use Rattle.cfg_ast.specs.meaning.PrefixLists.{prefix_list_permits}
use Rattle.std.specs.Option.{option_map}
use Rattle.shutdown_laws.specs.Shutdown.{changed_at, shut_in, shut_on, with_shutdown}
use Rattle.shutdown_laws.proofs.ChangedLists.{flat_map_changed}

initial_shut : (i : ℕ) (p : Prefix) (router : Router) (o : Option BgpProcess) →
    initial_route (record router { bgp = option_map (shut_in i) o }) p ≡ initial_route (record router { bgp = o }) p
initial_shut i p router None = refl
initial_shut i p router (Some process) = refl

initial_same : (i : ℕ) (router : Router) (p : Prefix) → initial_route (shut_on i router) p ≡ initial_route router p
initial_same i router p = initial_shut i p router router.bgp

module _ (n : Network) (r i : ℕ) where
  originated_same : originated (with_shutdown n r i) ≡ originated n
  unfolding originated
  originated_same = ap (λ ps. with_prefixes ps []) (flat_map_changed originated_by (shut_on i)
      (λ router. λ t. filter (λ p. is_some (initial_same i router p t)) (filter_map up_subnet router.interfaces)) r n.routers)

  origins_from : (p : Prefix) (k j : ℕ) (routers : List Router) →
      filter_map (origin_at p) (enumerate_from k (changed_at (shut_on i) j routers)) ≡ filter_map (origin_at p) (enumerate_from k routers)
  origins_from p k j [] = refl
  origins_from p k zero (router ∷ routers) =
      ap (λ o. cons_option (option_map (λ cost. record { router = k; cost = cost }) o) (filter_map (origin_at p) (enumerate_from (k + 1) routers)))
      (initial_same i router p)
  origins_from p k (suc j) (router ∷ routers) = ap (cons_option (origin_at p (k, router))) (origins_from p (k + 1) j routers)

  origins_same : (p : Prefix) → origins_of (with_shutdown n r i) p ≡ origins_of n p
  unfolding origins_of
  origins_same p = origins_from p 0 r n.routers

  answers_same : (p : Prefix) → answers_of (with_shutdown n r i) p ≡ answers_of n p
  unfolding answers_of
  answers_same p = ap (map (λ list. prefix_list_permits list p)) (flat_map_changed lists_on (shut_on i) (λ router. refl) r n.routers)

  -- classes are made from the prefixes, their origins and the answers of lists to them
  abbrev class_from : List Prefix → (Prefix → List Origin) → (Prefix → List Bool) → List DestClass
  class_from all origins answers = map (λ p. record {
    prefixes = filter (λ q. same_items same_origin (origins p) (origins q) && same_items beq (answers p) (answers q)) all;
    origins = origins p;
  }) (filter (λ p. not (list_any (λ q. is_before q p
      && (same_items same_origin (origins q) (origins p) && same_items beq (answers q) (answers p))) all)) all)

  from_parts : (m : Network) → classes_of m ≡ class_from (originated m) (origins_of m) (answers_of m)
  unfolding classes_of is_same_class
  from_parts m = refl

  pub same_classes : classes_of (with_shutdown n r i) ≡ classes_of n
  same_classes = from_parts (with_shutdown n r i)
      ∙ (λ t. class_from (originated_same t) (λ p. origins_same p t) (λ p. answers_same p t))
      ∙ sym (from_parts n)
