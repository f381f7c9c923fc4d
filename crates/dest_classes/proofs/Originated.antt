-- The originated prefixes are those that have an originator.
use Rattle.std.proofs.Common.{◌≡◌, ℕ, ◌+◌, Bool, true, false, cond, ◌&&◌, ◌||◌, List, [], ◌∷◌, Option, Some, None, refl, sym, ◌∙◌, ap, true≢false}
use Rattle.std.specs.Prelude.{filter, filter_map, flat_map, find, is_some}
use Rattle.std.specs.Option.{option_map, option_map_or}
use Rattle.std.specs.List.{list_any, enumerate_from, cons_option}
use Rattle.std.proofs.lemmas.List.Folds.{list_any-append}
use Rattle.base_kit.specs.Prefixes.{Prefix, same_prefix}
use Rattle.cfg_ast.specs.declared.bgp.BgpProcess.{BgpProcess}
use Rattle.cfg_ast.specs.declared.classes.Origin.{Origin}
use Rattle.cfg_ast.specs.declared.interface.Interface.{Interface}
use Rattle.cfg_ast.specs.declared.network.Network.{Network}
use Rattle.cfg_ast.specs.declared.network.Router.{Router}
use Rattle.cfg_ast.specs.meaning.Classes.{has_prefix, up_subnet, is_up_in, route_by_process, initial_route, originated_by, originated, origin_at, origins_of}
use Rattle.cfg_ast.specs.meaning.Topology.{is_in_area_interface, cost_of_interface}
use Rattle.cfg_ast.proofs.PrefixSets.{one_prefix, has-with_prefixes}
use Rattle.dest_classes.proofs.Noted.{some_of}

or_nothing : (b : Bool) → (b || false) ≡ b
or_nothing true = refl
or_nothing false = refl

-- some up interface has the prefix
has_subnet : (p : Prefix) (xs : List Interface) → has_prefix (filter_map up_subnet xs) p ≡ list_any (is_up_in p) xs
has_subnet p [] = refl
has_subnet p (x ∷ xs) = step (up_subnet x) (has_subnet p xs) where
  step : (o : Option Prefix) → has_prefix (filter_map up_subnet xs) p ≡ list_any (is_up_in p) xs →
      has_prefix (cons_option o (filter_map up_subnet xs)) p ≡ (option_map_or (same_prefix p) o false || list_any (is_up_in p) xs)
  step None rest = rest
  step (Some q) rest = ap (λ b. same_prefix p q || b) rest

has_kept : (p : Prefix) (test : Prefix → Bool) (ps : List Prefix) → has_prefix (filter test ps) p ≡ (test p && has_prefix ps p)
has_kept p test [] = and_nothing (test p) where
  and_nothing : (b : Bool) → false ≡ (b && false)
  and_nothing true = refl
  and_nothing false = refl
has_kept p test (q ∷ qs) = step (test q) (same_prefix p q) (test p) (λ same. ap test (one_prefix p q same)) refl (has_kept p test qs) where
  step : (b s t : Bool) → (same_prefix p q ≡ true → t ≡ b) → same_prefix p q ≡ s → has_prefix (filter test qs) p ≡ (t && has_prefix qs p) →
      has_prefix (cond b (q ∷ filter test qs) (filter test qs)) p ≡ (t && (s || has_prefix qs p))
  step true true true one same rest = ap (λ b. b || has_prefix (filter test qs) p) same
  step true true false one same rest = absurd (true≢false (sym (one same)))
  step true false t one same rest = ap (λ b. b || has_prefix (filter test qs) p) same ∙ rest
  step false true true one same rest = absurd (true≢false (one same))
  step false true false one same rest = rest
  step false false t one same rest = rest

-- what a router originates is the subnet of one of its up interfaces
found_up : (router : Router) (p : Prefix) (xs : List Interface) →
    is_some (option_map cost_of_interface (find (λ x. is_in_area_interface router x && is_up_in p x) xs)) ≡ true → list_any (is_up_in p) xs ≡ true
found_up router p [] found = absurd (true≢false (sym found))
found_up router p (x ∷ xs) found = step (is_in_area_interface router x) (is_up_in p x) found (found_up router p xs) where
  step : (a u : Bool) → is_some (option_map cost_of_interface (cond (a && u) (Some x) (find (λ x. is_in_area_interface router x && is_up_in p x) xs))) ≡ true
      → (is_some (option_map cost_of_interface (find (λ x. is_in_area_interface router x && is_up_in p x) xs)) ≡ true → list_any (is_up_in p) xs ≡ true) →
      (u || list_any (is_up_in p) xs) ≡ true
  step a true found rest = refl
  step true false found rest = rest found
  step false false found rest = rest found

announced_up : (n u : Bool) → is_some {T = Option ℕ} (cond (n && u) (Some None) None) ≡ true → u ≡ true
announced_up true true e = refl
announced_up true false e = absurd (true≢false (sym e))
announced_up false u e = absurd (true≢false (sym e))

starts_up : (router : Router) (p : Prefix) (bgp : Option BgpProcess) → is_some (route_by_process router bgp p) ≡ true →
    list_any (is_up_in p) router.interfaces ≡ true
starts_up router p (Some process) starts = announced_up _ (list_any (is_up_in p) router.interfaces) starts
starts_up router p None starts = found_up router p router.interfaces starts

and_is : (a b : Bool) → (a ≡ true → b ≡ true) → (a && b) ≡ a
and_is true b implied = implied refl
and_is false b implied = refl

has_originated_by : (p : Prefix) (router : Router) → has_prefix (originated_by router) p ≡ is_some (initial_route router p)
has_originated_by p router =
    has_kept p (λ q. is_some (initial_route router q)) (filter_map up_subnet router.interfaces)
    ∙ and_is (is_some (initial_route router p)) (has_prefix (filter_map up_subnet router.interfaces) p)
    (λ starts. has_subnet p router.interfaces ∙ starts_up router p router.bgp starts)

has_in_all : (p : Prefix) (routers : List Router) →
    has_prefix (flat_map originated_by routers) p ≡ list_any (λ router. is_some (initial_route router p)) routers
has_in_all p [] = refl
has_in_all p (router ∷ routers) =
    list_any-append (same_prefix p) (originated_by router) (flat_map originated_by routers)
    ∙ ap (λ b. b || has_prefix (flat_map originated_by routers) p) (has_originated_by p router)
    ∙ ap (λ b. is_some (initial_route router p) || b) (has_in_all p routers)

has_origins : (p : Prefix) (place : ℕ) (routers : List Router) →
    is_some (some_of (filter_map (origin_at p) (enumerate_from place routers))) ≡ list_any (λ router. is_some (initial_route router p)) routers
has_origins p place [] = refl
has_origins p place (router ∷ routers) = step (initial_route router p) (has_origins p (place + 1) routers) where
  step : (o : Option (Option ℕ)) → is_some (some_of (filter_map (origin_at p) (enumerate_from (place + 1) routers))) ≡ list_any
      (λ router. is_some (initial_route router p)) routers
      → is_some (some_of (cons_option (option_map (λ cost. let origin : Origin = record { router = place; cost = cost } in origin) o)
      (filter_map (origin_at p) (enumerate_from (place + 1) routers)))) ≡ (is_some o || list_any (λ router. is_some (initial_route router p)) routers)
  step None rest = rest
  step (Some cost) rest = refl

-- a prefix is originated if it has an originator
pub has_originated : (network : Network) (p : Prefix) → has_prefix (originated network) p ≡ is_some (some_of (origins_of network p))
unfolding originated origins_of
has_originated network p =
    has-with_prefixes (flat_map originated_by network.routers) [] p ∙ or_nothing (has_prefix (flat_map originated_by network.routers) p)
    ∙ has_in_all p network.routers ∙ sym (has_origins p 0 network.routers)
