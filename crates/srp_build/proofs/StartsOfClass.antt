-- The origins of a class give the initial routes to each of its prefixes.
use Rattle.std.proofs.Common.{◌≡◌, ℕ, ◌+◌, ◌≤◌, Bool, cond, List, [], ◌∷◌, map, Option, Some, None, refl, sym, ◌∙◌, ap, subst, arith}
use Rattle.std.specs.Prelude.{Contains, filter, filter_map}
use Rattle.std.specs.Option.{option_map}
use Rattle.std.specs.List.{enumerate_from, cons_option}
use Rattle.base_kit.specs.Prefixes.{Prefix}
use Rattle.base_kit.proofs.Elements.{In, in_contains, map_in, filter_in}
use Rattle.base_kit.proofs.SetFacts.{same_number, other_number}
use Rattle.cfg_ast.specs.declared.classes.DestClass.{DestClass}
use Rattle.cfg_ast.specs.declared.classes.Origin.{Origin}
use Rattle.cfg_ast.specs.declared.network.Network.{Network}
use Rattle.cfg_ast.specs.declared.network.Router.{Router}
use Rattle.cfg_ast.specs.meaning.Classes.{initial_route, origin_at, origins_of, originated, is_same_class, is_least, class_of, classes_of}
use Rattle.cfg_ast.proofs.ClassFacts.{one_class}
use Rattle.srp_core.specs.declared.route.Route.{Route}
use Rattle.srp_core.specs.ProblemOf.{route_from, start_route}
use Rattle.srp_build.specs.Starts.{first_cost_at, origins_behind, starts_from}

-- the origins are at that place or later ones
abbrev AllFrom : ℕ → List Origin → Type 0
AllFrom n [] = Unit {0}
AllFrom n (origin ∷ origins) = (n ≤ origin.router) × AllFrom n origins

from_less : (m n : ℕ) (origins : List Origin) → m ≤ n → AllFrom n origins → AllFrom m origins
from_less m n [] le all = tt
from_less m n (origin ∷ origins) le all = (let first = all.0 in omega arith, from_less m n origins le all.1)

from_option : (n : ℕ) (o : Option (Option ℕ)) (more : List Origin) → AllFrom (n + 1) more →
    AllFrom n (cons_option (option_map (λ (cost : Option ℕ). let origin : Origin = record { router = n; cost = cost } in origin) o) more)
from_option n None more all = from_less n (n + 1) more (omega arith) all
from_option n (Some cost) more all = (omega arith, from_less n (n + 1) more (omega arith) all)

later : (p : Prefix) (n : ℕ) (routers : List Router) → AllFrom n (filter_map (origin_at p) (enumerate_from n routers))
later p n [] = tt
later p n (router ∷ routers) = from_option n (initial_route router p) (filter_map (origin_at p) (enumerate_from (n + 1) routers)) (later p (n + 1) routers)

first_later : (place : ℕ) (more : List Origin) → AllFrom (place + 1) more → first_cost_at place more ≡ None
first_later place [] all = refl
first_later place (origin ∷ origins) all =
    ap (λ (b : Bool). cond b (Some origin.cost) None) (other_number origin.router place (λ e. let first = all.0 in absurd (omega arith)))

behind_later : (place : ℕ) (more : List Origin) → AllFrom (place + 1) more → origins_behind place more ≡ more
behind_later place [] all = refl
behind_later place (origin ∷ origins) all =
    ap (λ (b : Bool). cond b origins (origin ∷ origins)) (other_number origin.router place (λ e. let first = all.0 in absurd (omega arith)))

start_step : (place : ℕ) (router : Router) (routers : List Router) (o : Option (Option ℕ)) (more : List Origin) → AllFrom (place + 1) more
    → starts_from place (cons_option (option_map (λ (cost : Option ℕ). let origin : Origin = record { router = place; cost = cost } in origin) o) more)
    (router ∷ routers) ≡ option_map (route_from router) o ∷ starts_from (place + 1) more routers
start_step place router routers None more all =
    ap (λ (o : Option (Option ℕ)). option_map (route_from router) o ∷ starts_from (place + 1) (origins_behind place more) routers) (first_later place more all)
    ∙ ap (λ (l : List Origin). None ∷ starts_from (place + 1) l routers) (behind_later place more all)
start_step place router routers (Some cost) more all =
    ap (λ (b : Bool). option_map (route_from router) (cond b (Some cost) None) ∷ starts_from (place + 1)
    (cond b more ((let origin : Origin = record { router = place; cost = cost } in origin) ∷ more)) routers) (same_number place place refl)

-- the origins of a prefix give the initial routes to it
starts_are : (p : Prefix) (place : ℕ) (routers : List Router) →
    starts_from place (filter_map (origin_at p) (enumerate_from place routers)) routers ≡ map (start_route p) routers
starts_are p place [] = refl
starts_are p place (router ∷ routers) =
    start_step place router routers (initial_route router p) (filter_map (origin_at p) (enumerate_from (place + 1) routers)) (later p (place + 1) routers)
    ∙ ap (λ (l : List (Option Route)). start_route p router ∷ l) (starts_are p (place + 1) routers)

starts_of_prefix : (network : Network) (p : Prefix) → starts_from 0 (origins_of network p) network.routers ≡ map (start_route p) network.routers
unfolding origins_of
starts_of_prefix network p = starts_are p 0 network.routers

origins_of_class : (network : Network) (class : DestClass) (q p : Prefix) → class_of network q ≡ class → In class.prefixes p →
    class.origins ≡ origins_of network p
origins_of_class network class q p is at =
    let among : In (class_of network q).prefixes p = subst (λ (c : DestClass). In c.prefixes p) (sym is) at in
    let same = filter_in (is_same_class network q) (originated network) p among in
    sym (ap (λ (c : DestClass). c.origins) is) ∙ (one_class network q p same.1).origins

-- the origins of a class give the initial routes to each of its prefixes
pub starts_of_class : (network : Network) (class : DestClass) (p : Prefix) → Contains (classes_of network) class → Contains class.prefixes p →
    starts_from 0 class.origins network.routers ≡ map (start_route p) network.routers
unfolding classes_of
starts_of_class network class p has at =
    let of = map_in (class_of network) (filter (is_least network) (originated network)) class (in_contains _ class has) in
    ap (λ (l : List Origin). starts_from 0 l network.routers) (origins_of_class network class of.0 p of.2 (in_contains class.prefixes p at))
    ∙ starts_of_prefix network p

-- the origins of a class give the initial routes to some prefix
pub starts_of_some : (network : Network) (class : DestClass) → Contains (classes_of network) class →
    (q : Prefix) × (starts_from 0 class.origins network.routers ≡ map (start_route q) network.routers)
unfolding classes_of
starts_of_some network class has =
    let of = map_in (class_of network) (filter (is_least network) (originated network)) class (in_contains _ class has) in
    (of.0, ap (λ (l : List Origin). starts_from 0 l network.routers) (sym (ap (λ (c : DestClass). c.origins) of.2)) ∙ starts_of_prefix network of.0)
