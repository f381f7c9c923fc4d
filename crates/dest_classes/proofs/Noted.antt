-- The routers that are noted for a prefix are its originators.
use Rattle.std.proofs.Common.{◌≡◌, ℕ, ◌+◌, ◌<◌, suc, Bool, true, false, cond, List, [], ◌∷◌, ◌++◌, Option, Some, None, refl, sym, ◌∙◌, ap, arith, append_assoc, append-nil, length, length-append, ◌-◌, zero, eq-eqb, true≢false}
use Rattle.std.specs.Prelude.{filter_map, find, nat_eq, slice_get, unwrap_or}
use Rattle.std.specs.Option.{option_map, option_map_or}
use Rattle.std.specs.List.{enumerate_from, cons_option}
use Rattle.std.proofs.Math.Seq.{get_or-append_seam}
use Rattle.std.proofs.lemmas.Option.{slice_get-get_or}
use Rattle.std.proofs.lemmas.Bool.Decides.{nat_tests}
use Rattle.base_kit.specs.Prefixes.{Prefix, same_prefix}
use Rattle.cfg_ast.specs.declared.classes.Origin.{Origin}
use Rattle.cfg_ast.specs.declared.network.Router.{Router}
use Rattle.cfg_ast.specs.declared.network.Network.{Network}
use Rattle.cfg_ast.specs.meaning.Classes.{initial_route, origin_at, origins_of}
use Rattle.dest_classes.specs.declared.routes.Route.{Route}
use Rattle.dest_classes.specs.Routes.{routes_on, ends_with_router, with_origin, all_noted, noted_from}
use Rattle.dest_classes.proofs.Starts.{leads_to, start_in, initial_is}

-- a list, if it has an item
abbrev pub some_of : List Origin → Option (List Origin)
some_of [] = None
some_of (origin ∷ origins) = Some (origin ∷ origins)

abbrev AllBelow : ℕ → List Origin → Type 0
AllBelow place [] = Unit {0}
AllBelow place (origin ∷ origins) = (origin.router < place) × AllBelow place origins

abbrev started : ℕ → Option ℕ → Origin
started place cost = record { router = place; cost = cost }

last_is : (origins : List Origin) (origin : Origin) → slice_get (origins ++ origin ∷ []) (length (origins ++ origin ∷ []) - 1) ≡ Some origin
last_is origins origin =
    let place : length (origins ++ origin ∷ []) - 1 ≡ length origins = omega (arith, length-append origins (origin ∷ [])) in
    ap (slice_get (origins ++ origin ∷ [])) place
    ∙ slice_get-get_or (origins ++ origin ∷ []) (length origins) origin (omega (arith, length-append origins (origin ∷ [])))
    ∙ ap Some (get_or-append_seam origins origin [] origin)

ends_with : (place : ℕ) (origins : List Origin) (cost : Option ℕ) → ends_with_router place (origins ++ started place cost ∷ []) ≡ true
ends_with place origins cost = ap (λ o. option_map_or (λ (origin : Origin). nat_eq origin.router place) o false) (last_is origins (started place cost))
    ∙ eq-eqb place place refl

below_at : (place : ℕ) (origins : List Origin) (i : ℕ) → AllBelow place origins →
    option_map_or (λ (origin : Origin). nat_eq origin.router place) (slice_get origins i) false ≡ false
below_at place [] i below = refl
below_at place (origin ∷ origins) zero below = grind (arith, nat_tests, below.0)
below_at place (origin ∷ origins) (suc i) below = below_at place origins i below.1

ends_below : (place : ℕ) (origins : List Origin) → AllBelow place origins → ends_with_router place origins ≡ false
ends_below place origins below = below_at place origins (length origins - 1) below

-- further routes of a router that is noted already change nothing
already : (s e : Bool) (origins more : List Origin) → e ≡ true → cond s (Some (cond e origins more)) (Some origins) ≡ Some origins
already true true origins more ends = refl
already true false origins more ends = absurd (true≢false (sym ends))
already false e origins more ends = refl

noted_already : (p : Prefix) (place : ℕ) (routes : List Route) (origins : List Origin) → ends_with_router place origins ≡ true →
    all_noted p place routes (Some origins) ≡ Some origins
noted_already p place [] origins ends = refl
noted_already p place (route ∷ routes) origins ends =
    ap (all_noted p place routes) (already (same_prefix p route.prefix) (ends_with_router place origins) origins _ ends)
    ∙ noted_already p place routes origins ends

abbrev then_started : ℕ → List Origin → Option (Option ℕ) → List Origin
then_started place origins start = origins ++ cons_option (option_map (started place) start) []

known_of : (origins : List Origin) → unwrap_or (some_of origins) [] ≡ origins
known_of [] = refl
known_of (origin ∷ origins) = refl

some_more : (origins : List Origin) (origin : Origin) → some_of (origins ++ origin ∷ []) ≡ Some (origins ++ origin ∷ [])
some_more [] origin = refl
some_more (other ∷ origins) origin = refl

first_noted : (place : ℕ) (origins : List Origin) (cost : Option ℕ) → AllBelow place origins →
    with_origin (unwrap_or (some_of origins) []) (started place cost) ≡ origins ++ started place cost ∷ []
first_noted place origins cost below =
    ap (λ os. with_origin os (started place cost)) (known_of origins)
    ∙ ap (λ (e : Bool). cond e origins (origins ++ started place cost ∷ [])) (ends_below place origins below)

one_step : (p : Prefix) (place : ℕ) (route : Route) (routes : List Route) (origins : List Origin) (s : Bool) → AllBelow place origins
    → all_noted p place routes (some_of origins) ≡ some_of (then_started place origins (start_in p routes))
    → all_noted p place routes (cond s (Some (with_origin (unwrap_or (some_of origins) []) (started place route.cost))) (some_of origins)) ≡ some_of
    (then_started place origins (option_map (λ (r : Route). r.cost) (cond s (Some route) (find (leads_to p) routes))))
one_step p place route routes origins true below rest =
    ap (λ os. all_noted p place routes (Some os)) (first_noted place origins route.cost below)
    ∙ noted_already p place routes (origins ++ started place route.cost ∷ []) (ends_with place origins route.cost)
    ∙ sym (some_more origins (started place route.cost))
one_step p place route routes origins false below rest = rest

-- the routes of a router add its initial route to the prefix
one_noted : (p : Prefix) (place : ℕ) (routes : List Route) (origins : List Origin) → AllBelow place origins →
    all_noted p place routes (some_of origins) ≡ some_of (then_started place origins (start_in p routes))
one_noted p place [] origins below = ap some_of (sym (append-nil origins))
one_noted p place (route ∷ routes) origins below =
    one_step p place route routes origins (same_prefix p route.prefix) below (one_noted p place routes origins below)

below_more : (place : ℕ) (origins : List Origin) (start : Option (Option ℕ)) → AllBelow place origins → AllBelow (place + 1) (then_started place origins start)
below_more place [] None below = tt
below_more place [] (Some cost) below = (omega arith, tt)
below_more place (origin ∷ origins) start below = (omega (arith, below.0), below_more place origins start below.1)

one_more : (origins rest : List Origin) (o : Option Origin) → (origins ++ cons_option o []) ++ rest ≡ origins ++ cons_option o rest
one_more origins rest None = ap (λ os. os ++ rest) (append-nil origins)
one_more origins rest (Some origin) = append_assoc origins (origin ∷ []) rest

from_noted : (p : Prefix) (place : ℕ) (routers : List Router) (origins : List Origin) → AllBelow place origins
    → noted_from p (enumerate_from place routers) (some_of origins) ≡ some_of (origins ++ filter_map (origin_at p) (enumerate_from place routers))
from_noted p place [] origins below = ap some_of (sym (append-nil origins))
from_noted p place (router ∷ routers) origins below =
    ap (noted_from p (enumerate_from (place + 1) routers))
    (one_noted p place (routes_on router) origins below ∙ ap (λ start. some_of (then_started place origins start)) (initial_is router p))
    ∙ from_noted p (place + 1) routers (then_started place origins (initial_route router p)) (below_more place origins (initial_route router p) below)
    ∙ ap some_of (one_more origins (filter_map (origin_at p) (enumerate_from (place + 1) routers)) (origin_at p (place, router)))

-- what is noted of a prefix in the end are its originators, if it has any
pub noted_is : (network : Network) (p : Prefix) → noted_from p (enumerate_from 0 network.routers) None ≡ some_of (origins_of network p)
unfolding origins_of
noted_is network p = from_noted p 0 network.routers [] tt
