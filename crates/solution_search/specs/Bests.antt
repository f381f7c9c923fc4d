-- The best route that a router is offered, and how a further one compares with it.
use Rattle.std.specs.Prelude.{◌≡◌, ◌≢◌, ℕ, Bool, true, false, List, Option, Some, None, if◌then◌else◌}
use Rattle.std.specs.Ordering.{nat_cmp}
use Rattle.std.specs.Cmp.Lexicographic.{slice_cmp}
use Rattle.std.specs.declared.cmp.Ordering.{Ordering}
use Rattle.std.specs.declared.cmp.Ordering.TheVariants.{Less, Equal, Greater}
use Rattle.srp_core.specs.declared.route.Route.{Route}
use Rattle.srp_core.specs.Routes.{Key, path_of, comms_of, chosen, compare_keys}
use Rattle.srp_core.specs.Problem.{Problem, is_lone_number, key_of}
use Rattle.srp_core.specs.Weak.{compare_weak}
use Rattle.route_keys.specs.Keys.{key_with}
use Rattle.solution_search.specs.declared.bests.Best.{Best}
use Rattle.solution_search.specs.declared.bests.Difference.{Difference}
use Rattle.solution_search.specs.declared.bests.Difference.TheVariants.{Communities, Path}
use Rattle.solution_search.specs.declared.bests.Rank.{Rank}
use Rattle.solution_search.specs.declared.bests.Rank.TheVariants as rank

-- ---- how offers compare

abbrev pub key_of_best : Best → Key
key_of_best best = key_with best.route best.lone

-- by preference and size, then by communities, then by lone numbers
abbrev pub rank_by : Ordering → Ordering → Ordering → Rank
rank_by Less comms lone = rank.Better
rank_by Greater comms lone = rank.Worse
rank_by Equal Less lone = rank.TiedBetter Communities
rank_by Equal Greater lone = rank.TiedWorse Communities
rank_by Equal Equal Less = rank.TiedBetter Path
rank_by Equal Equal Greater = rank.TiedWorse Path
rank_by Equal Equal Equal = rank.Equal

-- how an offer compares with a route that has these lone numbers
abbrev pub rank_over : Best → Route → List ℕ → Rank
rank_over offer route lone = rank_by (compare_weak (key_of_best offer) (key_with route lone))
    (slice_cmp nat_cmp (comms_of offer.route) (comms_of route)) (slice_cmp nat_cmp offer.lone lone)

abbrev pub rank_of : Best → Best → Rank
rank_of offer best = rank_over offer best.route best.lone

abbrev pub with_tie : Best → Difference → Best
with_tie best difference = record { route = best.route; lone = best.lone; tied = Some difference }

-- whether a difference is reported already: one of communities covers both
abbrev pub told : Option Difference → Difference → Bool
told None by = false
told (Some Communities) by = true
told (Some Path) Communities = false
told (Some Path) Path = true

abbrev pub joined : Option Difference → Difference → Difference
joined None by = by
joined (Some Communities) by = Communities
joined (Some Path) by = by

-- what stands in the place of the best offer once there is a further one of that rank
abbrev pub replaced : Rank → Best → Best → Option Best
replaced rank.Better best offer = Some offer
replaced (rank.TiedBetter difference) best offer = Some (with_tie offer (joined best.tied difference))
replaced (rank.TiedWorse difference) best offer = if told best.tied difference then None else Some (with_tie best difference)
replaced rank.Equal best offer = None
replaced rank.Worse best offer = None

-- the route as an offer that no other ties with
abbrev pub fresh_of : Problem → Route → Best
fresh_of problem route = record { route = route; lone = chosen (is_lone_number problem) (path_of route); tied = None }

-- the lone numbers on the path are right, and no tie is reported
pub record IsFresh (problem : Problem) (offer : Best) : Type 0 where
  pub lone : offer.lone ≡ chosen (is_lone_number problem) (path_of offer.route)
  pub untied : offer.tied ≡ None

-- ---- what is known of some routes

-- Of the routes that are met this one is held, and none beats it. Where no tie is reported, those of its
-- preference and size have its key.
pub record IsBestOf (problem : Problem) (IsMet : Route → Type 0) (best : Best) : Type 0 where
  pub held : IsMet best.route
  pub lone : best.lone ≡ chosen (is_lone_number problem) (path_of best.route)
  pub unbeaten : (c : Route) → IsMet c → compare_keys (key_of problem c) (key_of problem best.route) ≢ Less
  pub same : best.tied ≡ None → (c : Route) → IsMet c → compare_weak (key_of problem c) (key_of problem best.route) ≡ Equal →
      key_of problem c ≡ key_of problem best.route

-- no route is met, or the best one is known
pub record KnowsBest (problem : Problem) (IsMet : Route → Type 0) (known : Option Best) : Type 0 where
  pub none : known ≡ None → (c : Route) → ¬ IsMet c
  pub some : (best : Best) → known ≡ Some best → IsBestOf problem IsMet best

-- the label is met, and none beats it; where no tie is reported, those of its preference and size have its key
pub record HoldsBest (problem : Problem) (tied : Bool) (IsMet : Route → Type 0) (route : Route) : Type 0 where
  pub held : IsMet route
  pub unbeaten : (c : Route) → IsMet c → compare_keys (key_of problem c) (key_of problem route) ≢ Less
  pub same : tied ≡ false → (c : Route) → IsMet c → compare_weak (key_of problem c) (key_of problem route) ≡ Equal →
      key_of problem c ≡ key_of problem route
