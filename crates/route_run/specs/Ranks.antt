-- Routers by the sizes of their labels.
use Rattle.std.specs.Prelude.{◌≡◌, ℕ, ◌<◌, ◌^◌, List, Option, Some, None}
use Rattle.srp_core.specs.declared.route.Route.{Route}
use Rattle.srp_core.specs.Routes.{size_of}
use Rattle.srp_core.specs.Stability.{label}
use Rattle.route_run.specs.declared.order.Rank.{Rank}

-- the size of a label, and a number above all sizes where there is none
abbrev pub size_or_last : Option Route → ℕ
size_or_last None = 18446744073709551616
size_or_last (Some r) = size_of r

abbrev pub rank_at : List (Option Route) → ℕ → Rank
rank_at labels router = record { router = router; size = size_or_last (label labels router) }

abbrev pub rank_size : Rank → ℕ
rank_size rank = rank.size

-- no size reaches that number
abbrev pub AreShort : List (Option Route) → Type 0
AreShort labels = (u : ℕ) (r : Route) → label labels u ≡ Some r → size_of r < 2 ^ 64
