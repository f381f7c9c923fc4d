-- The rest of a path is shorter than the path.
use Rattle.std.specs.Prelude.{◌≤◌, ◌++◌, ℕ, List, length, max}
use Rattle.std.proofs.Common.{arith, length-append}
use Rattle.shared_routes.specs.declared.paths.Rest.{Rest}
use Rattle.shared_routes.specs.declared.paths.Rest.TheVariants.{Nothing, Shared}
use Rattle.shared_routes.specs.declared.paths.SharedPath.TheDeep.{deep-Rest}
use Rattle.shared_routes.specs.Rests.{IsPath, FollowsNumbers, numbers_of}

-- no rest is deeper than the path has numbers
rest_under : (own : List ℕ) (rest : Rest) → FollowsNumbers own rest → max (deep-Rest rest) 0 ≤ length (own ++ numbers_of rest)
rest_under own Nothing follows = omega arith
rest_under own (Shared path) follows = omega (arith, length-append own path.value)

pub rest_falls : (own : List ℕ) (rest : Rest) (total : ℕ) → IsPath total own rest → max (deep-Rest rest) 0 ≤ length (own ++ numbers_of rest)
rest_falls own rest total h = rest_under own rest h.follows
