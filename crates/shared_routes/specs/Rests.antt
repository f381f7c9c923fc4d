-- What a path is made of.
use Rattle.std.specs.Prelude.{◌≡◌, ◌<◌, ◌++◌, ℕ, List, [], length}
use Rattle.shared_routes.specs.declared.paths.Rest.{Rest}
use Rattle.shared_routes.specs.declared.paths.Rest.TheVariants.{Nothing, Shared}

-- the numbers of a rest
abbrev pub numbers_of : Rest → List ℕ
numbers_of Nothing = []
numbers_of (Shared path) = path.value

-- a rest that is shared follows at least one number
abbrev pub FollowsNumbers : List ℕ → Rest → Type 0
FollowsNumbers own Nothing = Unit {0}
FollowsNumbers own (Shared path) = 0 < length own

-- the total is that of the own numbers and of the rest
pub record IsPath (total : ℕ) (own : List ℕ) (rest : Rest) : Type 0 where
  pub counted : total ≡ length (own ++ numbers_of rest)
  pub follows : FollowsNumbers own rest

-- the other rest has the same numbers, and may stand where this one stands
pub record KeepsRest (rest other : Rest) : Type 0 where
  pub same : numbers_of other ≡ numbers_of rest
  pub follows : (own : List ℕ) → FollowsNumbers own rest → FollowsNumbers own other
