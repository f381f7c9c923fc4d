-- The numbers of lone routers, looked up.
use Rattle.std.specs.Prelude.{◌≡◌, ℕ, nat_eq}
use Rattle.std.specs.HashSet as hash
use Rattle.srp_core.specs.Problem.{Problem, is_lone_number}

-- the set has the numbers of lone routers
abbrev pub HasLoneNumbers : {S : Type 0} → Problem → hash.HashSet ℕ S → Type 0
HasLoneNumbers problem numbers = (n : ℕ) → hash.contains nat_eq numbers n ≡ is_lone_number problem n
