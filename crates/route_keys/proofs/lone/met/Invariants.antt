use Rattle.std.proofs.Common.{◌≡◌, ◌&&◌, ℕ, take, nat_eq, true, IfSome}
use Rattle.std.specs.HashSet.{contains}
use Rattle.base_kit.specs.Sets.{has}
use Rattle.srp_core.specs.Routes.{is_on}
use Rattle.route_keys.proofs.lone.met.Given as goal

abbrev pub invariant-loop-number : goal.invariant-loop-number
invariant-loop-number l = record {
  members : (n : ℕ) → has l.found.items n ≡ contains nat_eq l.numbers n && is_on n (take l.number-index l.path);
  last : IfSome l.last (λ n. has l.found.items n ≡ true);
}
