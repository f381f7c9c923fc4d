-- A set has its own numbers.
use Rattle.std.proofs.Common.{◌≡◌, ℕ, Bool, true, false, ◌||◌, nat_eq, List, [], ◌∷◌, refl, arith}
use Rattle.std.proofs.lemmas.Bool.Decides.{nat_tests}
use Rattle.base_kit.specs.Sets.{has}
use Rattle.route_maps.specs.Within.{AreWithin}

same_number : (x : ℕ) → nat_eq x x ≡ true
same_number x = grind (arith, nat_tests)

either : (a b : Bool) → b ≡ true → a || b ≡ true
either true b found = refl
either false b found = found

has_first : (x : ℕ) (xs : List ℕ) → has (x ∷ xs) x ≡ true
has_first x xs = rw (same_number x) refl

within_more : (more xs : List ℕ) → ((c : ℕ) → has xs c ≡ true → has more c ≡ true) → AreWithin more xs
within_more more [] there = tt
within_more more (x ∷ xs) there = (there x (has_first x xs), within_more more xs (λ c found. there c (either (nat_eq x c) (has xs c) found)))

pub within_itself : (set : List ℕ) → AreWithin set set
within_itself set = within_more set set (λ c found. found)
