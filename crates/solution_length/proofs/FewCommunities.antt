-- Communities of a set, each once, are no more than the set has.
use Rattle.std.proofs.Common.{◌≡◌, ◌≤◌, ℕ, Bool, true, false, not, ◌&&◌, ◌||◌, List, [], ◌∷◌, filter, length, refl, sym, ap, ◌∙◌, arith, nat_eq}
use Rattle.std.proofs.lemmas.Bool.Decides.{nat_tests}
use Rattle.std.proofs.lemmas.List.Filters.{length-filter_both}
use Rattle.base_kit.specs.Sets.{has, IsAscending}
use Rattle.base_kit.proofs.SetFacts.{ascending_filter, has-filter, one_list}
use Rattle.route_maps.specs.Within.{AreWithin}

both_hold : (a b : Bool) → (a ≡ true → b ≡ true) → a ≡ (a && b)
both_hold true b inside = sym (inside refl)
both_hold false b inside = refl

-- a set within another one has no more numbers
no_more : (xs ys : List ℕ) → IsAscending xs → IsAscending ys → ((c : ℕ) → has xs c ≡ true → has ys c ≡ true) → length xs ≤ length ys
no_more xs ys up up' inside =
    let same : xs ≡ filter (has xs) ys = one_list xs (filter (has xs) ys) up (ascending_filter (has xs) ys up')
    (λ c. both_hold (has xs c) (has ys c) (inside c) ∙ sym (has-filter (has xs) ys c)) in
    omega (arith, ap length same, length-filter_both (has xs) (λ c. not (has xs c)) (λ c. refl) ys)

has_there : (set comms : List ℕ) → AreWithin set comms → (c : ℕ) → has comms c ≡ true → has set c ≡ true
has_there set [] within c there = cc
has_there set (x ∷ comms) within c there = by (has_there set comms within.1 c) (nat_eq x c) refl there
  where
    by : (has comms c ≡ true → has set c ≡ true) → (b : Bool) → nat_eq x c ≡ b → (b || has comms c) ≡ true → has set c ≡ true
    by later true e there = (let same : x ≡ c = grind (arith, nat_tests) in ap (has set) (sym same) ∙ within.0)
    by later false e there = later there

pub few_within : (set comms : List ℕ) → IsAscending set → IsAscending comms → AreWithin set comms → length comms ≤ length set
few_within set comms up up' within = no_more comms set up' up (has_there set comms within)
