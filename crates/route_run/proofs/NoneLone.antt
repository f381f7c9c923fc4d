-- Two cases in which the lone numbers of paths need not be sought: no number is lone, or the paths are
-- equal.
use Rattle.std.proofs.Common.{◌≡◌, ℕ, Bool, false, List, [], ◌∷◌, length, refl, sym, ap, ◌∙◌, arith, nat_eq}
use Rattle.std.specs.HashSet.{HashSet, contains, hash_set_len}
use Rattle.std.specs.List.{list_any}
use Rattle.std.specs.Ordering.{nat_cmp}
use Rattle.std.specs.Cmp.Lexicographic.{slice_cmp}
use Rattle.std.specs.declared.cmp.Ordering.TheVariants.{Equal}
use Rattle.std.proofs.lemmas.Bool.{cond-false}
use Rattle.std.proofs.lemmas.Cmp.{nat_list_cmp_total, tied_itself}
use Rattle.base_kit.specs.Sets.{with_number}
use Rattle.srp_core.specs.Routes.{chosen}

none_passes : (test : ℕ → Bool) → ((n : ℕ) → test n ≡ false) → (path : List ℕ) → chosen test path ≡ []
unfolding chosen
none_passes test none [] = refl
none_passes test none (number ∷ path) = cond-false (test number) (with_number number (chosen test path)) (chosen test path) (none number)
    ∙ none_passes test none path

no_keys : (keys : List ℕ) → length keys ≡ 0 → (n : ℕ) → list_any (nat_eq n) keys ≡ false
no_keys [] e n = refl
no_keys (key ∷ keys) e n = absurd (omega arith)

pub none_tie : {S : Type 0} (numbers : HashSet ℕ S) → hash_set_len numbers ≡ 0 → (path other : List ℕ) →
    Equal ≡ slice_cmp nat_cmp (chosen (contains nat_eq numbers) path) (chosen (contains nat_eq numbers) other)
none_tie numbers none path other =
    let first = none_passes (contains nat_eq numbers) (no_keys numbers.keys none) path in
    let second = none_passes (contains nat_eq numbers) (no_keys numbers.keys none) other in
    sym (ap (λ (l : List ℕ). slice_cmp nat_cmp l (chosen (contains nat_eq numbers) other)) first ∙ ap (slice_cmp nat_cmp []) second)

pub equal_tie : (test : ℕ → Bool) (path other : List ℕ) → path ≡ other → Equal ≡ slice_cmp nat_cmp (chosen test path) (chosen test other)
equal_tie test path other same = sym (ap (λ (l : List ℕ). slice_cmp nat_cmp (chosen test l) (chosen test other)) same
    ∙ tied_itself nat_list_cmp_total (chosen test other))
