-- Paths where no number is a lone router's.
use Rattle.std.proofs.Common.{◌≡◌, ℕ, Bool, false, List, [], ◌∷◌, length, refl, sym, ◌∙◌, arith, nat_eq}
use Rattle.std.specs.HashSet.{HashSet, hash_set_len}
use Rattle.std.specs.List.{list_any}
use Rattle.std.proofs.lemmas.Bool.{cond-false}
use Rattle.base_kit.specs.Sets.{with_number}
use Rattle.route_keys.specs.Lone.{HasLoneNumbers}
use Rattle.srp_core.specs.Routes.{chosen}
use Rattle.srp_core.specs.Problem.{Problem, is_lone_number}

none_passes : (test : ℕ → Bool) → ((n : ℕ) → test n ≡ false) → (path : List ℕ) → chosen test path ≡ []
unfolding chosen
none_passes test none [] = refl
none_passes test none (number ∷ path) = cond-false (test number) (with_number number (chosen test path)) (chosen test path) (none number)
    ∙ none_passes test none path

no_keys : (keys : List ℕ) → length keys ≡ 0 → (n : ℕ) → list_any (nat_eq n) keys ≡ false
no_keys [] e n = refl
no_keys (key ∷ keys) e n = absurd (omega arith)

pub no_lone_chosen : {S : Type 0} (P : Problem) (numbers : HashSet ℕ S) → HasLoneNumbers P numbers → hash_set_len numbers ≡ 0 → (path : List ℕ) →
    chosen (is_lone_number P) path ≡ []
no_lone_chosen P numbers has none path = none_passes (is_lone_number P) (λ n. sym (has n) ∙ no_keys numbers.keys none n) path
