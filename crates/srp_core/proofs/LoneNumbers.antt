-- The chosen numbers of a path are those on it that pass the test, ascending, each once.
use Rattle.std.proofs.Common.{◌≡◌, ℕ, Bool, true, cond, List, [], ◌∷◌, sym, ◌∙◌, subst, inl, inr}
use Rattle.std.specs.Prelude.{nat_eq}
use Rattle.std.proofs.lemmas.Bool.{cases_Bool, or_cases, eqb-true}
use Rattle.srp_core.specs.Routes.{is_on, chosen}
use Rattle.base_kit.specs.Sets.{with_number, IsAscending}
use Rattle.base_kit.proofs.Members.{ascending_with}
use Rattle.srp_core.proofs.KeyOrder.{is_on-with_number}

-- they ascend, each once
pub chosen_ascending : (test : ℕ → Bool) (path : List ℕ) → IsAscending (chosen test path)
unfolding chosen
chosen_ascending test [] = tt
chosen_ascending test (a ∷ path) = elim (cases_Bool (test a)) [
  | inl t ↦ subst (λ c. IsAscending (cond c (with_number a (chosen test path)) (chosen test path))) (sym t)
      (ascending_with a (chosen test path) (chosen_ascending test path))
  | inr f ↦ subst (λ c. IsAscending (cond c (with_number a (chosen test path)) (chosen test path))) (sym f) (chosen_ascending test path)
]

-- what is chosen passes the test
pub chosen_passes : (test : ℕ → Bool) (x : ℕ) (path : List ℕ) → is_on x (chosen test path) ≡ true → test x ≡ true
unfolding chosen
chosen_passes test x [] e = absurd (cc)
chosen_passes test x (a ∷ path) e = elim (cases_Bool (test a)) [
  | inr f ↦ chosen_passes test x path (subst (λ c. is_on x (cond c (with_number a (chosen test path)) (chosen test path)) ≡ true) f e)
  | inl t ↦ elim (or_cases (nat_eq a x) (is_on x (chosen test path))
      (sym (is_on-with_number x a (chosen test path)) ∙ subst (λ c. is_on x (cond c (with_number a (chosen test path)) (chosen test path)) ≡ true) t e)) [
        | inl h ↦ subst (λ n. test n ≡ true) (eqb-true a x h) t
        | inr h ↦ chosen_passes test x path h
      ]
]
