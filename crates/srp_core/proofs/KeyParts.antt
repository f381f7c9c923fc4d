-- Keys are equal if their parts are equal.
use Rattle.std.proofs.Common.{◌≡◌, ℕ, Bool, true, false, List, refl, sym, ap, ◌∙◌, subst, inl, inr}
use Rattle.std.specs.Prelude.{◌&&◌}
use Rattle.std.specs.declared.cmp.Ordering.TheVariants.{Equal}
use Rattle.std.proofs.lemmas.Bool.{cases_Bool}
use Rattle.std.proofs.lemmas.Cmp.{tied_itself}
use Rattle.base_kit.proofs.SetFacts.{one_list}
use Rattle.srp_core.specs.declared.route.Route.{Route}
use Rattle.srp_core.specs.Problem.{Problem, is_lone_number, key_of}
use Rattle.srp_core.specs.Routes.{preference_of, size_of, path_of, comms_of, is_on, chosen, Key, compare_keys}
use Rattle.srp_core.proofs.KeyOrder.{key_total, is_on-chosen}
use Rattle.srp_core.proofs.LoneNumbers.{chosen_ascending, chosen_passes}

pub equal_same : (a b : Key) → a ≡ b → compare_keys a b ≡ Equal
equal_same a b e = subst (λ k. compare_keys a k ≡ Equal) e (tied_itself key_total a)

false_from : (b : Bool) → (b ≡ true → ⊥) → b ≡ false
false_from true never = absurd (never refl)
false_from false never = refl

-- a number is chosen where it passes the test and is on the path
chosen_on : (test : ℕ → Bool) (n : ℕ) (path : List ℕ) → is_on n (chosen test path) ≡ (test n && is_on n path)
chosen_on test n path = elim (cases_Bool (test n)) [
  | inl t ↦ is_on-chosen test n t path ∙ sym (ap (λ b. b && is_on n path) t)
  | inr f ↦ false_from (is_on n (chosen test path)) (λ e. (let t = chosen_passes test n path e in cc)) ∙ sym (ap (λ b. b && is_on n path) f)
]

pub same_chosen : (test other : ℕ → Bool) (p q : List ℕ) → ((n : ℕ) → (test n && is_on n p) ≡ (other n && is_on n q)) → chosen test p ≡ chosen other q
same_chosen test other p q same = one_list (chosen test p) (chosen other q) (chosen_ascending test p) (chosen_ascending other q)
    (λ n. chosen_on test n p ∙ same n ∙ sym (chosen_on other n q))

pub same_key : (P Q : Problem) (r s : Route) → preference_of r ≡ preference_of s → size_of r ≡ size_of s → comms_of r ≡ comms_of s →
    ((n : ℕ) → (is_lone_number P n && is_on n (path_of r)) ≡ (is_lone_number Q n && is_on n (path_of s))) → key_of P r ≡ key_of Q s
same_key P Q r s preference size comms lone =
    let same = same_chosen (is_lone_number P) (is_lone_number Q) (path_of r) (path_of s) lone in
    λ i. record { preference = preference i; size = size i; comms = comms i; lone = same i }

pub same_lone : (P Q : Problem) (r s : Route) → key_of P r ≡ key_of Q s → (n : ℕ) →
    (is_lone_number P n && is_on n (path_of r)) ≡ (is_lone_number Q n && is_on n (path_of s))
same_lone P Q r s e n = sym (chosen_on (is_lone_number P) n (path_of r)) ∙ ap (λ (k : Key). is_on n k.lone) e ∙ chosen_on (is_lone_number Q) n (path_of s)

pub same_others : (P Q : Problem) (r s : Route) → key_of P r ≡ key_of Q s → (preference_of r ≡ preference_of s) × (size_of r ≡ size_of s)
    × (comms_of r ≡ comms_of s)
same_others P Q r s e = (ap (λ (k : Key). k.preference) e, ap (λ (k : Key). k.size) e, ap (λ (k : Key). k.comms) e)
