-- What is accepted by one or the other.
use Rattle.std.proofs.Common.{◌≡◌, ℕ, Bool, true, false, nat_eq, refl, sym, ◌∙◌, arith, inl, inr, ◌⊎◌}
use Rattle.std.specs.Prelude.{if◌then◌else◌}
use Rattle.std.proofs.lemmas.Bool.Decides.{nat_tests}
use Rattle.base_kit.proofs.SetFacts.{same_number}
use Rattle.srp_without.specs.declared.accepted.Accepted.{Accepted}
use Rattle.srp_without.specs.declared.accepted.Accepted.TheVariants.{Nothing, One, Several}
use Rattle.srp_without.specs.Accepting.{HasOne, HasTwo, IsAll, joined}

equal_from : (x y : ℕ) → nat_eq x y ≡ true → x ≡ y
equal_from x y e = grind (arith, nat_tests)

-- the same is said of the same preferences
pub said_of_same : (P Q : ℕ → Type 0) → ((n : ℕ) → P n → Q n) → ((n : ℕ) → Q n → P n) → (accepted : Accepted) → IsAll P accepted → IsAll Q accepted
said_of_same P Q there back Nothing all = λ n q. all n (back n q)
said_of_same P Q there back (One x) all = record { accepted = there x all.accepted; only = λ n q. all.only n (back n q) }
said_of_same P Q there back Several all = record {
  first = all.first;
  second = all.second;
  first_accepted = there all.first all.first_accepted;
  second_accepted = there all.second all.second_accepted;
  differ = all.differ;
}

module _ (P Q : ℕ → Type 0) where
  abbrev Either : ℕ → Type 0
  Either n = P n ⊎ Q n

  two_left : HasTwo P → HasTwo Either
  two_left two = record {
    first = two.first;
    second = two.second;
    first_accepted = inl two.first_accepted;
    second_accepted = inl two.second_accepted;
    differ = two.differ;
  }

  two_right : HasTwo Q → HasTwo Either
  two_right two = record {
    first = two.first;
    second = two.second;
    first_accepted = inr two.first_accepted;
    second_accepted = inr two.second_accepted;
    differ = two.differ;
  }

  none_left : ((n : ℕ) → ¬ P n) → (accepted : Accepted) → IsAll Q accepted → IsAll Either accepted
  none_left none accepted all = said_of_same Q Either (λ n q. inr q) (λ n either. right n either) accepted all
    where
      right : (n : ℕ) → P n ⊎ Q n → Q n
      right n (inl p) = absurd (none n p)
      right n (inr q) = q

  none_right : ((n : ℕ) → ¬ Q n) → (accepted : Accepted) → IsAll P accepted → IsAll Either accepted
  none_right none accepted all = said_of_same P Either (λ n p. inl p) (λ n either. left n either) accepted all
    where
      left : (n : ℕ) → P n ⊎ Q n → P n
      left n (inl p) = p
      left n (inr q) = absurd (none n q)

  one_only : (x y : ℕ) → HasOne P x → HasOne Q y → x ≡ y → (n : ℕ) → P n ⊎ Q n → n ≡ x
  one_only x y one two same n (inl p) = one.only n p
  one_only x y one two same n (inr q) = two.only n q ∙ sym same

  both_one : (x y : ℕ) → HasOne P x → HasOne Q y → (b : Bool) → nat_eq x y ≡ b → IsAll Either (if b then One x else Several)
  both_one x y one two true e = record { accepted = inl one.accepted; only = one_only x y one two (equal_from x y e) }
  both_one x y one two false e = record {
    first = x;
    second = y;
    first_accepted = inl one.accepted;
    second_accepted = inr two.accepted;
    differ = λ same. let yes = same_number x y same in cc;
  }

  pub joined_all : (first second : Accepted) → IsAll P first → IsAll Q second → IsAll Either (joined first second)
  joined_all Nothing second one two = none_left one second two
  joined_all (One x) Nothing one two = none_right two (One x) one
  joined_all (One x) (One y) one two = both_one x y one two (nat_eq x y) refl
  joined_all (One x) Several one two = two_right two
  joined_all Several second one two = two_left one
