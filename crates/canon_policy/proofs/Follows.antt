-- When a community is settled because it follows: its node is that of the community itself.
use Rattle.std.proofs.Common.{◌≡◌, ◌≢◌, ℕ, Bool, true, false, not, ◌&&◌, ◌||◌, List, [], None, refl, sym, ◌∙◌, ap, inl, inr, ◌⊎◌}
use Rattle.std.specs.Prelude.{if◌then◌else◌}
use Rattle.std.specs.Bool.{beq}
use Rattle.base_kit.specs.Sets.{has, with_number, without_number}
use Rattle.base_kit.proofs.SetFacts.{same_number, has-with_number}
use Rattle.canon_policy.specs.declared.fixing.Fixing.{Fixing}
use Rattle.canon_policy.specs.Fixings.{agreeing, depends, least, yes, follows, sets_of}
use Rattle.canon_policy.specs.Hanging.{TestHangsOn}
use Rattle.canon_policy.proofs.SameSets.{all_are, all_in, filtered_in, named, named_same, same_sets, agreeing_same_on, has-agreeing, has-without_number}
use Rattle.canon_policy.proofs.Least.{fixed_same, depends_differ}
use Rattle.canon_policy.proofs.Firsts.{nothing_found}
use Rattle.canon_policy.proofs.Plain.{same_bits}

pub bits_same : (a b : Bool) → a ≡ b → beq a b ≡ true
bits_same true true e = refl
bits_same true false e = absurd cc
bits_same false true e = absurd cc
bits_same false false e = refl

free_has : (fixing : Fixing) (set : List ℕ) (c : ℕ) → has fixing.present c ≡ false → has fixing.absent c ≡ false → has (agreeing fixing set) c ≡ has set c
free_has fixing set c e e' = has-agreeing fixing set c ∙ rw (e, e') refl

not_true : (b : Bool) → (b ≡ true → ⊥) → b ≡ false
not_true true f = absurd (f refl)
not_true false f = refl

module _ (universe : List ℕ) (fixing : Fixing) (c : ℕ) (test : List ℕ → Bool) (hangs : TestHangsOn universe test) (known : has universe c ≡ true) where
  not_fixed : ((set : List ℕ) → test (agreeing fixing set) ≡ has set c) → (has fixing.present c ≡ true) ⊎ (has fixing.absent c ≡ true) → ⊥
  not_fixed is fixed =
      let same = hangs.same (agreeing fixing (with_number c [])) (agreeing fixing (without_number c []))
      (same_sets universe (agreeing fixing (with_number c [])) (agreeing fixing (without_number c [])) (fixed_same fixing c [] fixed)) in
      let first = is (with_number c []) in
      let second = is (without_number c []) in
      let there : has (with_number c []) c ≡ true = has-with_number c [] c ∙ rw (same_number c c refl) refl in
      let none : has (without_number c []) c ≡ false = has-without_number c [] c ∙ rw (same_number c c refl) refl in
      absurd cc

  pub follow_true : ((set : List ℕ) → test (agreeing fixing set) ≡ has set c) → follows universe fixing c test ≡ true
  unfolding follows
  follow_true is = all_are (λ set. beq (test (agreeing fixing set)) (has (agreeing fixing set) c)) (sets_of universe)
      (λ set h. bits_same (test (agreeing fixing set)) (has (agreeing fixing set) c)
      (is set ∙ sym (free_has fixing set c (not_true (has fixing.present c) (λ e. not_fixed is (inl e)))
      (not_true (has fixing.absent c) (λ e. not_fixed is (inr e))))))

  pub follows_at : follows universe fixing c test ≡ true → (a : List ℕ) → test (agreeing fixing a) ≡ has (agreeing fixing a) c
  unfolding follows
  follows_at e a =
      let inner = named universe a in
      let there = agreeing_same_on universe inner a fixing (named_same universe a) in
      let here = same_bits (test (agreeing fixing inner)) (has (agreeing fixing inner) c)
      (all_in (λ set. beq (test (agreeing fixing set)) (has (agreeing fixing set) c)) (sets_of universe) inner e (filtered_in (has a) universe)) in
      sym (hangs.same (agreeing fixing inner) (agreeing fixing a) there) ∙ here ∙ there.same c known

  fixed_has : (a b : List ℕ) → (has fixing.present c ≡ true) ⊎ (has fixing.absent c ≡ true) → has (agreeing fixing a) c ≡ has (agreeing fixing b) c
  fixed_has a b fixed = has-agreeing fixing a c ∙ by (has fixing.absent c) (has fixing.present c) (has a c) (has b c) fixed ∙ sym (has-agreeing fixing b c)
    where
      by : (n p s t : Bool) → (p ≡ true) ⊎ (n ≡ true) → not n && (p || s) ≡ not n && (p || t)
      by true p s t f = refl
      by false true s t f = refl
      by false false s t (inl e) = absurd cc
      by false false s t (inr e) = absurd cc

  settled_anyway : follows universe fixing c test ≡ true → (has fixing.present c ≡ true) ⊎ (has fixing.absent c ≡ true)
      → least universe (λ set. yes (test (agreeing fixing set))) ≡ None
  unfolding least
  settled_anyway e fixed = nothing_found (depends universe (λ set. yes (test (agreeing fixing set)))) universe
      (λ x h. not_true (depends universe (λ set. yes (test (agreeing fixing set))) x) (λ on.
      let d = depends_differ universe (λ set. yes (test (agreeing fixing set))) x on in
      d.differ (ap yes (follows_at e (with_number x d.set) ∙ fixed_has (with_number x d.set) (without_number x d.set) fixed
      ∙ sym (follows_at e (without_number x d.set))))))

  -- where it differs from the community somewhere, following makes no difference
  pub follow_idle : (set : List ℕ) → test (agreeing fixing set) ≢ has set c → (b : Bool) → follows universe fixing c test ≡ b
      → (if b then None else least universe (λ s. yes (test (agreeing fixing s)))) ≡ least universe (λ s. yes (test (agreeing fixing s)))
  follow_idle set ne false e = refl
  follow_idle set ne true e = sym (settled_anyway e (by (has fixing.present c) (has fixing.absent c) refl refl))
    where
      by : (p n : Bool) → has fixing.present c ≡ p → has fixing.absent c ≡ n → (has fixing.present c ≡ true) ⊎ (has fixing.absent c ≡ true)
      by true n e1 e2 = inl e1
      by false true e1 e2 = inr e2
      by false false e1 e2 = absurd (ne (follows_at e set ∙ free_has fixing set c e1 e2))
