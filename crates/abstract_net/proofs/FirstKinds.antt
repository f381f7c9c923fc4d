-- The first steps of each kind, and what is made of them.
use Rattle.std.proofs.Common.{◌≡◌, ℕ, Bool, true, false, cond, ◌&&◌, List, [], ◌∷◌, nat_eq, refl, sym, ◌∙◌, ap, arith, inl, inr}
use Rattle.std.specs.Prelude.{filter}
use Rattle.std.specs.Bool.{beq}
use Rattle.std.proofs.lemmas.Bool.Decides.{nat_tests}
use Rattle.base_kit.proofs.Elements.{In}
use Rattle.by_key.specs.ByKey.{with_key}
use Rattle.abstract_net.specs.declared.steps.Step.{Step}
use Rattle.abstract_net.specs.GroupSteps.{low_of, high_of, same_kind, met_too, first_kinds, none_met, first_new, goes_into, edges_into}

left_of : (a b : Bool) → (a && b) ≡ true → a ≡ true
left_of true b e = refl
left_of false b e = e

right_of : (a b : Bool) → (a && b) ≡ true → b ≡ true
right_of true b e = e
right_of false b e = absurd cc

same_side : (a b : Bool) → beq a b ≡ true → a ≡ b
same_side true true e = refl
same_side true false e = absurd cc
same_side false true e = absurd cc
same_side false false e = refl

same_number : (a b : ℕ) → nat_eq a b ≡ true → a ≡ b
same_number a b e = grind (arith, nat_tests)

pub record IsSameKind (x y : Step) : Type 0 where
  pub low : x.low ≡ y.low
  pub high : x.high ≡ y.high
  pub into_low : x.into_low ≡ y.into_low
  pub act : x.act ≡ y.act

pub kinds_are : (x y : Step) → same_kind x y ≡ true → IsSameKind x y
kinds_are x y e =
    let ends = left_of (nat_eq x.low y.low && nat_eq x.high y.high) (beq x.into_low y.into_low && nat_eq x.act y.act) e in
    let rest = right_of (nat_eq x.low y.low && nat_eq x.high y.high) (beq x.into_low y.into_low && nat_eq x.act y.act) e in
    record {
      low = same_number x.low y.low (left_of (nat_eq x.low y.low) (nat_eq x.high y.high) ends);
      high = same_number x.high y.high (right_of (nat_eq x.low y.low) (nat_eq x.high y.high) ends);
      into_low = same_side x.into_low y.into_low (left_of (beq x.into_low y.into_low) (nat_eq x.act y.act) rest);
      act = same_number x.act y.act (right_of (beq x.into_low y.into_low) (nat_eq x.act y.act) rest);
    }

pub first_kinds_in : (met : Step → Bool) (xs : List Step) (y : Step) → In (first_kinds met xs) y → In xs y
first_kinds_in met [] y at = absurd at
first_kinds_in met (x ∷ xs) y at = by (met x) (λ m there. first_kinds_in m xs y there) at where
  by : (b : Bool) → ((m : Step → Bool) → In (first_kinds m xs) y → In xs y) → In (cond b (first_kinds met xs) (x ∷ first_kinds (met_too x met) xs)) y →
      In (x ∷ xs) y
  by true rest there = inr (rest met there)
  by false rest (inl e) = inl e
  by false rest (inr there) = inr (rest (met_too x met) there)

-- a test that does not tell steps of one kind apart
abbrev IsOfKinds : (Step → Bool) → Type 0
IsOfKinds p = (x y : Step) → same_kind x y ≡ true → p x ≡ p y

filter_kinds : (p : Step → Bool) → IsOfKinds p → (met met' : Step → Bool) → ((y : Step) → p y ≡ true → met y ≡ met' y) → (xs : List Step) →
    filter p (first_kinds met xs) ≡ first_kinds met' (filter p xs)
filter_kinds p of met met' agree [] = refl
filter_kinds p of met met' agree (x ∷ xs) = by (λ m m' a. filter_kinds p of m m' a xs) (p x) refl (met x) refl where
  both : p x ≡ true → (y : Step) → p y ≡ true → met_too x met y ≡ met_too x met' y
  both passes y passes' = ap (λ b. cond (same_kind x y) true b) (agree y passes')

  other : p x ≡ false → (y : Step) → p y ≡ true → met_too x met y ≡ met' y
  other fails y passes = apart (same_kind x y) refl ∙ agree y passes where
    apart : (b : Bool) → same_kind x y ≡ b → met_too x met y ≡ met y
    apart true e = let same = of x y e in absurd cc
    apart false e = ap (λ b. cond b true (met y)) e

  by : ((m m' : Step → Bool) → ((y : Step) → p y ≡ true → m y ≡ m' y) → filter p (first_kinds m xs) ≡ first_kinds m' (filter p xs)) → (b : Bool) → p x ≡ b →
      (c : Bool) → met x ≡ c → filter p (first_kinds met (x ∷ xs)) ≡ first_kinds met' (filter p (x ∷ xs))
  by rest true passes true seen =
      ap (λ c. filter p (cond c (first_kinds met xs) (x ∷ first_kinds (met_too x met) xs))) seen
      ∙ rest met met' agree
      ∙ sym (ap (λ c. cond c (first_kinds met' (filter p xs)) (x ∷ first_kinds (met_too x met') (filter p xs))) (sym (agree x passes) ∙ seen))
      ∙ sym (ap (λ b. first_kinds met' (cond b (x ∷ filter p xs) (filter p xs))) passes)
  by rest true passes false new =
      ap (λ c. filter p (cond c (first_kinds met xs) (x ∷ first_kinds (met_too x met) xs))) new
      ∙ ap (λ b. cond b (x ∷ filter p (first_kinds (met_too x met) xs)) (filter p (first_kinds (met_too x met) xs))) passes
      ∙ ap (λ (ys : List Step). x ∷ ys) (rest (met_too x met) (met_too x met') (both passes))
      ∙ sym (ap (λ c. cond c (first_kinds met' (filter p xs)) (x ∷ first_kinds (met_too x met') (filter p xs))) (sym (agree x passes) ∙ new))
      ∙ sym (ap (λ b. first_kinds met' (cond b (x ∷ filter p xs) (filter p xs))) passes)
  by rest false fails true seen =
      ap (λ c. filter p (cond c (first_kinds met xs) (x ∷ first_kinds (met_too x met) xs))) seen
      ∙ rest met met' agree
      ∙ sym (ap (λ b. first_kinds met' (cond b (x ∷ filter p xs) (filter p xs))) fails)
  by rest false fails false new =
      ap (λ c. filter p (cond c (first_kinds met xs) (x ∷ first_kinds (met_too x met) xs))) new
      ∙ ap (λ b. cond b (x ∷ filter p (first_kinds (met_too x met) xs)) (filter p (first_kinds (met_too x met) xs))) fails
      ∙ rest (met_too x met) met' (other fails)
      ∙ sym (ap (λ b. first_kinds met' (cond b (x ∷ filter p xs) (filter p xs))) fails)

-- what the first steps of new acts leave out are steps of kinds that were met
new_of_kinds : (acts : ℕ → Bool) (met : Step → Bool) (xs : List Step) → ((y : Step) → met y ≡ true → acts y.act ≡ true) →
    first_new acts (first_kinds met xs) ≡ first_new acts xs
new_of_kinds acts met [] seen = refl
new_of_kinds acts met (x ∷ xs) seen = by (λ a m s. new_of_kinds a m xs s) (met x) refl (acts x.act) refl where
  known : acts x.act ≡ true → (y : Step) → met_too x met y ≡ true → acts y.act ≡ true
  known there y e = of (same_kind x y) refl e where
    of : (b : Bool) → same_kind x y ≡ b → cond b true (met y) ≡ true → acts y.act ≡ true
    of true same e' = ap acts (sym (kinds_are x y same).act) ∙ there
    of false differ e' = seen y e'

  or_true : (b : Bool) → cond b true true ≡ true
  or_true true = refl
  or_true false = refl

  more : (y : Step) → met_too x met y ≡ true → cond (nat_eq x.act y.act) true (acts y.act) ≡ true
  more y e = of (same_kind x y) refl e where
    of : (b : Bool) → same_kind x y ≡ b → cond b true (met y) ≡ true → cond (nat_eq x.act y.act) true (acts y.act) ≡ true
    of true same e' = ap (λ b. cond b true (acts y.act)) (let is = (kinds_are x y same).act in let t : nat_eq x.act y.act ≡ true = grind (arith, nat_tests) in
        t)
    of false differ e' = ap (λ b. cond (nat_eq x.act y.act) true b) (seen y e') ∙ or_true (nat_eq x.act y.act)

  by : ((a : ℕ → Bool) (m : Step → Bool) → ((y : Step) → m y ≡ true → a y.act ≡ true) → first_new a (first_kinds m xs) ≡ first_new a xs) → (b : Bool) →
      met x ≡ b → (c : Bool) → acts x.act ≡ c → first_new acts (first_kinds met (x ∷ xs)) ≡ first_new acts (x ∷ xs)
  by rest true there c is =
      ap (λ b. first_new acts (cond b (first_kinds met xs) (x ∷ first_kinds (met_too x met) xs))) there
      ∙ rest acts met seen
      ∙ sym (ap (λ b. cond b (first_new acts xs) (x.edge ∷ first_new (λ act. cond (nat_eq x.act act) true (acts act)) xs)) (seen x there))
  by rest false new true is =
      ap (λ b. first_new acts (cond b (first_kinds met xs) (x ∷ first_kinds (met_too x met) xs))) new
      ∙ ap (λ b. cond b (first_new acts (first_kinds (met_too x met) xs))
      (x.edge ∷ first_new (λ act. cond (nat_eq x.act act) true (acts act)) (first_kinds (met_too x met) xs))) is
      ∙ rest acts (met_too x met) (known is)
      ∙ sym (ap (λ b. cond b (first_new acts xs) (x.edge ∷ first_new (λ act. cond (nat_eq x.act act) true (acts act)) xs)) is)
  by rest false new false is =
      ap (λ b. first_new acts (cond b (first_kinds met xs) (x ∷ first_kinds (met_too x met) xs))) new
      ∙ ap (λ b. cond b (first_new acts (first_kinds (met_too x met) xs))
      (x.edge ∷ first_new (λ act. cond (nat_eq x.act act) true (acts act)) (first_kinds (met_too x met) xs))) is
      ∙ ap (λ (ks : List ℕ). x.edge ∷ ks) (rest (λ act. cond (nat_eq x.act act) true (acts act)) (met_too x met) more)
      ∙ sym (ap (λ b. cond b (first_new acts xs) (x.edge ∷ first_new (λ act. cond (nat_eq x.act act) true (acts act)) xs)) is)

-- the edges of one direction are those of the first steps of each kind
pub edges_of_kinds : (b : Bool) (xs : List Step) → edges_into b (first_kinds none_met xs) ≡ edges_into b xs
edges_of_kinds b xs =
    ap (first_new (λ act. false)) (filter_kinds (goes_into b) (λ x y e. ap (λ side. beq side b) (kinds_are x y e).into_low) none_met none_met (λ y e. refl) xs)
    ∙ new_of_kinds (λ act. false) none_met (filter (goes_into b) xs) (λ y e. e)

pub cell_of_kinds : (xs : List Step) (g h : ℕ) →
    with_key low_of (with_key high_of (first_kinds none_met xs) h) g ≡ first_kinds none_met (with_key low_of (with_key high_of xs h) g)
cell_of_kinds xs g h =
    ap (λ (ys : List Step). with_key low_of ys g)
    (filter_kinds (λ x. nat_eq x.high h) (λ x y e. ap (λ n. nat_eq n h) (kinds_are x y e).high) none_met none_met (λ y e. refl) xs)
    ∙ filter_kinds (λ x. nat_eq x.low g) (λ x y e. ap (λ n. nat_eq n g) (kinds_are x y e).low) none_met none_met (λ y e. refl) (with_key high_of xs h)
