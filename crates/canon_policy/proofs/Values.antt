-- Values of nodes on sets, and the communities on which they depend.
use Rattle.std.proofs.Common.{◌≡◌, ◌≢◌, ℕ, ◌<◌, ◌≤◌, Bool, true, false, not, ◌&&◌, nat_lt, nat_eq, List, [], ◌∷◌, length, get_or, filter, refl, sym, ◌∙◌, ap, arith, inl, inr}
use Rattle.std.specs.List.{list_any}
use Rattle.std.proofs.lemmas.Bool.{cases_lt}
use Rattle.std.proofs.lemmas.Bool.Decides.{nat_tests}
use Rattle.base_kit.specs.Sets.{has, with_number}
use Rattle.base_kit.proofs.SetFacts.{other_number, has-with_number, has-filter, ascending_filter}
use Rattle.base_kit.proofs.Elements.{In}
use Rattle.dd_core.specs.Sets.{Shown, IsShown, value_of, test_of, has_others}
use Rattle.dd_core.specs.Reach.{DependsOnOthers}
use Rattle.dd_core.proofs.SetLemmas.{value_agrees}
use Rattle.dd_core.proofs.SupportLemmas.{has-index, any-with_number}
use Rattle.canon_policy.specs.Functions.{outside_of}
use Rattle.canon_policy.specs.Hanging.{SameOn, TestHangsOn}
use Rattle.canon_policy.proofs.SameSets.{in_any, any_in, named, named_same}
use Rattle.canon_policy.proofs.Least.{in_has, has_in}

pub same_truth : (a b : Bool) → (a ≡ true → b ≡ true) → (b ≡ true → a ≡ true) → a ≡ b
same_truth true b f g = sym (f refl)
same_truth false true f g = g refl
same_truth false false f g = refl

pub any_same : (p : ℕ → Bool) (a b : List ℕ) → ((c : ℕ) → has a c ≡ has b c) → list_any p a ≡ true → list_any p b ≡ true
any_same p a b same e =
    let f = in_any p a e in
    any_in p b f.item (has_in b f.item (sym (same f.item) ∙ in_has a f.item f.there)) f.passes

-- sets with the same communities have one value
pub value_same : (shown : Shown) → IsShown shown → (node : ℕ) → node < length shown.nodes → (a b : List ℕ) → ((c : ℕ) → has a c ≡ has b c)
    → value_of shown a node ≡ value_of shown b node
unfolding value_of
value_same shown is node inside a b same =
    value_agrees shown.nodes (length shown.universe) (test_of shown.universe a) (test_of shown.universe b) (length shown.nodes) node is.store is.within
    (λ v le. elim (cases_lt v (length shown.universe)) [
      | inl lt ↦ (let e : nat_lt v (length shown.universe) ≡ true = grind (arith, nat_tests) in rw e (same (get_or shown.universe v 0)))
      | inr ge ↦ (let e : nat_lt v (length shown.universe) ≡ false = grind (arith, nat_tests) in
          rw e (same_truth (has_others shown.universe a) (has_others shown.universe b) (any_same (λ c. not (has shown.universe c)) a b same)
          (any_same (λ c. not (has shown.universe c)) b a (λ c. sym (same c)))))
    ]) inside inside

-- what depends on no community outside the universe depends only on the universe
all_below : (n : ℕ) (xs : List ℕ) (x : ℕ) → outside_of xs ≤ n → In xs x → x < n
all_below n [] x le h = absurd h
all_below n (y ∷ ys) x le (inl e) = omega arith
all_below n (y ∷ ys) x le (inr h) = all_below n ys x (omega arith) h

pub outside_not : (universe : List ℕ) → has universe (outside_of universe) ≡ false
outside_not universe = by (has universe (outside_of universe)) refl
  where
    by : (b : Bool) → has universe (outside_of universe) ≡ b → b ≡ false
    by true e = let lt = all_below (outside_of universe) universe (outside_of universe) (omega arith) (has_in universe (outside_of universe) e) in
        absurd (omega arith)
    by false e = refl

pub none_others : (universe set : List ℕ) → list_any (λ c. not (has universe c)) (filter (has set) universe) ≡ false
none_others universe set = by (list_any (λ c. not (has universe c)) (filter (has set) universe)) refl
  where
    by : (b : Bool) → list_any (λ c. not (has universe c)) (filter (has set) universe) ≡ b → b ≡ false
    by true e =
        let f = in_any (λ c. not (has universe c)) (filter (has set) universe) e in
        let h = in_has (filter (has set) universe) f.item f.there in
        let h' = has-filter (has set) universe f.item in
        let known : has universe f.item ≡ true = part (has set f.item) (has universe f.item) (sym h' ∙ h) in
        let passes = f.passes in
        let no : not (has universe f.item) ≡ false = rw known refl in
        absurd cc
      where
        part : (a b : Bool) → a && b ≡ true → b ≡ true
        part true b e = e
        part false b e = absurd cc
    by false e = refl

-- the tests of a set are those of its part in the universe, with a community outside if the set has one
tests_named : (universe set : List ℕ) (outside : ℕ) (v : ℕ) → v ≤ length universe → has universe outside ≡ false → has_others universe set ≡ true
    → test_of universe set v ≡ test_of universe (with_number outside (named universe set)) v
tests_named universe set outside v le none others = elim (cases_lt v (length universe)) [
  | inl lt ↦
      let e : nat_lt v (length universe) ≡ true = grind (arith, nat_tests) in
      let c : ℕ = get_or universe v 0 in
      let known = has-index universe v lt in
      let ne : nat_eq outside (get_or universe v 0) ≡ false = other_number outside (get_or universe v 0) (λ same. let h = ap (has universe) same in cc) in
      rw e (sym ((named_same universe set).same (get_or universe v 0) known)
      ∙ sym (has-with_number outside (named universe set) (get_or universe v 0) ∙ rw ne refl))
  | inr ge ↦
      let e : nat_lt v (length universe) ≡ false = grind (arith, nat_tests) in
      rw e (others ∙ sym (any-with_number (λ c. not (has universe c)) outside (named universe set) ∙ rw none refl))
]

tests_bare : (universe set : List ℕ) (v : ℕ) → v ≤ length universe → has_others universe set ≡ false
    → test_of universe set v ≡ test_of universe (named universe set) v
tests_bare universe set v le others = elim (cases_lt v (length universe)) [
  | inl lt ↦
      let e : nat_lt v (length universe) ≡ true = grind (arith, nat_tests) in
      rw e (sym ((named_same universe set).same (get_or universe v 0) (has-index universe v lt)))
  | inr ge ↦
      let e : nat_lt v (length universe) ≡ false = grind (arith, nat_tests) in
      rw e (others ∙ sym (none_others universe set))
]

-- equal unless shown to be different
unless : (a b : Bool) → (a ≢ b → ⊥) → a ≡ b
unless true true f = refl
unless true false f = absurd (f (λ e. cc))
unless false true f = absurd (f (λ e. cc))
unless false false f = refl

pub value_named : (shown : Shown) → IsShown shown → (node : ℕ) → node < length shown.nodes → (DependsOnOthers shown node → ⊥) → (set : List ℕ)
    → value_of shown set node ≡ value_of shown (named shown.universe set) node
unfolding value_of
value_named shown is node inside none set = by (has_others shown.universe set) refl
  where
    out : ℕ
    out = outside_of shown.universe

    by : (b : Bool) → has_others shown.universe set ≡ b → value_of shown set node ≡ value_of shown (named shown.universe set) node
    by true others =
        value_agrees shown.nodes (length shown.universe) (test_of shown.universe set)
        (test_of shown.universe (with_number (outside_of shown.universe) (named shown.universe set))) (length shown.nodes) node is.store is.within
        (λ v le. tests_named shown.universe set (outside_of shown.universe) v le (outside_not shown.universe) others) inside inside
        ∙ unless (value_of shown (with_number (outside_of shown.universe) (named shown.universe set)) node) (value_of shown (named shown.universe set) node)
        (λ ne. none (record {
          community = outside_of shown.universe;
          outside = outside_not shown.universe;
          depends = record { set = named shown.universe set; ascending = ascending_filter (has set) shown.universe is.ascending; differ = ne };
        }))
    by false others =
        value_agrees shown.nodes (length shown.universe) (test_of shown.universe set) (test_of shown.universe (named shown.universe set)) (length shown.nodes)
        node is.store is.within
        (λ v le. tests_bare shown.universe set v le others) inside inside

pub named_equal : (universe a b : List ℕ) → SameOn universe a b → (c : ℕ) → has (named universe a) c ≡ has (named universe b) c
named_equal universe a b same c = has-filter (has a) universe c ∙ by (has universe c) refl ∙ sym (has-filter (has b) universe c)
  where
    by : (u : Bool) → has universe c ≡ u → has a c && u ≡ has b c && u
    by true known = ap (λ x. x && true) (same.same c known)
    by false known = none (has a c) (has b c)
      where
        none : (x y : Bool) → x && false ≡ y && false
        none true true = refl
        none true false = refl
        none false true = refl
        none false false = refl

pub node_hangs : (shown : Shown) → IsShown shown → (node : ℕ) → node < length shown.nodes → (DependsOnOthers shown node → ⊥)
    → TestHangsOn shown.universe (λ set. value_of shown set node)
node_hangs shown is node inside none = record {
  same = λ a b same.
      value_named shown is node inside none a
      ∙ value_same shown is node inside (named shown.universe a) (named shown.universe b) (named_equal shown.universe a b same)
      ∙ sym (value_named shown is node inside none b);
}

-- sets with the same communities of the universe, which both have others or both have none, have one value
pub value_trace : (shown : Shown) → IsShown shown → (node : ℕ) → node < length shown.nodes → (a b : List ℕ) → SameOn shown.universe a b
    → has_others shown.universe a ≡ has_others shown.universe b → value_of shown a node ≡ value_of shown b node
unfolding value_of
value_trace shown is node inside a b same others =
    value_agrees shown.nodes (length shown.universe) (test_of shown.universe a) (test_of shown.universe b) (length shown.nodes) node is.store is.within
    (λ v le. elim (cases_lt v (length shown.universe)) [
      | inl lt ↦ (let e : nat_lt v (length shown.universe) ≡ true = grind (arith, nat_tests) in
          rw e (same.same (get_or shown.universe v 0) (has-index shown.universe v lt)))
      | inr ge ↦ (let e : nat_lt v (length shown.universe) ≡ false = grind (arith, nat_tests) in rw e others)
    ]) inside inside
