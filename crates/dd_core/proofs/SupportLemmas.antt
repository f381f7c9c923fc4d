-- Communities on which a value depends, and their variables.
use Rattle.std.proofs.Common.{◌≡◌, ◌≢◌, ℕ, zero, suc, ◌<◌, ◌≤◌, ◌+◌, Bool, true, false, not, ◌||◌, nat_lt, nat_eq, cond, List, [], ◌∷◌, ◌++◌, drop, length, get_or, refl, sym, ◌∙◌, ap, arith, inl, inr}
use Rattle.std.specs.List.{list_any}
use Rattle.std.proofs.Math.ListN.{drop_of_length-le}
use Rattle.std.proofs.Math.Seq.{drop-cons}
use Rattle.std.proofs.lemmas.List.{append_assoc, append-nil}
use Rattle.std.proofs.lemmas.Bool.{cases_lt, cases_eq, cases_order}
use Rattle.std.proofs.lemmas.Bool.Decides.{nat_tests}
use Rattle.base_kit.specs.Sets.{has, with_number, AllAbove, IsAscending}
use Rattle.base_kit.proofs.Members.{with_less, with_same, with_more}
use Rattle.base_kit.proofs.SetFacts.{has-with_number, same_number, other_number}
use Rattle.dd_core.specs.declared.table.Node.{Node}
use Rattle.dd_core.specs.Sets.{Shown, IsShown, value_of, test_of}
use Rattle.dd_core.specs.Reach.{DependsOn, IsSupport, DependsOnOthers}
use Rattle.dd_core.specs.Marks.{IsVariableReached, AreUsedVariables, is_marked, picked}
use Rattle.dd_core.proofs.NodeLemmas.{updated, updated_same}
use Rattle.dd_core.proofs.SetLemmas.{value_agrees, set_of, test-set_of, ascending-set_of, above_index, all_below_outside, outside_of, has_outside}
use Rattle.dd_core.proofs.DependLemmas.{DependsOnVariable, reached_depends, unused_same, updated_apart}

or_swap : (a b r : Bool) → a || (b || r) ≡ b || (a || r)
or_swap true true r = refl
or_swap true false r = refl
or_swap false b r = refl

or_twice : (a r : Bool) → a || r ≡ a || (a || r)
or_twice true r = refl
or_twice false r = refl

pub any-with_number : (p : ℕ → Bool) (n : ℕ) (xs : List ℕ) → list_any p (with_number n xs) ≡ p n || list_any p xs
any-with_number p n [] = refl
any-with_number p n (x ∷ xs) = elim (cases_order x n) [
  | inl e ↦ rw (with_same n x xs e, e) (or_twice (p n) (list_any p xs))
  | inr (inl l) ↦ rw (with_less n x xs l, any-with_number p n xs) (or_swap (p x) (p n) (list_any p xs))
  | inr (inr g) ↦ rw (with_more n x xs g) refl
]

pub index_below : (xs : List ℕ) (i j : ℕ) → IsAscending xs → i < j → j < length xs → get_or xs i 0 < get_or xs j 0
index_below [] i j up lt inside = absurd (omega arith)
index_below (x ∷ xs) zero zero up lt inside = absurd (omega arith)
index_below (x ∷ xs) zero (suc j) up lt inside = above_index x xs j up.0 (omega arith)
index_below (x ∷ xs) (suc i) zero up lt inside = absurd (omega arith)
index_below (x ∷ xs) (suc i) (suc j) up lt inside = index_below xs i j up.1 (omega arith) (omega arith)

one_index : (xs : List ℕ) (i j : ℕ) → IsAscending xs → i < length xs → j < length xs → i ≢ j → get_or xs i 0 ≢ get_or xs j 0
one_index xs i j up inside inside' ne e = elim (cases_lt i j) [
  | inl lt ↦ let less = index_below xs i j up lt inside' in absurd (omega arith)
  | inr ge ↦ let less = index_below xs j i up (omega arith) inside in absurd (omega arith)
]

or_true : (b : Bool) → b || true ≡ true
or_true true = refl
or_true false = refl

pub has-index : (xs : List ℕ) (i : ℕ) → i < length xs → has xs (get_or xs i 0) ≡ true
has-index [] i inside = absurd (omega arith)
has-index (x ∷ xs) zero inside = rw (same_number x x refl) refl
has-index (x ∷ xs) (suc i) inside = rw (has-index xs i (omega arith)) (or_true (nat_eq x (get_or xs i 0)))

-- a place at which the community stands
pub record StandsAt (xs : List ℕ) (c : ℕ) : Type 0 where
  pub place : ℕ
  pub inside : place < length xs
  pub there : get_or xs place 0 ≡ c

pub stands_at : (xs : List ℕ) (c : ℕ) → has xs c ≡ true → StandsAt xs c
stands_at [] c there = absurd cc
stands_at (x ∷ xs) c there = elim (cases_eq x c) [
  | inl e ↦ record { place = 0; inside = omega arith; there = e }
  | inr ne ↦
      let rest = stands_at xs c (rw (other_number x c ne) at there) in
      let inside = rest.inside in
      record { place = suc rest.place; inside = omega arith; there = rest.there }
]

-- the variable that putting the community in makes true
pub data IsVariableOf (universe : List ℕ) (c v : ℕ) : Type 0 where
  known : v < length universe → get_or universe v 0 ≡ c → IsVariableOf universe c v
  outside : has universe c ≡ false → v ≡ length universe → IsVariableOf universe c v

-- tests of the set with one more community
with_known : (universe set : List ℕ) (c v : ℕ) → IsAscending universe → v < length universe → get_or universe v 0 ≡ c → (w : ℕ) →
    test_of universe (with_number c set) w ≡ updated (test_of universe set) v true w
with_known universe set c v up inside there w = elim (cases_eq w v) [
  | inl e ↦
      let now : nat_lt v (length universe) ≡ true = grind (arith, nat_tests) in
      let left : test_of universe (with_number c set) v ≡ true = rw (now, there) (has-with_number c set c ∙ rw (same_number c c refl) refl) in
      ap (λ n. test_of universe (with_number c set) n) e ∙ left
      ∙ sym (ap (updated (test_of universe set) v true) e ∙ updated_same (test_of universe set) v true)
  | inr ne ↦
      let right = updated_apart (test_of universe set) v true w ne in
      elim (cases_lt w (length universe)) [
        | inl lt ↦
            let now : nat_lt w (length universe) ≡ true = grind (arith, nat_tests) in
            let other : c ≢ get_or universe w 0 = λ e. one_index universe v w up inside lt (λ e'. ne (sym e')) (there ∙ e) in
            let left : test_of universe (with_number c set) w ≡ test_of universe set w =
            rw now (has-with_number c set (get_or universe w 0) ∙ rw (other_number c (get_or universe w 0) other) refl) in
            left ∙ sym right
        | inr ge ↦
            let now : nat_lt w (length universe) ≡ false = grind (arith, nat_tests) in
            let in_it : has universe c ≡ true = ap (has universe) (sym there) ∙ has-index universe v inside in
            let left : test_of universe (with_number c set) w ≡ test_of universe set w =
            rw now (any-with_number (λ n. not (has universe n)) c set ∙ rw in_it refl) in
            left ∙ sym right
      ]
]

with_outside : (universe set : List ℕ) (c : ℕ) → has universe c ≡ false → (w : ℕ) → w ≤ length universe →
    test_of universe (with_number c set) w ≡ updated (test_of universe set) (length universe) true w
with_outside universe set c none w le = elim (cases_lt w (length universe)) [
  | inl lt ↦
      let now : nat_lt w (length universe) ≡ true = grind (arith, nat_tests) in
      let other : c ≢ get_or universe w 0 = λ e. let e1 = has-index universe w lt in let e2 = ap (has universe) e in cc in
      let left : test_of universe (with_number c set) w ≡ test_of universe set w =
      rw now (has-with_number c set (get_or universe w 0) ∙ rw (other_number c (get_or universe w 0) other) refl) in
      left ∙ sym (updated_apart (test_of universe set) (length universe) true w (omega arith))
  | inr ge ↦
      let e : w ≡ length universe = omega arith in
      let now : nat_lt (length universe) (length universe) ≡ false = grind (arith, nat_tests) in
      let left : test_of universe (with_number c set) (length universe) ≡ true = rw now (any-with_number (λ n. not (has universe n)) c set ∙ rw none refl) in
      ap (λ n. test_of universe (with_number c set) n) e ∙ left
      ∙ sym (ap (updated (test_of universe set) (length universe) true) e ∙ updated_same (test_of universe set) (length universe) true)
]

test-with_number : (universe set : List ℕ) (c v : ℕ) → IsAscending universe → IsVariableOf universe c v → (w : ℕ) → w ≤ length universe →
    test_of universe (with_number c set) w ≡ updated (test_of universe set) v true w
test-with_number universe set c v up (known inside there) w le = with_known universe set c v up inside there w
test-with_number universe set c v up (outside none last) w le = rw last (with_outside universe set c none w le)

updated_twice : (f g : ℕ → Bool) (v : ℕ) (b d : Bool) (w : ℕ) → g w ≡ updated f v d w → updated g v b w ≡ updated f v b w
updated_twice f g v b d w e = elim (cases_eq w v) [
  | inl same ↦ ap (updated g v b) same ∙ updated_same g v b ∙ sym (ap (updated f v b) same ∙ updated_same f v b)
  | inr ne ↦ updated_apart g v b w ne ∙ e ∙ updated_apart f v d w ne ∙ sym (updated_apart f v b w ne)
]

-- the value depends on a community where it depends on its variable
pub depends_on : (shown : Shown) → IsShown shown → (from c v : ℕ) → from < length shown.nodes → IsVariableOf shown.universe c v →
    DependsOnVariable shown.nodes from v → DependsOn shown from c
unfolding value_of
depends_on shown is from c v inside of d =
    let bound : ℕ = length shown.universe in
    let off : ℕ → Bool = updated d.test v false in
    let on : ℕ → Bool = updated d.test v true in
    let set : List ℕ = set_of shown.universe off in
    let lows : (w : ℕ) → w ≤ bound → test_of shown.universe set w ≡ off w = λ w le. test-set_of shown.universe off is.ascending w le in
    let highs : (w : ℕ) → w ≤ bound → test_of shown.universe (with_number c set) w ≡ on w = λ w le. test-with_number shown.universe set c v is.ascending of w le
    ∙ updated_twice d.test (test_of shown.universe set) v true false w (lows w le) in
    record {
      set = set;
      ascending = ascending-set_of shown.universe off is.ascending;
      differ = λ e. d.differ (sym (value_agrees shown.nodes bound (test_of shown.universe (with_number c set)) on (length shown.nodes) from is.store is.within
          highs inside inside) ∙ e ∙ value_agrees shown.nodes bound (test_of shown.universe set) off (length shown.nodes) from is.store is.within lows inside
          inside);
    }

-- and nowhere else
pub independent_of : (shown : Shown) → IsShown shown → (from c v : ℕ) → from < length shown.nodes → IsVariableOf shown.universe c v →
    ¬ IsVariableReached shown.nodes from v → DependsOn shown from c → ⊥
unfolding value_of
independent_of shown is from c v inside of none d =
    d.differ (unused_same shown.nodes is.store from (length shown.universe) v is.within (test_of shown.universe (with_number c d.set))
    (test_of shown.universe d.set)
    (λ w le ne. test-with_number shown.universe d.set c v is.ascending of w le ∙ updated_apart (test_of shown.universe d.set) v true w ne) none inside)

above_picked : (m : ℕ) (marks : List Bool) (place : ℕ) (cs : List ℕ) → AllAbove m cs → AllAbove m (picked marks place cs)
above_picked m marks place [] all = tt
above_picked m marks place (c ∷ cs) all = by (is_marked marks place) (above_picked m marks (place + 1) cs all.1)
  where
    by : (b : Bool) → AllAbove m (picked marks (place + 1) cs) → AllAbove m (cond b (c ∷ picked marks (place + 1) cs) (picked marks (place + 1) cs))
    by true rest = (all.0, rest)
    by false rest = rest

pub ascending_picked : (marks : List Bool) (place : ℕ) (cs : List ℕ) → IsAscending cs → IsAscending (picked marks place cs)
ascending_picked marks place [] up = tt
ascending_picked marks place (c ∷ cs) up = by (is_marked marks place) (ascending_picked marks (place + 1) cs up.1)
  where
    by : (b : Bool) → IsAscending (picked marks (place + 1) cs) → IsAscending (cond b (c ∷ picked marks (place + 1) cs) (picked marks (place + 1) cs))
    by true rest = (above_picked c marks (place + 1) cs up.0, rest)
    by false rest = rest

-- a marked place of the list at which the community stands
record IsPickedAt (marks : List Bool) (place : ℕ) (cs : List ℕ) (c : ℕ) : Type 0 where
  index : ℕ
  inside : index < length cs
  there : get_or cs index 0 ≡ c
  marked : is_marked marks (place + index) ≡ true

picked_later : (marks : List Bool) (place c' : ℕ) (cs : List ℕ) (c : ℕ) → IsPickedAt marks (place + 1) cs c → IsPickedAt marks place (c' ∷ cs) c
picked_later marks place c' cs c p =
    let inside = p.inside in
    let e : place + suc p.index ≡ place + 1 + p.index = omega arith in
    record { index = suc p.index; inside = omega arith; there = p.there; marked = rw e p.marked }

picked_at : (marks : List Bool) (place : ℕ) (cs : List ℕ) (c : ℕ) → has (picked marks place cs) c ≡ true → IsPickedAt marks place cs c
picked_at marks place [] c there = absurd cc
picked_at marks place (d ∷ cs) c there = by (is_marked marks place) refl there (picked_at marks (place + 1) cs c)
  where
    by : (b : Bool) → is_marked marks place ≡ b → has (cond b (d ∷ picked marks (place + 1) cs) (picked marks (place + 1) cs)) c ≡ true →
        (has (picked marks (place + 1) cs) c ≡ true → IsPickedAt marks (place + 1) cs c) → IsPickedAt marks place (d ∷ cs) c
    by false e there' rest = picked_later marks place d cs c (rest there')
    by true e there' rest = elim (cases_eq d c) [
      | inl same ↦ let at : place + 0 ≡ place = omega arith in record { index = 0; inside = omega arith; there = same; marked = rw at e }
      | inr ne ↦ picked_later marks place d cs c (rest (rw (other_number d c ne) at there'))
    ]

picked_has : (marks : List Bool) (place : ℕ) (cs : List ℕ) (i : ℕ) → i < length cs → is_marked marks (place + i) ≡ true →
    has (picked marks place cs) (get_or cs i 0) ≡ true
picked_has marks place [] i inside marked = absurd (omega arith)
picked_has marks place (c ∷ cs) zero inside marked =
    let at : place + 0 ≡ place = omega arith in
    let here : is_marked marks place ≡ true = rw at at marked in
    rw (here, same_number c c refl) refl
picked_has marks place (c ∷ cs) (suc i) inside marked =
    let e : place + suc i ≡ place + 1 + i = omega arith in
    let rest = picked_has marks (place + 1) cs i (omega arith) (rw e at marked) in
    by (is_marked marks place) rest
  where
    by : (b : Bool) → has (picked marks (place + 1) cs) (get_or cs i 0) ≡ true →
        has (cond b (c ∷ picked marks (place + 1) cs) (picked marks (place + 1) cs)) (get_or cs i 0) ≡ true
    by true rest = rw rest (or_true (nat_eq c (get_or cs i 0)))
    by false rest = rest

not_reached : (nodes : List Node) (from bound v : ℕ) (used : List Bool) → AreUsedVariables nodes from bound used → is_marked used v ≡ false →
    ¬ IsVariableReached nodes from v
not_reached nodes from bound v used are none = λ there. let marked = are.all v there in absurd cc

-- what is picked are the communities on which the value depends
module _ (shown : Shown) (is : IsShown shown) (from : ℕ) (used : List Bool) (inside : from < length shown.nodes)
    (are : AreUsedVariables shown.nodes from (length shown.universe) used) where
  picked_all : (c : ℕ) → StandsAt shown.universe c → DependsOn shown from c → has (picked used 0 shown.universe) c ≡ true
  picked_all c at d = by (is_marked used at.place) refl
    where
      by : (b : Bool) → is_marked used at.place ≡ b → has (picked used 0 shown.universe) c ≡ true
      by true e = let start : 0 + at.place ≡ at.place = omega arith in rw (sym at.there) (picked_has used 0 shown.universe at.place at.inside (rw start e))
      by false e = absurd (independent_of shown is from c at.place inside (known at.inside at.there)
          (not_reached shown.nodes from (length shown.universe) at.place used are e) d)

  pub support_is : IsSupport shown from (picked used 0 shown.universe)
  support_is = record {
    known = λ c there. let p = picked_at used 0 shown.universe c there in rw (sym p.there) (has-index shown.universe p.index p.inside);
    needed = λ c there.
        let p = picked_at used 0 shown.universe c there in
        let start : 0 + p.index ≡ p.index = omega arith in
        depends_on shown is from c p.index inside (known p.inside p.there)
        (reached_depends shown.nodes is.store from p.index (are.reached p.index (rw start at p.marked)));
    all = λ c there d. picked_all c (stands_at shown.universe c there) d;
  }

  pub others_needed : is_marked used (length shown.universe) ≡ true → DependsOnOthers shown from
  others_needed marked =
      let none = has_outside (outside_of shown.universe) shown.universe (all_below_outside shown.universe) in
      record {
        community = outside_of shown.universe;
        outside = none;
        depends = depends_on shown is from (outside_of shown.universe) (length shown.universe) inside (outside none refl)
            (reached_depends shown.nodes is.store from (length shown.universe) (are.reached (length shown.universe) marked));
      }

  pub others_all : (b : Bool) → is_marked used (length shown.universe) ≡ b → DependsOnOthers shown from → b ≡ true
  others_all true e d = refl
  others_all false e d = absurd (independent_of shown is from d.community (length shown.universe) inside (outside d.outside refl)
      (not_reached shown.nodes from (length shown.universe) (length shown.universe) used are e) d.depends)

-- one step of picking
module _ (marks : List Bool) (cs : List ℕ) (place : ℕ) (done whole : List ℕ) (inside : place < length cs)
    (before : done ++ picked marks place (drop place cs) ≡ whole) where
  rest_is : drop place cs ≡ get_or cs place 0 ∷ drop (place + 1) cs
  rest_is = let e : suc place ≡ place + 1 = omega arith in drop-cons cs place 0 inside ∙ ap (λ (n : ℕ). get_or cs place 0 ∷ drop n cs) e

  pub picked_more : is_marked marks place ≡ true → (done ++ get_or cs place 0 ∷ []) ++ picked marks (place + 1) (drop (place + 1) cs) ≡ whole
  picked_more marked =
      append_assoc done (get_or cs place 0 ∷ []) (picked marks (place + 1) (drop (place + 1) cs))
      ∙ ap (λ b. done ++ cond b (get_or cs place 0 ∷ picked marks (place + 1) (drop (place + 1) cs)) (picked marks (place + 1) (drop (place + 1) cs)))
      (sym marked)
      ∙ ap (λ (l : List ℕ). done ++ picked marks place l) (sym rest_is)
      ∙ before

  pub picked_same : is_marked marks place ≡ false → done ++ picked marks (place + 1) (drop (place + 1) cs) ≡ whole
  picked_same none =
      ap (λ b. done ++ cond b (get_or cs place 0 ∷ picked marks (place + 1) (drop (place + 1) cs)) (picked marks (place + 1) (drop (place + 1) cs))) (sym none)
      ∙ ap (λ (l : List ℕ). done ++ picked marks place l) (sym rest_is)
      ∙ before

pub picked_end : (marks : List Bool) (cs : List ℕ) (place : ℕ) (done whole : List ℕ) → length cs ≤ place → done ++ picked marks place (drop place cs) ≡ whole →
    done ≡ whole
picked_end marks cs place done whole past before =
    sym (append-nil done) ∙ ap (λ (l : List ℕ). done ++ picked marks place l) (sym (drop_of_length-le cs past)) ∙ before
