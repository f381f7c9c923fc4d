-- Two partitions in which the same routers are together have the same groups in the same order, whatever the numbers.
use Rattle.std.proofs.Common.{◌≡◌, inl, inr, ℕ, zero, suc, ◌+◌, ◌<◌, ◌≤◌, Bool, true, false, cond, ◌||◌, nat_eq, List, [], ◌∷◌, ◌++◌, length}
use Rattle.std.proofs.Common.{map, get_or, drop, refl, sym, ap, ◌∙◌, subst, arith, filter}
use Rattle.std.specs.Prelude.{slice_index, ◌==◌}
use Rattle.std.specs.List.{range_with_len}
use Rattle.std.proofs.lemmas.Bool.{cases_lt}
use Rattle.std.proofs.lemmas.List.{ext_get_or, map-append}
use Rattle.std.proofs.lemmas.List.FromFn.{length-range_with_len}
use Rattle.base_kit.specs.Partition.{members_of, IsNumbered, Refines}
use Rattle.base_kit.specs.Sets.{has}
use Rattle.cut_certificate.specs.Blocks.{distinct, groups_of, seen_after}
use Rattle.cut_certificate.proofs.Seen.{same_test, test_same, with_next, with_old}
use Rattle.cut_certificate.proofs.Used.{map_long, over_range}

abbrev AreBelow : ℕ → List ℕ → Type 0
AreBelow n [] = Unit {0}
AreBelow n (k ∷ ks) = (k < n) × AreBelow n ks

below_push : (n : ℕ) (ks : List ℕ) (u : ℕ) → AreBelow n ks → u < n → AreBelow n (ks ++ u ∷ [])
below_push n [] u below h = (h, tt)
below_push n (k ∷ ks) u below h = (below.0, below_push n ks u below.1 h)

below_range : (n a m : ℕ) → a + m ≤ n → AreBelow n (range_with_len a m)
below_range n a zero le = tt
below_range n a (suc m) le = (omega arith, below_range n (a + 1) m (omega arith))

abbrev at : List ℕ → ℕ → ℕ
at gs u = get_or gs u 0

listed : (gs : List ℕ) (n : ℕ) → length gs ≡ n → gs ≡ map (at gs) (range_with_len 0 n)
listed gs n total =
    ext_get_or 0 gs (map (at gs) (range_with_len 0 n)) (total ∙ sym (map_long (at gs) (range_with_len 0 n) ∙ length-range_with_len 0 n))
    (λ u h. sym (over_range (at gs) n u (omega (arith, total, h))))

equal_tests : (a b : Bool) → (a ≡ true → b ≡ true) → (b ≡ true → a ≡ true) → a ≡ b
equal_tests true b there back = sym (there refl)
equal_tests false true there back = back refl
equal_tests false false there back = refl

filter_same : (p q : ℕ → Bool) (us : List ℕ) (n : ℕ) → AreBelow n us → ((u : ℕ) → u < n → p u ≡ q u) → filter p us ≡ filter q us
filter_same p q [] n below same = refl
filter_same p q (u ∷ us) n below same =
    ap (λ b. cond b (u ∷ filter p us) (filter p us)) (same u below.0) ∙ ap (λ (xs : List ℕ). cond (q u) (u ∷ xs) xs) (filter_same p q us n below.1 same)

-- ---- the same groups

module _ (gs hs : List ℕ) (n : ℕ) (tests : (u v : ℕ) → u < n → v < n → nat_eq (at gs u) (at gs v) ≡ nat_eq (at hs u) (at hs v)) where
  has_same : (ks : List ℕ) (u : ℕ) → AreBelow n ks → u < n → has (map (at gs) ks) (at gs u) ≡ has (map (at hs) ks) (at hs u)
  has_same [] u below h = refl
  has_same (k ∷ ks) u below h =
      ap (λ b. b || has (map (at gs) ks) (at gs u)) (tests k u below.0 h) ∙ ap (λ b. nat_eq (at hs k) (at hs u) || b) (has_same ks u below.1 h)

  -- both see the same routers first
  record AreSeenAlike (old us : List ℕ) : Type 0 where
    routers : List ℕ
    below : AreBelow n routers
    first : seen_after (map (at gs) old) (map (at gs) us) ≡ map (at gs) routers
    second : seen_after (map (at hs) old) (map (at hs) us) ≡ map (at hs) routers

  seen_step : (old : List ℕ) (u : ℕ) (us : List ℕ) (b : Bool) → has (map (at gs) old) (at gs u) ≡ b → has (map (at hs) old) (at hs u) ≡ b
      → AreSeenAlike (cond b old (old ++ u ∷ [])) us → AreSeenAlike old (u ∷ us)
  seen_step old u us true e f rest = record {
    routers = rest.routers;
    below = rest.below;
    first = ap (λ s. seen_after s (map (at gs) us)) (with_old (map (at gs) old) (at gs u) e) ∙ rest.first;
    second = ap (λ s. seen_after s (map (at hs) us)) (with_old (map (at hs) old) (at hs u) f) ∙ rest.second;
  }
  seen_step old u us false e f rest = record {
    routers = rest.routers;
    below = rest.below;
    first = ap (λ s. seen_after s (map (at gs) us)) (with_next (map (at gs) old) (at gs u) e ∙ sym (map-append (at gs) old (u ∷ []))) ∙ rest.first;
    second = ap (λ s. seen_after s (map (at hs) us)) (with_next (map (at hs) old) (at hs u) f ∙ sym (map-append (at hs) old (u ∷ []))) ∙ rest.second;
  }

  below_more : (old : List ℕ) (u : ℕ) (b : Bool) → AreBelow n old → u < n → AreBelow n (cond b old (old ++ u ∷ []))
  below_more old u true below h = below
  below_more old u false below h = below_push n old u below h

  seen_alike : (old us : List ℕ) → AreBelow n old → AreBelow n us → AreSeenAlike old us
  seen_alike old [] below more = record { routers = old; below = below; first = refl; second = refl }
  seen_alike old (u ∷ us) below more =
      let b = has (map (at gs) old) (at gs u) in
      seen_step old u us b refl (sym (has_same old u below more.0)) (seen_alike (cond b old (old ++ u ∷ [])) us (below_more old u b below more.0) more.1)

  module _ (first_total : length gs ≡ n) (second_total : length hs ≡ n) where
    members_same : (u : ℕ) → u < n → members_of gs (at gs u) ≡ members_of hs (at hs u)
    members_same u h =
        ap (λ k. filter (λ router. slice_index gs router == at gs u) (range_with_len 0 k)) first_total
        ∙ filter_same (λ router. slice_index gs router == at gs u) (λ router. slice_index hs router == at hs u)
        (range_with_len 0 n) n (below_range n 0 n (omega arith)) (λ v inside. tests v u inside h)
        ∙ ap (λ k. filter (λ router. slice_index hs router == at hs u) (range_with_len 0 k)) (sym second_total)

    each_same : (us : List ℕ) → AreBelow n us → map (members_of gs) (map (at gs) us) ≡ map (members_of hs) (map (at hs) us)
    each_same [] below = refl
    each_same (u ∷ us) below = (λ j. members_same u below.0 j ∷ each_same us below.1 j)

    groups_same : groups_of gs ≡ groups_of hs
    unfolding groups_of distinct
    groups_same =
        let s = seen_alike [] (range_with_len 0 n) tt (below_range n 0 n (omega arith)) in
        ap (map (members_of gs)) (ap (seen_after []) (listed gs n first_total) ∙ s.first)
        ∙ each_same s.routers s.below
        ∙ sym (ap (map (members_of hs)) (ap (seen_after []) (listed hs n second_total) ∙ s.second))

-- ---- numbered groups

range_more : (a n j : ℕ) → a + n ≡ j → range_with_len a (suc n) ≡ range_with_len a n ++ j ∷ []
range_more a zero j e = ap (λ i. i ∷ []) (let same : a ≡ j = omega (arith, e) in same)
range_more a (suc n) j e = ap (λ (xs : List ℕ). a ∷ xs) (range_more (a + 1) n j (omega (arith, e)))

range_has : (a n u : ℕ) → a ≤ u → u < a + n → has (range_with_len a n) u ≡ true
range_has a zero u low high = absurd (omega (arith, low, high))
range_has a (suc n) u low high = by (λ above. range_has (a + 1) n u above (omega (arith, high))) (nat_eq a u) refl
  where
    other : nat_eq a u ≡ false → a + 1 ≤ u
    other e =
        elim (cases_lt a u) [ inl less ↦ omega (arith, less) | inr ge ↦ absurd (let same : a ≡ u = omega (arith, low, ge) in let t = same_test a u same in cc) ]

    by : (a + 1 ≤ u → has (range_with_len (a + 1) n) u ≡ true) → (b : Bool) → nat_eq a u ≡ b → (b || has (range_with_len (a + 1) n) u) ≡ true
    by rest true e = refl
    by rest false e = rest (other e)

range_lacks : (a n u : ℕ) → a + n ≤ u → has (range_with_len a n) u ≡ false
range_lacks a zero u high = refl
range_lacks a (suc n) u high = by (range_lacks (a + 1) n u (omega (arith, high))) (nat_eq a u) refl
  where
    by : has (range_with_len (a + 1) n) u ≡ false → (b : Bool) → nat_eq a u ≡ b → (b || has (range_with_len (a + 1) n) u) ≡ false
    by rest true e = absurd (let same = test_same a u e in omega (arith, same, high))
    by rest false e = rest

drop_next : (xs : List ℕ) (v : ℕ) → v < length xs → drop v xs ≡ slice_index xs v ∷ drop (v + 1) xs
drop_next [] v h = absurd (omega (arith, h))
drop_next (x ∷ xs) zero h = refl
drop_next (x ∷ xs) (suc v) h =
    drop_next xs v (omega (arith, h)) ∙ (let k : suc (v + 1) ≡ suc v + 1 = omega arith in ap (λ j. slice_index xs v ∷ drop j (x ∷ xs)) k)

drop_none : (xs : List ℕ) (v : ℕ) → length xs ≤ v → drop v xs ≡ []
drop_none [] zero h = refl
drop_none [] (suc v) h = refl
drop_none (x ∷ xs) zero h = absurd (omega (arith, h))
drop_none (x ∷ xs) (suc v) h = drop_none xs v (omega (arith, h))

any_default : (xs : List ℕ) (k d e : ℕ) → k < length xs → get_or xs k d ≡ get_or xs k e
any_default [] k d e h = absurd (omega (arith, h))
any_default (x ∷ xs) zero d e h = refl
any_default (x ∷ xs) (suc k) d e h = any_default xs k d e (omega (arith, h))

module _ (gs : List ℕ) (count : ℕ) (numbered : IsNumbered gs count) where
  -- the groups of the routers before this one
  record AreFirst (v m : ℕ) : Type 0 where
    low : (u : ℕ) → u < v → slice_index gs u < m
    met : (g : ℕ) → g < m → (u : ℕ) × (u < v) × (slice_index gs u ≡ g)

  all_met : (v m : ℕ) → length gs ≡ v → AreFirst v m → m ≡ count
  all_met v m over first = elim (cases_lt m count) [
    | inl less ↦ absurd (let c = numbered.used m less in let inside = c.1 in
        let low = first.low c.0 (omega (arith, inside, over)) in let is : slice_index gs c.0 ≡ m = any_default gs c.0 0 m inside ∙ c.2 in
        omega (arith, low, is))
    | inr ge ↦ elim (cases_lt count m) [
      | inl more ↦ absurd (let u = first.met count more in let inside = u.1 in
          let below : slice_index gs u.0 < count = numbered.below u.0 0 (omega (arith, inside, over)) in let is = u.2 in omega (arith, below, is))
      | inr same ↦ omega (arith, ge, same)
    ]
  ]

  -- a router whose group was met
  old_first : (v m : ℕ) → slice_index gs v < m → AreFirst v m → AreFirst (v + 1) m
  old_first v m old first = record {
    low =
        λ u h. elim (cases_lt u v) [
          | inl less ↦ first.low u less
          | inr ge ↦ (let same : v ≡ u =
              omega (arith, h, ge) in subst (λ w. slice_index gs w < m) same old)
        ];
    met = λ g h. (let u = first.met g h in let less = u.1 in (u.0, omega (arith, less), u.2));
  }

  -- a router that is the first of its group
  new_first : (v m : ℕ) → slice_index gs v ≡ m → AreFirst v m → AreFirst (v + 1) (m + 1)
  new_first v m new first = record {
    low = λ u h. elim (cases_lt u v) [
      | inl less ↦ (let low = first.low u less in omega (arith, low))
      | inr ge ↦ (let same : v ≡ u = omega (arith, h, ge) in let is : slice_index gs u ≡ m = subst (λ w. slice_index gs w ≡ m) same new in omega (arith, is))
    ];
    met = λ g h. elim (cases_lt g m) [
      | inl less ↦ (let u = first.met g less in let before = u.1 in (u.0, omega (arith, before), u.2))
      | inr ge ↦ (v, omega arith, (let same : m ≡ g = omega (arith, h, ge) in new ∙ same))
    ];
  }

  -- a group is met only behind all lower ones
  not_later : (v m : ℕ) → v < length gs → AreFirst v m → m < slice_index gs v → ⊥
  not_later v m h first later = let u = numbered.in_order v m h later in let low = first.low u.0 u.1 in let is = u.2 in omega (arith, low, is)

  in_order : (left v m : ℕ) → v + left ≡ length gs → AreFirst v m → seen_after (range_with_len 0 m) (drop v gs) ≡ range_with_len 0 count
  in_order zero v m total first =
      ap (seen_after (range_with_len 0 m)) (drop_none gs v (omega (arith, total))) ∙ ap (range_with_len 0) (all_met v m (omega (arith, total)) first)
  in_order (suc left) v m total first =
      let inside : v < length gs = omega (arith, total) in
      let next = slice_index gs v in
      ap (seen_after (range_with_len 0 m)) (drop_next gs v inside) ∙ elim (cases_lt next m) [
        | inl old ↦
            let seen = with_old (range_with_len 0 m) next (range_has 0 m next (omega arith) (omega (arith, old))) in
            ap (λ s. seen_after s (drop (v + 1) gs)) seen ∙ in_order left (v + 1) m (omega (arith, total)) (old_first v m old first)
        | inr ge ↦ elim (cases_lt m next) [
          | inl later ↦ absurd (not_later v m inside first later)
          | inr low ↦
              let is : next ≡ m = omega (arith, ge, low) in
              let seen = with_next (range_with_len 0 m) next (range_lacks 0 m next (omega (arith, ge))) in
              let more : range_with_len 0 m ++ next ∷ [] ≡ range_with_len 0 (m + 1) =
              ap (λ k. range_with_len 0 m ++ k ∷ []) is ∙ sym (range_more 0 m m (omega arith)) ∙ (let k : suc m ≡ m + 1 =
              omega arith in ap (range_with_len 0) k) in
              ap (λ s. seen_after s (drop (v + 1) gs)) (seen ∙ more) ∙ in_order left (v + 1) (m + 1) (omega (arith, total)) (new_first v m is first)
        ]
      ]

  pub numbered_groups : groups_of gs ≡ map (members_of gs) (range_with_len 0 count)
  unfolding groups_of distinct
  numbered_groups =
      ap (map (members_of gs)) (in_order (length gs) 0 0 (omega arith) (record {
        low =
            λ u h. absurd (omega (arith, h));
        met = λ g h. absurd (omega (arith, h));
      }))

-- ---- both

pub listed_alike : (gs hs : List ℕ) (n count : ℕ) → length gs ≡ n → length hs ≡ n → Refines n gs hs → Refines n hs gs → IsNumbered hs count
    → groups_of gs ≡ map (members_of hs) (range_with_len 0 count)
listed_alike gs hs n count first second there back numbered =
    groups_same gs hs n
    (λ u v hu hv. equal_tests (nat_eq (at gs u) (at gs v)) (nat_eq (at hs u) (at hs v)) (λ e. same_test _ _ (there u v hu hv (test_same _ _ e)))
    (λ e. same_test _ _ (back u v hu hv (test_same _ _ e))))
    first second ∙ numbered_groups hs count numbered
