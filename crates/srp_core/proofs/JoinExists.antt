-- Two partitions have a join: in the first one the groups of each pair that is together in the second are
-- merged.
use Rattle.std.proofs.Common.{◌≡◌, ℕ, zero, suc, ◌<◌, Bool, true, false, cond, List, [], ◌∷◌, map, length, refl, sym, ap, ◌∙◌, subst, inl, inr, arith, flat_map, zero-add}
use Rattle.std.specs.Prelude.{nat_eq, filter}
use Rattle.std.specs.List.{range_with_len}
use Rattle.std.proofs.lemmas.Bool.{cases_Bool, eqb-true, eq-eqb}
use Rattle.std.proofs.lemmas.List.{length-map}
use Rattle.base_kit.proofs.Elements.{In, in_map, map_in, in_filter, filter_in, in_flat_map, flat_map_in, in_range, range_in}
use Rattle.srp_core.specs.Quotient.{group_of, AreTogetherInOne, AreLinked, IsJoin}

renamed : ℕ → ℕ → ℕ → ℕ
renamed kept gone group = cond (nat_eq group gone) kept group

merge : List ℕ → ℕ × ℕ → List ℕ
merge groups pair = map (renamed (group_of groups pair.0) (group_of groups pair.1)) groups

merge_all : List ℕ → List (ℕ × ℕ) → List ℕ
merge_all groups [] = groups
merge_all groups (pair ∷ pairs) = merge_all (merge groups pair) pairs

pub at_map : (f : ℕ → ℕ) (xs : List ℕ) (k : ℕ) → k < length xs → group_of (map f xs) k ≡ f (group_of xs k)
at_map f [] k h = absurd (omega arith)
at_map f (x ∷ xs) zero h = refl
at_map f (x ∷ xs) (suc k) h = at_map f xs k (omega arith)

length-merge : (groups : List ℕ) (pair : ℕ × ℕ) → length (merge groups pair) ≡ length groups
unfolding merge
length-merge groups pair = length-map groups (renamed (group_of groups pair.0) (group_of groups pair.1))

length-merge_all : (groups : List ℕ) (pairs : List (ℕ × ℕ)) → length (merge_all groups pairs) ≡ length groups
unfolding merge_all
length-merge_all groups [] = refl
length-merge_all groups (pair ∷ pairs) = length-merge_all (merge groups pair) pairs ∙ length-merge groups pair

-- routers that are together stay together
merge_keeps : (groups : List ℕ) (pair : ℕ × ℕ) (u v : ℕ) → u < length groups → v < length groups → group_of groups u ≡ group_of groups v →
    group_of (merge groups pair) u ≡ group_of (merge groups pair) v
unfolding merge
merge_keeps groups pair u v hu hv same =
    let f = renamed (group_of groups pair.0) (group_of groups pair.1) in
    at_map f groups u hu ∙ ap f same ∙ sym (at_map f groups v hv)

all_keep : (groups : List ℕ) (pairs : List (ℕ × ℕ)) (u v : ℕ) → u < length groups → v < length groups → group_of groups u ≡ group_of groups v →
    group_of (merge_all groups pairs) u ≡ group_of (merge_all groups pairs) v
unfolding merge_all
all_keep groups [] u v hu hv same = same
all_keep groups (pair ∷ pairs) u v hu hv same =
    let len = length-merge groups pair in
    all_keep (merge groups pair) pairs u v (omega arith) (omega arith) (merge_keeps groups pair u v hu hv same)

renamed_both : (a b : ℕ) → renamed a b a ≡ renamed a b b
unfolding renamed
renamed_both a b = by (nat_eq a b) ∙ sym (ap (λ t. cond t a b) (eq-eqb b b refl))
  where
    by : (t : Bool) → cond t a a ≡ a
    by true = refl
    by false = refl

-- a pair that was merged is together
pair_merged : (groups : List ℕ) (pair : ℕ × ℕ) → pair.0 < length groups → pair.1 < length groups →
    group_of (merge groups pair) pair.0 ≡ group_of (merge groups pair) pair.1
unfolding merge
pair_merged groups pair h k =
    let f = renamed (group_of groups pair.0) (group_of groups pair.1) in
    at_map f groups pair.0 h ∙ renamed_both (group_of groups pair.0) (group_of groups pair.1) ∙ sym (at_map f groups pair.1 k)

all_merged : (groups : List ℕ) (pairs : List (ℕ × ℕ)) (pair : ℕ × ℕ) → pair.0 < length groups → pair.1 < length groups → In pairs pair →
    group_of (merge_all groups pairs) pair.0 ≡ group_of (merge_all groups pairs) pair.1
unfolding merge_all
all_merged groups [] pair h k i = absurd i
all_merged groups (p ∷ pairs) pair h k (inl here) =
    let len = length-merge groups pair in
    subst (λ (x : ℕ × ℕ). group_of (merge_all (merge groups x) pairs) pair.0 ≡ group_of (merge_all (merge groups x) pairs) pair.1) (sym here)
    (all_keep (merge groups pair) pairs pair.0 pair.1 (omega arith) (omega arith) (pair_merged groups pair h k))
all_merged groups (p ∷ pairs) pair h k (inr there) =
    let len = length-merge groups p in
    all_merged (merge groups p) pairs pair (omega arith) (omega arith) there

module _ (count : ℕ) (first second : List ℕ) (total : length first ≡ count) where
  Chain : ℕ → ℕ → Type 0
  Chain u v = (steps : ℕ) × AreLinked count first second steps u v

  behind : (steps u v w : ℕ) → AreLinked count first second steps u v → Chain v w → Chain u w
  unfolding Chain
  behind zero u v w e c = subst (λ x. (steps : ℕ) × AreLinked count first second steps x w) (sym e) c
  behind (suc steps) u v w (x, hx, step, rest) c = (let r = behind steps x v w rest c in (suc r.0, (x, hx, step, r.1)))

  one : (u v : ℕ) → v < count → AreTogetherInOne first second u v → Chain u v
  unfolding Chain
  one u v h step = (suc zero, (v, h, step, refl))

  turn : (u v : ℕ) → AreTogetherInOne first second u v → AreTogetherInOne first second v u
  turn u v (inl same) = inl (sym same)
  turn u v (inr same) = inr (sym same)

  IsLinked : List ℕ → Type 0
  IsLinked groups = (u v : ℕ) → u < count → v < count → group_of groups u ≡ group_of groups v → Chain u v

  joined_chain : (u v w : ℕ) → Chain u v → Chain v w → Chain u w
  unfolding Chain
  joined_chain u v w a b = behind a.0 u v w a.1 b

  merge_linked : (groups : List ℕ) (pair : ℕ × ℕ) → length groups ≡ count → pair.0 < count → pair.1 < count → group_of second pair.0 ≡ group_of second pair.1 →
      IsLinked groups → IsLinked (merge groups pair)
  unfolding merge renamed IsLinked
  merge_linked groups pair len hi hj together linked u v hu hv same =
      let a = group_of groups pair.0 in
      let b = group_of groups pair.1 in
      let f = renamed a b in
      let at : f (group_of groups u) ≡ f (group_of groups v) = sym (at_map f groups u (omega arith)) ∙ same ∙ at_map f groups v (omega arith) in
      elim (cases_Bool (nat_eq (group_of groups u) b)) [
        | inl tu ↦ elim (cases_Bool (nat_eq (group_of groups v) b)) [
          | inl tv ↦ linked u v hu hv (eqb-true (group_of groups u) b tu ∙ sym (eqb-true (group_of groups v) b tv))
          | inr fv ↦
              let is : a ≡ group_of groups v = sym (ap (λ t. cond t a (group_of groups u)) tu) ∙ at ∙ ap (λ t. cond t a (group_of groups v)) fv in
              joined_chain u pair.1 v (linked u pair.1 hu hj (eqb-true (group_of groups u) b tu))
              (joined_chain pair.1 pair.0 v (one pair.1 pair.0 hi (inr (sym together))) (linked pair.0 v hi hv is))
        ]
        | inr fu ↦ elim (cases_Bool (nat_eq (group_of groups v) b)) [
          | inl tv ↦
              let is : group_of groups u ≡ a = sym (ap (λ t. cond t a (group_of groups u)) fu) ∙ at ∙ ap (λ t. cond t a (group_of groups v)) tv in
              joined_chain u pair.0 v (linked u pair.0 hu hi is)
              (joined_chain pair.0 pair.1 v (one pair.0 pair.1 hj (inr together)) (linked pair.1 v hj hv (sym (eqb-true (group_of groups v) b tv))))
          | inr fv ↦ linked u v hu hv (sym (ap (λ t. cond t a (group_of groups u)) fu) ∙ at ∙ ap (λ t. cond t a (group_of groups v)) fv)
        ]
      ]

  AreTogether : ℕ × ℕ → Type 0
  AreTogether pair = (pair.0 < count) × (pair.1 < count) × (group_of second pair.0 ≡ group_of second pair.1)

  all_linked : (groups : List ℕ) (pairs : List (ℕ × ℕ)) → length groups ≡ count → ((pair : ℕ × ℕ) → In pairs pair → AreTogether pair) → IsLinked groups →
      IsLinked (merge_all groups pairs)
  unfolding merge_all AreTogether
  all_linked groups [] len are linked = linked
  all_linked groups (pair ∷ pairs) len are linked =
      let p = are pair (inl refl) in
      all_linked (merge groups pair) pairs (length-merge groups pair ∙ len) (λ x i. are x (inr i)) (merge_linked groups pair len p.0 p.1 p.2 linked)

  pairs_from : ℕ → List (ℕ × ℕ)
  pairs_from i = map (λ j. (i, j)) (filter (λ j. nat_eq (group_of second i) (group_of second j)) (range_with_len 0 count))

  all_pairs : List (ℕ × ℕ)
  all_pairs = flat_map pairs_from (range_with_len 0 count)

  pairs_together : (pair : ℕ × ℕ) → In all_pairs pair → AreTogether pair
  unfolding all_pairs pairs_from AreTogether
  pairs_together pair at =
      let o = flat_map_in pairs_from (range_with_len 0 count) pair at in
      let m = map_in (λ j. (o.0, j)) (filter (λ j. nat_eq (group_of second o.0) (group_of second j)) (range_with_len 0 count)) pair o.2 in
      let f = filter_in (λ j. nat_eq (group_of second o.0) (group_of second j)) (range_with_len 0 count) m.0 m.1 in
      let i = range_in 0 count o.0 o.1 in
      let j = range_in 0 count m.0 f.0 in
      subst (λ (x : ℕ × ℕ). (x.0 < count) × (x.1 < count) × (group_of second x.0 ≡ group_of second x.1)) m.2
      (omega arith, omega arith, eqb-true (group_of second o.0) (group_of second m.0) f.1)

  in_all_pairs : (i j : ℕ) → i < count → j < count → group_of second i ≡ group_of second j → In all_pairs (i, j)
  unfolding all_pairs pairs_from
  in_all_pairs i j hi hj same =
      let at = λ (k : ℕ) (h : k < count). subst (In (range_with_len 0 count)) (zero-add k) (in_range 0 count k h) in
      in_flat_map pairs_from (range_with_len 0 count) i (i, j) (at i hi)
      (in_map (λ k. (i, k)) (filter (λ k. nat_eq (group_of second i) (group_of second k)) (range_with_len 0 count)) j
      (in_filter (λ k. nat_eq (group_of second i) (group_of second k)) (range_with_len 0 count) j (at j hj)
      (eq-eqb (group_of second i) (group_of second j) same)))

  joined : List ℕ
  joined = merge_all first all_pairs

  step_together : (u w : ℕ) → u < count → w < count → AreTogetherInOne first second u w → group_of joined u ≡ group_of joined w
  unfolding joined
  step_together u w hu hw (inl same) = all_keep first all_pairs u w (omega arith) (omega arith) same
  step_together u w hu hw (inr same) = all_merged first all_pairs (u, w) (omega arith) (omega arith) (in_all_pairs u w hu hw same)

  linked_together : (steps u v : ℕ) → u < count → v < count → AreLinked count first second steps u v → group_of joined u ≡ group_of joined v
  linked_together zero u v hu hv e = ap (group_of joined) e
  linked_together (suc steps) u v hu hv (w, hw, step, rest) = step_together u w hu hw step ∙ linked_together steps w v hw hv rest

  pub join_exists : (groups : List ℕ) × IsJoin count first second groups
  unfolding joined IsLinked Chain
  join_exists = (
    joined,
    record {
      total = length-merge_all first all_pairs ∙ total;
      linked = all_linked first all_pairs total pairs_together (λ u v hu hv same. one u v hv (inl same));
      together = linked_together;
    },
  )
