-- Tasks by ascending size.
use Rattle.std.proofs.Common.{◌≡◌, ◌⊎◌, ℕ, zero, suc, ◌+◌, ◌<◌, ◌≤◌, List, [], ◌∷◌, length, Option, Some, None, refl, sym, ◌∙◌, ap, subst, arith, inl, inr}
use Rattle.std.specs.Prelude.{All, filter_map, nat_eq, slice_get, slice_index}
use Rattle.std.specs.List.{range_with_len, cons_option}
use Rattle.std.specs.Option.{option_map}
use Rattle.std.proofs.lemmas.Bool.{cases_lt}
use Rattle.base_kit.proofs.Elements.{In, in_filter_map, filter_map_in, in_get, get_in, in_range, range_in}
use Rattle.by_key.specs.ByKey.{with_key, by_key}
use Rattle.by_key.proofs.KeyedItems.{all_from, key_is, by_key_in, in_by_key}
use Rattle.by_key.proofs.OrderedByKey.{IsOrdered, ordered_as, ordered_filter, ordered_keys}
use Rattle.srp_core.specs.declared.route.Route.{Route}
use Rattle.srp_core.specs.Stability.{label}
use Rattle.solution_lift.specs.declared.tasks.Task.{Task}
use Rattle.solution_lift.specs.Carrying.{task_of, task_at, size_key, IsOrder}

pub ordered_get : {X : Type 0} (R : X → X → Type 0) (xs : List X) (i j : ℕ) (a b : X) → IsOrdered R xs → i < j → slice_get xs i ≡ Some a →
    slice_get xs j ≡ Some b → R a b
ordered_get R [] i j a b o less at to = absurd cc
ordered_get R (x ∷ xs) zero zero a b o less at to = absurd (omega arith)
ordered_get R (x ∷ xs) zero (suc j) a b o less at to = subst (λ y. R y b) (let same : x ≡ a = cc in same) (o.0 b (get_in xs j b to))
ordered_get R (x ∷ xs) (suc i) zero a b o less at to = absurd (omega arith)
ordered_get R (x ∷ xs) (suc i) (suc j) a b o less at to = ordered_get R xs i j a b o.1 (omega arith) at to

bound_of : List Task → ℕ
bound_of [] = 0
bound_of (task ∷ tasks) = suc task.size + bound_of tasks

below_bound : (tasks : List Task) (task : Task) → In tasks task → task.size < bound_of tasks
unfolding bound_of
below_bound [] task at = absurd at
below_bound (first ∷ tasks) task (inl same) = let e = ap size_key same in omega arith
below_bound (first ∷ tasks) task (inr later) = let l = below_bound tasks task later in omega arith

place_is : (k : ℕ) (o : Option Route) (task : Task) → option_map (task_of k) o ≡ Some task → task.place ≡ k
place_is k None task e = absurd cc
place_is k (Some r) task e = let same : task_of k r ≡ task = cc in sym (ap (λ (t : Task). t.place) same)

range_from : (a n m : ℕ) → In (range_with_len a n) m → a ≤ m
range_from a zero m h = absurd h
range_from a (suc n) m (inl e) = omega arith
range_from a (suc n) m (inr h) = let r = range_from (a + 1) n m h in omega arith

abbrev ByPlace : Task → Task → Type 0
ByPlace a b = a.place < b.place

abbrev Before : Task → Task → Type 0
Before a b = (a.size < b.size) ⊎ ((a.size ≡ b.size) × (a.place < b.place))

module _ (asked : List (Option Route)) (at : List ℕ) where
  from_place : (a n : ℕ) (task : Task) → In (filter_map (task_at asked at) (range_with_len a n)) task → a ≤ task.place
  from_place a n task h =
      let k = filter_map_in (task_at asked at) (range_with_len a n) task h in
      let e = place_is k.0 (label asked (slice_index at k.0)) task k.2 in
      let r = range_from a n k.0 k.1 in
      omega arith

  place_first : (a n : ℕ) (o : Option Task) → task_at asked at a ≡ o → IsOrdered ByPlace (filter_map (task_at asked at) (range_with_len (a + 1) n)) →
      IsOrdered ByPlace (cons_option o (filter_map (task_at asked at) (range_with_len (a + 1) n)))
  place_first a n None e rest = rest
  place_first a n (Some task) e rest = (
    (λ other h. (let p = place_is a (label asked (slice_index at a)) task e in let f = from_place (a + 1) n other h in
        omega arith)),
    rest,
  )

  by_place : (a n : ℕ) → IsOrdered ByPlace (filter_map (task_at asked at) (range_with_len a n))
  by_place a zero = tt
  by_place a (suc n) = place_first a n (task_at asked at a) refl (by_place (a + 1) n)

  in_range_0 : (n k : ℕ) → k < n → In (range_with_len 0 n) k
  in_range_0 n k h = let P : ℕ → Type 0 = λ m. In (range_with_len 0 n) m in let same : 0 + k ≡ k = omega arith in subst P same (in_range 0 n k h)

  pub order_is : (first sorted : List Task) → first ≡ filter_map (task_at asked at) (range_with_len 0 (length at)) →
      ((n : ℕ) → All (λ (task : Task). task.size < n) first → sorted ≡ by_key size_key n first) → IsOrder asked at sorted
  order_is first sorted is sort =
      let all = filter_map (task_at asked at) (range_with_len 0 (length at)) in
      let n = bound_of all in
      let s : sorted ≡ by_key size_key (bound_of (filter_map (task_at asked at) (range_with_len 0 (length at))))
      (filter_map (task_at asked at) (range_with_len 0 (length at))) =
      sort (bound_of (filter_map (task_at asked at) (range_with_len 0 (length at))))
      (subst (All (λ (task : Task). task.size < bound_of (filter_map (task_at asked at) (range_with_len 0 (length at))))) (sym is)
      (all_from (λ (task : Task). task.size < n) all (λ task h. below_bound all task h)))
      ∙ ap (by_key size_key (bound_of (filter_map (task_at asked at) (range_with_len 0 (length at))))) is in
      let each : (k : ℕ) (task : Task) → slice_get sorted k ≡ Some task → (task.place < length at) × (task_at asked at task.place ≡ Some task) = λ k task g.
      (let h = by_key_in size_key n all task (subst (λ (ts : List Task). In ts task) s (get_in sorted k task g)) in
      let w = filter_map_in (task_at asked at) (range_with_len 0 (length at)) task h in
      let e = place_is w.0 (label asked (slice_index at w.0)) task w.2 in
      let r = range_in 0 (length at) w.0 w.1 in
      (omega arith, ap (task_at asked at) e ∙ w.2)) in
      let ordered : IsOrdered Before sorted = subst (IsOrdered Before) (sym s)
      (ordered_keys size_key Before all
      (λ v. ordered_as ByPlace Before (with_key size_key all v)
      (λ x y i j less. (let a = (key_is size_key all v x i).1 in let b = (key_is size_key all v y j).1 in let equal : x.size ≡ y.size = omega arith in
      inr (equal, less)))
      (ordered_filter ByPlace (λ (task : Task). nat_eq task.size v) all (by_place 0 (length at))))
      (λ x y less. inl less) 0 n) in
      record {
        each = each;
        all = λ router task inside e.
            (let h = in_filter_map (task_at asked at) (range_with_len 0 (length at)) router task (in_range_0 (length at) router inside) e in
            let g = in_get sorted task (subst (λ (ts : List Task). In ts task) (sym s) (in_by_key size_key n all task h (below_bound all task h))) in
            g);
        rising = λ i j a b less p q. elim (ordered_get Before sorted i j a b ordered less p q)
            [ inl smaller ↦ omega arith | inr same ↦ (let e = same.0 in omega arith) ];
        once = λ i j a b p q same.
            (let one = one_task a b same (each i a p).1 (each j b q).1 in
            elim (cases_lt i j) [
              | inl less ↦ absurd (not_before a b same one (ordered_get Before sorted i j a b ordered less p q))
              | inr more ↦ elim (cases_lt j i) [
                | inl less ↦ absurd (not_before b a (sym same) (sym one) (ordered_get Before sorted j i b a ordered less q p))
                | inr other ↦ omega arith
              ]
            ]);
      }
    where
      one_task : (a b : Task) → a.place ≡ b.place → task_at asked at a.place ≡ Some a → task_at asked at b.place ≡ Some b → a.size ≡ b.size
      one_task a b same p q = let e : Some a ≡ Some b = sym p ∙ ap (task_at asked at) same ∙ q in let one : a ≡ b = cc in ap size_key one

      not_before : (a b : Task) → a.place ≡ b.place → a.size ≡ b.size → Before a b → ⊥
      not_before a b same size (inl less) = absurd (omega arith)
      not_before a b same size (inr less) = absurd (let l = less.1 in omega arith)
