-- Ranks by ascending size are the order of the labels.
use Rattle.std.proofs.Common.{◌≡◌, ◌⊎◌, ℕ, zero, suc, ◌+◌, ◌<◌, ◌^◌, List, [], ◌∷◌, ◌++◌, length, map, get_or, Option, Some, None, refl, sym, ap, ◌∙◌, subst, arith, inl, inr}
use Rattle.std.specs.Prelude.{All, AllPairs, Contains, flat_map}
use Rattle.std.specs.List.{range_with_len}
use Rattle.std.proofs.lemmas.Bool.{cases_lt}
use Rattle.std.proofs.lemmas.List.{get_or_read}
use Rattle.base_kit.proofs.Elements.{In, contains_in, in_map, map_in, in_range, range_in}
use Rattle.by_key.specs.ByKey.{with_key, by_key}
use Rattle.by_key.proofs.KeyedItems.{key_is, by_key_in, in_by_key}
use Rattle.by_key.proofs.OrderedByKey.{IsOrdered, ordered_as, ordered_filter, ordered_keys}
use Rattle.srp_core.specs.declared.route.Route.{Route}
use Rattle.srp_core.specs.Routes.{size_of}
use Rattle.srp_core.specs.Problem.{Problem, count}
use Rattle.srp_core.specs.Stability.{label}
use Rattle.route_run.specs.declared.schedule.Activation.{Activation}
use Rattle.route_run.specs.declared.schedule.Activation.TheVariants.{One}
use Rattle.route_run.specs.declared.order.Rank.{Rank}
use Rattle.route_run.specs.Orders.{StandsFirst, StandsBefore, IsOrderOf}
use Rattle.route_run.specs.Ranks.{size_or_last, rank_at, rank_size, AreShort}
use Rattle.route_run.specs.Schedules.{run_of, IsSingle}
use Rattle.route_run.proofs.Runs.{all_from, map_range_next}

abbrev ByRouter : Rank → Rank → Type 0
ByRouter a b = a.router < b.router

abbrev Before : Rank → Rank → Type 0
Before a b = (a.size < b.size) ⊎ ((a.size ≡ b.size) × (a.router < b.router))

stands : (o p : Option Route) (u v : ℕ) → ((s : Route) → p ≡ Some s → size_of s < 2 ^ 64) → (size_or_last o < size_or_last p)
    ⊎ ((size_or_last o ≡ size_or_last p) × (u < v)) → StandsFirst o p u v
stands (Some r) (Some s) u v short h = h
stands (Some r) None u v short h = tt
stands None (Some s) u v short (inl less) = let b = short s refl in omega arith
stands None (Some s) u v short (inr same) = let b = short s refl in let e = same.0 in omega arith
stands None None u v short (inl less) = absurd (omega arith)
stands None None u v short (inr same) = same.1

ordered_map : {X Y : Type 0} (R : Y → Y → Type 0) (f : X → Y) (xs : List X) → IsOrdered (λ a b. R (f a) (f b)) xs → IsOrdered R (map f xs)
ordered_map R f [] o = tt
ordered_map R f (x ∷ xs) o = ((λ y h. (let w = map_in f xs y h in subst (R (f x)) w.2 (o.0 w.0 w.1))), ordered_map R f xs o.1)

first_pair : {X : Type 0} (R : X → X → Type 0) (x : X) (xs : List X) (j : ℕ) (d : X) → ((y : X) → In xs y → R x y) → j < length xs → R x (get_or xs j d)
first_pair R x [] j d h less = absurd (omega arith)
first_pair R x (y ∷ ys) zero d h less = h y (inl refl)
first_pair R x (y ∷ ys) (suc j) d h less = first_pair R x ys j d (λ z i. h z (inr i)) (omega arith)

pub ordered_pairs : {X : Type 0} (R : X → X → Type 0) (xs : List X) → IsOrdered R xs → AllPairs R xs
ordered_pairs R [] o i j d less inside = absurd (omega arith)
ordered_pairs R (x ∷ xs) o zero zero d less inside = absurd (omega arith)
ordered_pairs R (x ∷ xs) o zero (suc j) d less inside = first_pair R x xs j d o.0 (omega arith)
ordered_pairs R (x ∷ xs) o (suc i) zero d less inside = absurd (omega arith)
ordered_pairs R (x ∷ xs) o (suc i) (suc j) d less inside = ordered_pairs R xs o.1 i j d (omega arith) (omega arith)

bound_of : List Rank → ℕ
bound_of [] = 0
bound_of (rank ∷ ranks) = suc rank.size + bound_of ranks

below_bound : (ranks : List Rank) (rank : Rank) → In ranks rank → rank.size < bound_of ranks
unfolding bound_of
below_bound [] rank at = absurd at
below_bound (first ∷ ranks) rank (inl same) = let e = ap rank_size same in omega arith
below_bound (first ∷ ranks) rank (inr later) = let l = below_bound ranks rank later in omega arith

pub activations_run : (n : ℕ) (ranks : List Rank) → run_of n (map (λ (rank : Rank). One rank.router) ranks) ≡ map (λ (rank : Rank). rank.router) ranks
activations_run n [] = refl
activations_run n (rank ∷ ranks) = ap (λ (us : List ℕ). rank.router ∷ us) (activations_run n ranks)

module _ (labels : List (Option Route)) where
  range_from : (a n m : ℕ) → In (range_with_len a n) m → (a < m) ⊎ (a ≡ m)
  range_from a zero m h = absurd h
  range_from a (suc n) m (inl e) = inr e
  range_from a (suc n) m (inr h) = elim (range_from (a + 1) n m h) [ inl less ↦ inl (omega arith) | inr same ↦ inl (omega arith) ]

  behind : (a n : ℕ) (rank : Rank) → In (map (rank_at labels) (range_with_len (a + 1) n)) rank → a < rank.router
  behind a n rank h =
      let w = map_in (rank_at labels) (range_with_len (a + 1) n) rank h in
      let e : w.0 ≡ rank.router = ap (λ (r : Rank). r.router) w.2 in
      elim (range_from (a + 1) n w.0 w.1) [ inl less ↦ omega arith | inr same ↦ omega arith ]

  by_router : (a n : ℕ) → IsOrdered ByRouter (map (rank_at labels) (range_with_len a n))
  by_router a zero = tt
  by_router a (suc n) = ((λ other h. behind a n other h), by_router (a + 1) n)

  in_all : (n u : ℕ) → u < n → In (map (rank_at labels) (range_with_len 0 n)) (rank_at labels u)
  in_all n u h = in_map (rank_at labels) (range_with_len 0 n) u (let Q : ℕ → Type 0 = λ m. In (range_with_len 0 n) m in let same : 0 + u ≡ u = omega arith in
      subst Q same (in_range 0 n u h))

  record IsRank (n : ℕ) (rank : Rank) : Type 0 where
    inside : rank.router < n
    size : rank.size ≡ size_or_last (label labels rank.router)

  rank_is : (n : ℕ) (rank : Rank) → In (map (rank_at labels) (range_with_len 0 n)) rank → IsRank n rank
  rank_is n rank h =
      let w = map_in (rank_at labels) (range_with_len 0 n) rank h in
      let e : w.0 ≡ rank.router = ap (λ (r : Rank). r.router) w.2 in
      let r = range_in 0 n w.0 w.1 in
      record { inside = omega arith; size = sym (ap rank_size w.2) ∙ ap (λ (k : ℕ). size_or_last (label labels k)) e }

  pub order_is : (P : Problem) (n : ℕ) (first sorted : List Rank) → n ≡ count P → AreShort labels → first ≡ map (rank_at labels) (range_with_len 0 n) →
      ((k : ℕ) → All (λ (rank : Rank). rank.size < k) first → sorted ≡ by_key rank_size k first) →
      IsOrderOf P labels (map (λ (rank : Rank). rank.router) sorted)
  order_is P n first sorted total short is sort =
      let all = map (rank_at labels) (range_with_len 0 n) in
      let k = bound_of all in
      let s : sorted ≡ by_key rank_size (bound_of (map (rank_at labels) (range_with_len 0 n))) (map (rank_at labels) (range_with_len 0 n)) =
      sort (bound_of (map (rank_at labels) (range_with_len 0 n)))
      (subst (All (λ (rank : Rank). rank.size < bound_of (map (rank_at labels) (range_with_len 0 n)))) (sym is)
      (all_from (λ (rank : Rank). rank.size < k) all (λ rank h. below_bound all rank h)))
      ∙ ap (by_key rank_size (bound_of (map (rank_at labels) (range_with_len 0 n)))) is in
      let inside : (rank : Rank) → In sorted rank → In (map (rank_at labels) (range_with_len 0 n)) rank =
      λ rank h. by_key_in rank_size k all rank (subst (λ (rs : List Rank). In rs rank) s h) in
      let ordered : IsOrdered Before sorted = subst (IsOrdered Before) (sym s)
      (ordered_keys rank_size Before all
      (λ v. ordered_as ByRouter Before (with_key rank_size all v)
      (λ x y i j less. (let a = (key_is rank_size all v x i).1 in let b = (key_is rank_size all v y j).1 in let equal : x.size ≡ y.size = omega arith in
      inr (equal, less)))
      (ordered_filter ByRouter (λ (rank : Rank). Rattle.std.specs.Prelude.nat_eq rank.size v) all (by_router 0 n)))
      (λ x y less. inl less) 0 k) in
      let standing : IsOrdered (λ (a b : Rank). StandsBefore labels a.router b.router) sorted =
      ordered_as Before (λ (a b : Rank). StandsBefore labels a.router b.router) sorted
      (λ x y i j before. (let a = rank_is n x (inside x i) in let b = rank_is n y (inside y j) in by_sizes x y a.size b.size before)) ordered in
      record {
        each = λ u h.
            (let here = subst (λ (rs : List Rank). In rs (rank_at labels u)) (sym s)
            (in_by_key rank_size k all (rank_at labels u) (in_all n u (omega arith)) (below_bound all (rank_at labels u) (in_all n u (omega arith)))) in
            contains_in (map (λ (rank : Rank). rank.router) sorted) u (in_map (λ (rank : Rank). rank.router) sorted (rank_at labels u) here));
        only = all_from (λ u. u < count P) (map (λ (rank : Rank). rank.router) sorted) (λ u h.
            let w = map_in (λ (rank : Rank). rank.router) sorted u h in let r = (rank_is n w.0 (inside w.0 w.1)).inside in let e = w.2 in omega arith);
        sorted = ordered_pairs (StandsBefore labels) (map (λ (rank : Rank). rank.router) sorted)
            (ordered_map (StandsBefore labels) (λ (rank : Rank). rank.router) sorted standing);
      }
    where
      by_sizes : (x y : Rank) → x.size ≡ size_or_last (label labels x.router) → y.size ≡ size_or_last (label labels y.router) → Before x y →
          StandsBefore labels x.router y.router
      by_sizes x y a b (inl less) = stands (label labels x.router) (label labels y.router) x.router y.router (λ s e. short y.router s e) (inl (omega arith))
      by_sizes x y a b (inr same) = (let e = same.0 in
          stands (label labels x.router) (label labels y.router) x.router y.router (λ s e. short y.router s e) (inr (omega arith, same.1)))

-- ---- as code makes them

pub ranks_more : (labels : List (Option Route)) (n : ℕ) (ranks more : List Rank) (l : Option Route) (size : ℕ) → n < length labels → l ≡ get_or labels n l →
    size ≡ size_or_last l → ranks ≡ map (rank_at labels) (range_with_len 0 n)
    → more ≡ ranks ++ record { router = n; size = size } ∷ [] → more ≡ map (rank_at labels) (range_with_len 0 (n + 1))
ranks_more labels n ranks more l size inside read is so_far next =
    let own : size ≡ size_or_last (label labels n) = is ∙ ap size_or_last (get_or_read labels n l inside read None) in
    next ∙ ap (λ (rs : List Rank). rs ++ record { router = n; size = size } ∷ []) so_far
    ∙ ap (λ (k : ℕ). map (rank_at labels) (range_with_len 0 n) ++ record { router = n; size = k } ∷ []) own
    ∙ sym (map_range_next (rank_at labels) n)

pub short_more : (labels : List (Option Route)) (n : ℕ) (l : Option Route) → n < length labels → l ≡ get_or labels n l →
    ((r : Route) → l ≡ Some r → size_of r < 2 ^ 64) → ((u : ℕ) (r : Route) → u < n → label labels u ≡ Some r → size_of r < 2 ^ 64)
    → (u : ℕ) (r : Route) → u < n + 1 → label labels u ≡ Some r → size_of r < 2 ^ 64
short_more labels n l inside read own before u r less e = elim (cases_lt u n) [
  | inl below ↦ before u r below e
  | inr here ↦ (let same : u ≡ n = omega arith in own r (get_or_read labels n l inside read None ∙ ap (label labels) (sym same) ∙ e))
]

pub order_by : (P : Problem) (L L' : List (Option Route)) (sorted read : List Rank) (schedule : List Activation) → L ≡ L' → read ≡ sorted →
    schedule ≡ map (λ (rank : Rank). One rank.router) read → IsOrderOf P L (map (λ (rank : Rank). rank.router) sorted) →
    IsOrderOf P L' (run_of (count P) schedule)
order_by P L L' sorted read schedule labels same is order =
    subst (λ (l : List (Option Route)). IsOrderOf P l (run_of (count P) schedule)) labels
    (subst (IsOrderOf P L) (sym (ap (run_of (count P)) is ∙ activations_run (count P) read ∙ ap (map (λ (rank : Rank). rank.router)) same)) order)

singles : (ranks : List Rank) → All IsSingle (map (λ (rank : Rank). One rank.router) ranks)
singles [] k d less = absurd (omega arith)
singles (rank ∷ ranks) zero d less = tt
singles (rank ∷ ranks) (suc k) d less = singles ranks k d (omega arith)

pub all_single : (ranks : List Rank) (schedule : List Activation) → schedule ≡ map (λ (rank : Rank). One rank.router) ranks → All IsSingle schedule
all_single ranks schedule is = subst (All IsSingle) (sym is) (singles ranks)
