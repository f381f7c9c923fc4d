-- How many different acts edges have, counted by the acts that some edge has.
use Rattle.std.proofs.Common.{◌≡◌, ◌≢◌, ℕ, zero, suc, ◌+◌, ◌<◌, Bool, true, false, ◌&&◌, ◌||◌, cond, All, List, [], ◌∷◌, length, inl, inr, Some, refl, sym, ap, ◌∙◌, subst, arith, eq-eqb}
use Rattle.std.specs.Prelude.{filter, nat_eq, slice_get}
use Rattle.std.specs.List.{list_any, range_with_len}
use Rattle.std.proofs.lemmas.Bool.Decides.{nat_tests}
use Rattle.std.proofs.lemmas.Option.{slice_get_within}
use Rattle.std.proofs.lemmas.List.Elements.{All-contains}
use Rattle.base_kit.specs.declared.act_graph.Edge.{Edge}
use Rattle.base_kit.proofs.Elements.{In, contains_in, filter_in, in_filter, in_flat_map, in_range, get_in, in_get}
use Rattle.abstract_net.specs.Carried.{act_at}
use Rattle.abstract_net.specs.Links.{link_at, link_bound, on_link, by_link, goes, first_acts, acts_into}
use Rattle.abstract_net.proofs.Carried.{at_place, get_some, link_below, by_link_in}
use Rattle.group_report.specs.LinkTables.{leads, has_act, sum_below, one_where}

-- ---- sums of tests

pub sum_same : (f g : ℕ → ℕ) (n : ℕ) → ((a : ℕ) → a < n → f a ≡ g a) → sum_below f n ≡ sum_below g n
sum_same f g zero same = refl
sum_same f g (suc n) same =
    let before = sum_same f g n (λ a less. same a (omega arith)) in
    let last = same n (omega arith) in
    omega arith

-- one more test is true
sum_more : (f g : ℕ → Bool) (n v : ℕ) → v < n → f v ≡ false → g v ≡ true → ((a : ℕ) → a ≢ v → f a ≡ g a) →
    sum_below (λ a. one_where (g a)) n ≡ suc (sum_below (λ a. one_where (f a)) n)
sum_more f g zero v less off on same = absurd (omega arith)
sum_more f g (suc n) v less off on same = by (λ under. sum_more f g n v under off on same) (nat_eq n v) refl
  where
    by : (v < n → sum_below (λ a. one_where (g a)) n ≡ suc (sum_below (λ a. one_where (f a)) n)) → (b : Bool) → nat_eq n v ≡ b
        → sum_below (λ a. one_where (g a)) n + one_where (g n) ≡ suc (sum_below (λ a. one_where (f a)) n + one_where (f n))
    by earlier true t =
        let last : n ≡ v = grind (arith, nat_tests) in
        let before = sum_same (λ a. one_where (f a)) (λ a. one_where (g a)) n (λ a under. ap one_where (same a (λ e. absurd (omega (arith, e, last, under)))))
        in
        let none : one_where (f n) ≡ 0 = ap (λ (k : ℕ). one_where (f k)) last ∙ ap one_where off in
        let one : one_where (g n) ≡ 1 = ap (λ (k : ℕ). one_where (g k)) last ∙ ap one_where on in
        omega (arith, before, none, one)
    by earlier false t =
        let apart : n ≢ v = λ e. absurd (grind (arith, nat_tests)) in
        let under : v < n = omega (arith, less, apart) in
        let before = earlier under in
        let last : one_where (f n) ≡ one_where (g n) = ap one_where (same n apart) in
        omega (arith, before, last)

pub sum_next : (f : ℕ → ℕ) (n : ℕ) → sum_below f (n + 1) ≡ sum_below f n + f n
sum_next f n = ap (sum_below f) (let more : n + 1 ≡ suc n = omega arith in more)

sum_zero : (n : ℕ) → sum_below (λ a. one_where false) n ≡ 0
sum_zero zero = refl
sum_zero (suc n) = let before = sum_zero n in omega (arith, before)

-- ---- the first edge of each act

abbrev any_at : List Edge → List ℕ → ℕ → Bool
any_at es ks a = list_any (λ k. nat_eq (act_at es k) a) ks

abbrev is_new : List Edge → List ℕ → List ℕ → ℕ → Bool
is_new es seen ks a = any_at es ks a && cond (list_any (nat_eq a) seen) false true

test_from : (a b : ℕ) → nat_eq a b ≡ true → a ≡ b
test_from a b h = grind (arith, nat_tests)

differ : (a b : ℕ) → a ≢ b → nat_eq a b ≡ false
differ a b apart = by (nat_eq a b) refl
  where
    by : (c : Bool) → nat_eq a b ≡ c → nat_eq a b ≡ false
    by true t = absurd (apart (test_from a b t))
    by false t = t

hidden : (x s : Bool) → s ≡ true → (x && cond s false true) ≡ false
hidden true true t = refl
hidden true false t = absurd cc
hidden false s t = refl

shown : (x s : Bool) → x ≡ true → s ≡ false → (x && cond s false true) ≡ true
shown true true x s = absurd cc
shown true false x s = refl
shown false s x t = absurd cc

either : (b c : Bool) → b ≡ true → (b || c) ≡ true
either true c t = refl
either false c t = absurd cc

-- an act that was seen
old_act : (es : List Edge) (seen ks : List ℕ) (k a : ℕ) → list_any (nat_eq (act_at es k)) seen ≡ true → is_new es seen ks a ≡ is_new es seen (k ∷ ks) a
old_act es seen ks k a there = by (nat_eq (act_at es k) a) refl
  where
    by : (c : Bool) → nat_eq (act_at es k) a ≡ c → is_new es seen ks a ≡ is_new es seen (k ∷ ks) a
    by true t =
        let was : list_any (nat_eq a) seen ≡ true = ap (λ (m : ℕ). list_any (nat_eq m) seen) (sym (test_from _ _ t)) ∙ there in
        hidden (any_at es ks a) (list_any (nat_eq a) seen) was ∙ sym (hidden (any_at es (k ∷ ks) a) (list_any (nat_eq a) seen) was)
    by false t = ap (λ c. (c || any_at es ks a) && cond (list_any (nat_eq a) seen) false true) (sym t)

-- another act than a new one
other_act : (es : List Edge) (seen ks : List ℕ) (k a : ℕ) → a ≢ act_at es k → is_new es (act_at es k ∷ seen) ks a ≡ is_new es seen (k ∷ ks) a
other_act es seen ks k a apart =
    ap (λ c. any_at es ks a && cond (c || list_any (nat_eq a) seen) false true) (differ a (act_at es k) apart)
    ∙ ap (λ c. (c || any_at es ks a) && cond (list_any (nat_eq a) seen) false true) (sym (differ (act_at es k) a (λ e. apart (sym e))))

first_counted : (es : List Edge) (seen ks : List ℕ) (n : ℕ) → ((k : ℕ) → In ks k → act_at es k < n) →
    length (first_acts es seen ks) ≡ sum_below (λ a. one_where (is_new es seen ks a)) n
first_counted es seen [] n few = sym (sum_zero n)
first_counted es seen (k ∷ ks) n few =
    by (first_counted es seen ks n (λ j at. few j (inr at))) (first_counted es (act_at es k ∷ seen) ks n (λ j at. few j (inr at)))
    (list_any (nat_eq (act_at es k)) seen) refl
  where
    by : length (first_acts es seen ks) ≡ sum_below (λ a. one_where (is_new es seen ks a)) n →
        length (first_acts es (act_at es k ∷ seen) ks) ≡ sum_below (λ a. one_where (is_new es (act_at es k ∷ seen) ks a)) n → (b : Bool)
        → list_any (nat_eq (act_at es k)) seen ≡ b →
        length (cond b (first_acts es seen ks) (k ∷ first_acts es (act_at es k ∷ seen) ks)) ≡ sum_below (λ a. one_where (is_new es seen (k ∷ ks) a)) n
    by old new true t = old ∙ sum_same _ _ n (λ a less. ap one_where (old_act es seen ks k a t))
    by old new false t =
        ap suc new
        ∙ sym (sum_more (is_new es (act_at es k ∷ seen) ks) (is_new es seen (k ∷ ks)) n (act_at es k) (few k (inl refl))
        (hidden (any_at es ks (act_at es k)) _ (either _ _ (eq-eqb (act_at es k) (act_at es k) refl)))
        (shown _ _ (either _ _ (eq-eqb (act_at es k) (act_at es k) refl)) t)
        (λ a apart. other_act es seen ks k a apart))

-- ---- the edges between two groups

same_tests : (b c : Bool) → (b ≡ true → c ≡ true) → (c ≡ true → b ≡ true) → b ≡ c
same_tests true c to from = sym (to refl)
same_tests false true to from = from refl
same_tests false false to from = refl

any_in : {X : Type 0} (p : X → Bool) (xs : List X) → list_any p xs ≡ true → (x : X) × In xs x × (p x ≡ true)
any_in p [] t = absurd cc
any_in {X} p (x ∷ xs) t = by (any_in p xs) (p x) refl t
  where
    by : (list_any p xs ≡ true → (y : X) × In xs y × (p y ≡ true)) → (b : Bool) → p x ≡ b → (b || list_any p xs) ≡ true → (y : X) × In (x ∷ xs) y × (p y ≡ true)
    by later true is u = (x, inl refl, is)
    by later false is u = let r = later u in (r.0, inr r.1, r.2)

in_any : {X : Type 0} (p : X → Bool) (xs : List X) (x : X) → In xs x → p x ≡ true → list_any p xs ≡ true
in_any p [] x at t = absurd at
in_any p (y ∷ xs) x (inl same) t = either (p y) (list_any p xs) (ap p same ∙ t)
in_any p (y ∷ xs) x (inr at) t = later (p y) (in_any p xs x at t)
  where
    later : (b : Bool) → list_any p xs ≡ true → (b || list_any p xs) ≡ true
    later true u = refl
    later false u = u

two_true : (a b : Bool) → (a && b) ≡ true → (a ≡ true) × (b ≡ true)
two_true true true t = (refl, refl)
two_true true false t = absurd cc
two_true false b t = absurd cc

both_true : (a b : Bool) → a ≡ true → b ≡ true → (a && b) ≡ true
both_true true true x y = refl
both_true true false x y = absurd cc
both_true false b x y = absurd cc

and_true : (b : Bool) → (b && true) ≡ b
and_true true = refl
and_true false = refl

below_in : (n k : ℕ) → k < n → In (range_with_len 0 n) k
below_in n k h = let P : ℕ → Type 0 = λ m. In (range_with_len 0 n) m in let same : 0 + k ≡ k = omega arith in subst P same (in_range 0 n k h)

in_by_link : (es : List Edge) (k : ℕ) (e : Edge) → slice_get es k ≡ Some e → In (by_link es) k
unfolding by_link
in_by_link es k e h =
    let at = at_place es [] k e h in
    in_flat_map (on_link es) (range_with_len 0 (link_bound es)) e.link k (below_in (link_bound es) e.link (link_below es 0 e (get_in es k e h)))
    (in_filter (λ k. nat_eq (link_at es k) e.link) (range_with_len 0 (length es)) k (below_in (length es) k (slice_get_within es k e h)) (eq-eqb _ _ at.link))

module _ (es : List Edge) (groups : List ℕ) (acts g h : ℕ) where
  abbrev between : List ℕ
  between = filter (goes es groups g h) (by_link es)

  leads_as : (a k : ℕ) (e : Edge) → slice_get es k ≡ Some e → (goes es groups g h k && nat_eq (act_at es k) a) ≡ leads groups g h a e
  leads_as a k e at = let p = at_place es groups k e at in λ i. (nat_eq (p.importer i) g && nat_eq (p.exporter i) h) && nat_eq (p.does i) a

  edge_of : (k : ℕ) → In between k → (e : Edge) × (slice_get es k ≡ Some e)
  edge_of k at = get_some es k (by_link_in es k (filter_in (goes es groups g h) (by_link es) k at).0)

  same_act : (a : ℕ) → any_at es between a ≡ has_act es groups g h a
  same_act a = same_tests (any_at es between a) (has_act es groups g h a) to from
    where
      to : any_at es between a ≡ true → has_act es groups g h a ≡ true
      to t =
          let found = any_in (λ k. nat_eq (act_at es k) a) between t in
          let e = edge_of found.0 found.1 in
          in_any (leads groups g h a) es e.0 (get_in es found.0 e.0 e.1)
          (sym (leads_as a found.0 e.0 e.1) ∙ both_true _ _ (filter_in (goes es groups g h) (by_link es) found.0 found.1).1 found.2)

      from : has_act es groups g h a ≡ true → any_at es between a ≡ true
      from t =
          let found = any_in (leads groups g h a) es t in
          let k = in_get es found.0 found.1 in
          let tests = two_true (goes es groups g h k.0) (nat_eq (act_at es k.0) a) (leads_as a k.0 found.0 k.1 ∙ found.2) in
          in_any (λ j. nat_eq (act_at es j) a) between k.0 (in_filter (goes es groups g h) (by_link es) k.0 (in_by_link es k.0 found.0 k.1) tests.0) tests.1

  few_between : All (λ e. e.act < acts) es → (k : ℕ) → In between k → act_at es k < acts
  few_between few k at =
      let e = edge_of k at in
      subst (λ (n : ℕ). n < acts) (sym (at_place es groups k e.0 e.1).does)
      (All-contains (λ (e : Edge). e.act < acts) es e.0 few (contains_in es e.0 (get_in es k e.0 e.1)))

  -- as many acts as some edge has
  pub acts_counted : (f : ℕ → Bool) → All (λ e. e.act < acts) es → ((a : ℕ) → a < acts → f a ≡ has_act es groups g h a) →
      length (acts_into es groups g h) ≡ sum_below (λ a. one_where (f a)) acts
  unfolding acts_into
  acts_counted f few is =
      first_counted es [] between acts (few_between few)
      ∙ sum_same _ _ acts (λ a less. ap one_where (and_true (any_at es between a) ∙ same_act a ∙ sym (is a less)))
