-- The links of the sorted steps are the links between groups.
use Rattle.std.proofs.Common.{◌≡◌, ◌≢◌, ℕ, zero, suc, ◌+◌, ◌-◌, ◌<◌, ◌≤◌, Bool, true, false, List, [], ◌∷◌, ◌++◌, length, refl, sym, ◌∙◌, ap, arith, inl, inr}
use Rattle.std.specs.Prelude.{filter_map, flat_map, nat_eq}
use Rattle.std.specs.List.{range_with_len}
use Rattle.std.proofs.lemmas.List.Elements.{All-contains}
use Rattle.std.proofs.lemmas.Bool.{cases_lt}
use Rattle.std.proofs.lemmas.Bool.Decides.{nat_tests}
use Rattle.base_kit.specs.declared.act_graph.Edge.{Edge}
use Rattle.base_kit.proofs.Elements.{In, contains_in}
use Rattle.by_key.specs.ByKey.{with_key, by_key}
use Rattle.by_key.proofs.KeyedItems.{key_is, by_key_in}
use Rattle.abstract_net.specs.declared.steps.Step.{Step}
use Rattle.abstract_net.specs.Early.{IsStep, AreEarly}
use Rattle.abstract_net.specs.Links.{by_link, link_bound, acts_into, joined_sides, links_of_pair, group_links_from, quotient_links}
use Rattle.abstract_net.specs.GroupSteps.{step_at, low_of, high_of, link_of, first_kinds, none_met, sorted_by, edges_into, links_of_run, same_ends}
use Rattle.abstract_net.specs.GroupSteps.{links_of_steps}
use Rattle.abstract_net.proofs.ByKeys.{filter_flat, filter_by_key}
use Rattle.abstract_net.proofs.EarlySteps.{real_below, early_end}
use Rattle.abstract_net.proofs.FirstKinds.{cell_of_kinds, edges_of_kinds}
use Rattle.abstract_net.proofs.Places.{cell, low_before_high, into_low, into_high}
use Rattle.abstract_net.proofs.RunLinks.{links_one, links_parts}
use Rattle.abstract_net.proofs.SortedSteps.{sorted_by_is, sorted_by_none}
use Rattle.abstract_net.proofs.StepLists.{IsWithin}

pub none_in : {X : Type 0} (xs : List X) → ((x : X) → In xs x → ⊥) → xs ≡ []
none_in [] h = refl
none_in (x ∷ xs) h = absurd (h x (inl refl))

same_from : (x y : Step) → x.low ≡ y.low → x.high ≡ y.high → same_ends x y ≡ true
same_from x y e h = grind (arith, nat_tests)

low_differs : (x y : Step) → x.low ≢ y.low → same_ends x y ≡ false
low_differs x y e = grind (arith, nat_tests)

high_differs : (x y : Step) → x.high ≢ y.high → same_ends x y ≡ false
high_differs x y e = grind (arith, nat_tests)

-- a range from a later place on, where nothing comes before
from_later : {X : Type 0} (f g : ℕ → List X) (a n m : ℕ) → a ≤ m → m ≤ a + n → ((k : ℕ) → k < m → f k ≡ []) → ((k : ℕ) → m ≤ k → f k ≡ g k) →
    flat_map f (range_with_len a n) ≡ flat_map g (range_with_len m (a + n - m))
from_later f g a zero m low high before after = ap (λ (k : ℕ). flat_map g (range_with_len m k)) (let z : 0 ≡ a + 0 - m = omega arith in z)
from_later f g a (suc n) m low high before after = elim (cases_lt a m) [
  | inl less ↦ ap (λ xs. xs ++ flat_map f (range_with_len (a + 1) n)) (before a less) ∙ from_later f g (a + 1) n m (omega arith) (omega arith) before after
      ∙ ap (λ (k : ℕ). flat_map g (range_with_len m k)) (let z : a + 1 + n - m ≡ a + suc n - m = omega arith in z)
  | inr more ↦
      let same : a ≡ m = omega arith in
      let count : suc n ≡ a + suc n - m = omega arith in
      all_alike f g a (suc n) (λ k from. after k (omega arith)) ∙ ap (λ (k : ℕ). flat_map g (range_with_len k (suc n))) same
      ∙ ap (λ (k : ℕ). flat_map g (range_with_len m k)) count
]
  where
    all_alike : {X : Type 0} (p q : ℕ → List X) (b k : ℕ) → ((j : ℕ) → b ≤ j → p j ≡ q j) → flat_map p (range_with_len b k) ≡ flat_map q (range_with_len b k)
    all_alike p q b zero h = refl
    all_alike p q b (suc k) h = λ i. h b (omega arith) i ++ all_alike p q (b + 1) k (λ j from. h j (omega arith)) i

-- a run of one pair of groups, whose steps lead from the lower group to the higher one
record InCell (g h : ℕ) (x : Step) : Type 0 where
  low : x.low ≡ g
  high : x.high ≡ h
  ordered : x.low < x.high

run_of : (g h : ℕ) (xs : List Step) (ins outs : List ℕ) → edges_into true (sorted_by link_of xs) ≡ ins → edges_into false (sorted_by link_of xs) ≡ outs →
    ((x : Step) → In xs x → InCell g h x) → links_of_run xs ≡ joined_sides g h ins outs
run_of g h [] ins outs a b all =
    let none_in_low = ap (edges_into true) (sorted_by_none link_of) in
    let none_in_high = ap (edges_into false) (sorted_by_none link_of) in
    (λ i. joined_sides g h (sym none_in_low i) (sym none_in_high i)) ∙ (λ i. joined_sides g h (a i) (b i))
run_of g h (x ∷ xs) ins outs a b all = let c = all x (inl refl) in λ i. joined_sides (c.low i) (c.high i) (a i) (b i)

module _ (es : List Edge) (groups : List ℕ) (count : ℕ) (steps : List Step) (are : AreEarly es groups (length es) steps)
    (within : (x : Step) → In steps x → IsWithin count x) where
  abbrev crossings : List Step
  crossings = filter_map (step_at es groups) (by_link es)

  abbrev row : ℕ → List Step
  row g = with_key low_of (by_key high_of count steps) g

  row_cells : (g : ℕ) → row g ≡ flat_map (cell es groups steps g) (range_with_len 0 count)
  row_cells g = filter_flat (λ (x : Step). nat_eq x.low g) (with_key high_of steps) (range_with_len 0 count)

  in_row : (g : ℕ) (x : Step) → In (row g) x → x.low ≡ g
  in_row g x at = (key_is low_of (by_key high_of count steps) g x at).1

  of_cell : (g h : ℕ) (x : Step) → In (cell es groups steps g h) x → In steps x × (x.low ≡ g) × (x.high ≡ h)
  of_cell g h x at =
      let l = key_is low_of (with_key high_of steps h) g x at in
      let u = key_is high_of steps h x l.0 in
      (u.0, l.1, u.1)

  in_cell : (g h : ℕ) (x : Step) → In (cell es groups steps g h) x → InCell g h x
  in_cell g h x at =
      let c = of_cell g h x at in
      let k = All-contains (IsStep es groups) steps x are.real (contains_in steps x c.0) in
      record { low = c.1; high = c.2; ordered = low_before_high es groups k.0 x k.2 }

  abbrev in_order : List Step
  in_order = by_key link_of (link_bound es) steps

  cell_by_links : (g h : ℕ) → sorted_by link_of (cell es groups steps g h) ≡ cell es groups in_order g h
  cell_by_links g h =
      sorted_by_is link_of (cell es groups steps g h) (link_bound es) (λ x at. real_below es groups steps are.real x (of_cell g h x at).0)
      ∙ sym (ap (λ (xs : List Step). with_key low_of xs g) (filter_by_key (λ (x : Step). nat_eq x.high h) link_of (link_bound es) steps)
      ∙ filter_by_key (λ (x : Step). nat_eq x.low g) link_of (link_bound es) (with_key high_of steps h))

  edges_of_kinds_in : (b : Bool) (g h : ℕ) (xs : List Step) → edges_into b (cell es groups (first_kinds none_met xs) g h) ≡ edges_into b (cell es groups xs g h)
  edges_of_kinds_in b g h xs = ap (edges_into b) (cell_of_kinds xs g h) ∙ edges_of_kinds b (cell es groups xs g h)

  edges_of_cell : (b : Bool) (g h : ℕ) → edges_into b (sorted_by link_of (cell es groups steps g h)) ≡ edges_into b (cell es groups crossings g h)
  edges_of_cell b g h =
      ap (edges_into b) (cell_by_links g h)
      ∙ sym (edges_of_kinds_in b g h in_order)
      ∙ ap (λ (xs : List Step). edges_into b (cell es groups xs g h)) (early_end es groups steps are)
      ∙ edges_of_kinds_in b g h crossings

  cell_links : (g h : ℕ) → g < h → links_of_steps (cell es groups steps g h) ≡ links_of_pair es groups g h
  cell_links g h less =
      links_one (cell es groups steps g h) (λ x y i j.
      (let a = in_cell g h x i in let b = in_cell g h y j in same_from x y (a.low ∙ sym b.low) (a.high ∙ sym b.high)))
      ∙ run_of g h (cell es groups steps g h) (acts_into es groups g h) (acts_into es groups h g) (edges_of_cell true g h ∙ into_low es groups g h less)
      (edges_of_cell false g h ∙ into_high es groups g h less) (in_cell g h)

  no_cell : (g h : ℕ) → h ≤ g → links_of_steps (cell es groups steps g h) ≡ []
  unfolding links_of_steps
  no_cell g h le = ap links_of_steps (none_in (cell es groups steps g h)
      (λ x at. (let a = in_cell g h x at in let l = a.low in let u = a.high in let o = a.ordered in omega arith)))

  row_links : (g : ℕ) → g < count → links_of_steps (row g) ≡ group_links_from es groups count g
  row_links g inside =
      ap links_of_steps (row_cells g)
      ∙ links_parts (cell es groups steps g) 0 count
      (λ i j x y less a b. (let p = in_cell g i x a in let q = in_cell g j y b in let u = p.high in let v = q.high in
      high_differs x y (λ e. absurd (omega arith))))
      ∙ from_later (λ h. links_of_steps (cell es groups steps g h)) (links_of_pair es groups g) 0 count (g + 1) (omega arith) (omega arith)
      (λ h less. no_cell g h (omega arith)) (λ h from. cell_links g h (omega arith))
      ∙ ap (λ (k : ℕ). flat_map (links_of_pair es groups g) (range_with_len (g + 1) k)) (let z : 0 + count - (g + 1) ≡ count - (g + 1) = omega arith in z)

  all_rows : (a n : ℕ) → a + n ≤ count → flat_map (λ g. links_of_steps (row g)) (range_with_len a n) ≡ flat_map (group_links_from es groups count)
      (range_with_len a n)
  all_rows a zero h = refl
  all_rows a (suc n) h = λ i. row_links a (omega arith) i ++ all_rows (a + 1) n (omega arith) i

  in_count : sorted_by low_of (sorted_by high_of steps) ≡ by_key low_of count (by_key high_of count steps)
  in_count =
      let highs = sorted_by_is high_of steps count (λ x at. (within x at).high) in
      ap (sorted_by low_of) highs
      ∙ sorted_by_is low_of (by_key high_of count steps) count (λ x at. (within x (by_key_in high_of count steps x at)).low)

  pub links_are : links_of_steps (sorted_by low_of (sorted_by high_of steps)) ≡ quotient_links es groups count
  unfolding quotient_links
  links_are =
      ap links_of_steps in_count
      ∙ links_parts row 0 count (λ i j x y less a b. (let p = in_row i x a in let q = in_row j y b in low_differs x y (λ e. absurd (omega arith))))
      ∙ all_rows 0 count (omega arith)
