-- The links between groups are no more than those of the network. Public: crates above cite
-- `no_more_links`.
use Rattle.std.proofs.Common.{◌≡◌, ℕ, zero, suc, ◌+◌, ◌-◌, ◌<◌, ◌≤◌, ◌≢◌, min, max, Bool, true, false, ◌&&◌, List, [], ◌∷◌, ◌++◌, length, inl, inr}
use Rattle.std.proofs.Common.{refl, ap, arith}
use Rattle.std.specs.Prelude.{filter, flat_map, nat_eq, if◌then◌else◌}
use Rattle.std.specs.List.{range_with_len, list_any}
use Rattle.std.proofs.lemmas.List.Elements.{filter-append}
use Rattle.std.proofs.lemmas.List.FromFn.{length-range_with_len}
use Rattle.std.proofs.lemmas.Bool.Decides.{nat_tests}
use Rattle.std.proofs.lemmas.Bool.{cases_lt}
use Rattle.base_kit.specs.declared.act_graph.Edge.{Edge}
use Rattle.base_kit.proofs.Elements.{In}
use Rattle.abstract_net.specs.Carried.{act_at}
use Rattle.abstract_net.proofs.Sums.{total, one, length_total, length_mapped, total_swap, outside_range}
use Rattle.abstract_net.specs.Links.{link_bound, on_link, by_link, goes, first_acts, acts_into, group_link, links_of_pair, group_links_from}
use Rattle.abstract_net.specs.Links.{quotient_links, is_pair, HasEnds, NoMoreLinks}
use Rattle.abstract_net.proofs.Carried.{range_above}

if_length : (b : Bool) (x n : ℕ) (xs ys : List ℕ) → length xs ≤ n → length ys ≤ n → length (if b then xs else x ∷ ys) ≤ suc n
if_length true x n xs ys a b = omega arith
if_length false x n xs ys a b = omega arith

first_length : (es : List Edge) (seen ks : List ℕ) → length (first_acts es seen ks) ≤ length ks
first_length es seen [] = omega arith
first_length es seen (k ∷ ks) = if_length (list_any (nat_eq (act_at es k)) seen) k (length ks) (first_acts es seen ks) (first_acts es (act_at es k ∷ seen) ks)
    (first_length es seen ks) (first_length es (act_at es k ∷ seen) ks)

total_below : {X : Type 0} (f g : X → ℕ) (xs : List X) → ((x : X) → In xs x → f x ≤ g x) → total f xs ≤ total g xs
total_below f g [] h = omega arith
total_below f g (x ∷ xs) h = let a = h x (inl refl) in let b = total_below f g xs (λ y at. h y (inr at)) in omega arith

length_append : {X : Type 0} (xs ys : List X) → length (xs ++ ys) ≡ length xs + length ys
length_append [] ys = omega arith
length_append (x ∷ xs) ys = let a = length_append xs ys in omega arith

filter_flat : {X : Type 0} (p : X → Bool) (f : ℕ → List X) (ls : List ℕ) → length (filter p (flat_map f ls)) ≡ total (λ l. length (filter p (f l))) ls
filter_flat p f [] = refl
filter_flat p f (l ∷ ls) = let a = filter-append p (f l) (flat_map f ls) in let b = filter_flat p f ls in let c = ap length a in let d =
    length_append (filter p (f l)) (filter p (flat_map f ls)) in omega arith

more_range : (f : ℕ → ℕ) (a n m : ℕ) → n ≤ m → total f (range_with_len a n) ≤ total f (range_with_len a m)
more_range f a zero m h = omega arith
more_range f a (suc n) zero h = absurd (omega arith)
more_range f a (suc n) (suc m) h = let r = more_range f (a + 1) n m (omega arith) in omega arith

one_small : (b : Bool) → one b ≤ 1
one_small true = omega arith
one_small false = omega arith

zero_all : (a n : ℕ) → total (λ _. 0) (range_with_len a n) ≤ 0
zero_all a zero = omega arith
zero_all a (suc n) = let x = zero_all (a + 1) n in omega arith

turned_pair : (x y g h : ℕ) → one (is_pair x y h g) ≤ one (is_pair x y g h)
turned_pair x y g h = grind (arith, nat_tests)

at_most_one : (a n v : ℕ) → total (λ h. one (nat_eq v h)) (range_with_len a n) ≤ 1
at_most_one a zero v = omega arith
at_most_one a (suc n) v = elim (cases_lt v (a + 1)) [
  | inl less ↦ (let x = outside_range (a + 1) n v less in let y = one_small (nat_eq v a) in omega arith)
  | inr more ↦ (let x = at_most_one (a + 1) n v in let y : one (nat_eq v a) ≡ 0 = grind (arith, nat_tests) in omega arith)
]

all_ones : (a n : ℕ) → total (λ _. 1) (range_with_len a n) ≡ n
all_ones a zero = refl
all_ones a (suc n) = let x = all_ones (a + 1) n in omega arith

-- the least and the greatest of a pair
pair_ends : (x y g h : ℕ) → g < h → one (is_pair x y g h) ≤ one (nat_eq (min x y) g && nat_eq (max x y) h)
pair_ends x y g h less = grind (arith, nat_tests)

split_one : (a : Bool) (f : ℕ → Bool) (m n : ℕ) → total (λ h. one (f h)) (range_with_len m n) ≤ 1 → total (λ h. one (a && f h)) (range_with_len m n) ≤ one a
split_one true f m n h = h
split_one false f m n h = zero_all m n

one_pair : (x y count : ℕ) → total (λ g. total (λ h. one (is_pair x y g h)) (range_with_len (g + 1) (count - (g + 1)))) (range_with_len 0 count) ≤ 1
one_pair x y count =
    let a = total_below (λ g. total (λ h. one (is_pair x y g h)) (range_with_len (g + 1) (count - (g + 1)))) (λ g. one (nat_eq (min x y) g))
    (range_with_len 0 count)
    (λ g at. (let b = total_below (λ h. one (is_pair x y g h)) (λ h. one (nat_eq (min x y) g && nat_eq (max x y) h)) (range_with_len (g + 1) (count - (g + 1)))
    (λ h in'. pair_ends x y g h (let c = range_above (g + 1) (count - (g + 1)) h in' in omega arith)) in
    let d = split_one (nat_eq (min x y) g) (nat_eq (max x y)) (g + 1) (count - (g + 1)) (at_most_one (g + 1) (count - (g + 1)) (max x y)) in omega arith)) in
    let e = at_most_one 0 count (min x y) in omega arith

module _ (es : List Edge) (groups : List ℕ) (count bound : ℕ) (low high : ℕ → ℕ) (w : HasEnds es groups bound low high) where
  acts_few : (g h : ℕ) → g ≢ h → length (acts_into es groups g h) ≤ total (λ l. one (is_pair (low l) (high l) g h)) (range_with_len 0 bound)
  unfolding acts_into by_link
  acts_few g h apart =
      let a = first_length es [] (filter (goes es groups g h) (by_link es)) in
      let b = filter_flat (goes es groups g h) (on_link es) (range_with_len 0 (link_bound es)) in
      let c = total_below (λ l. length (filter (goes es groups g h) (on_link es l))) (λ l. one (is_pair (low l) (high l) g h))
      (range_with_len 0 (link_bound es)) (λ l at. w.once g h l apart) in
      let d = more_range (λ l. one (is_pair (low l) (high l) g h)) 0 (link_bound es) bound w.bounded in
      omega arith

  turned : (g h : ℕ) → total (λ l. one (is_pair (low l) (high l) h g)) (range_with_len 0 bound) ≤ total (λ l. one (is_pair (low l) (high l) g h))
      (range_with_len 0 bound)
  turned g h = total_below _ _ (range_with_len 0 bound) (λ l at. turned_pair (low l) (high l) g h)

  pair_few : (g h : ℕ) → g < h → length (links_of_pair es groups g h) ≤ total (λ l. one (is_pair (low l) (high l) g h)) (range_with_len 0 bound)
  pair_few g h less =
      let a = acts_few g h (λ e. absurd (omega arith)) in
      let b = acts_few h g (λ e. absurd (omega arith)) in
      let c = turned g h in
      let d = length_mapped (group_link g h (acts_into es groups g h) (acts_into es groups h g))
      (range_with_len 0 (max (length (acts_into es groups g h)) (length (acts_into es groups h g)))) in
      let e = length-range_with_len 0 (max (length (acts_into es groups g h)) (length (acts_into es groups h g))) in
      omega arith

  from_few : (g : ℕ) → length (group_links_from es groups count g) ≤ total
      (λ l. total (λ h. one (is_pair (low l) (high l) g h)) (range_with_len (g + 1) (count - (g + 1)))) (range_with_len 0 bound)
  from_few g =
      let a = length_total (links_of_pair es groups g) (range_with_len (g + 1) (count - (g + 1))) in
      let b = total_below (λ h. length (links_of_pair es groups g h)) (λ h. total (λ l. one (is_pair (low l) (high l) g h)) (range_with_len 0 bound))
      (range_with_len (g + 1) (count - (g + 1))) (λ h at. pair_few g h (let c = range_above (g + 1) (count - (g + 1)) h at in omega arith)) in
      let d = total_swap (λ h l. one (is_pair (low l) (high l) g h)) (range_with_len (g + 1) (count - (g + 1))) (range_with_len 0 bound) in
      omega arith

  fewer : length (quotient_links es groups count) ≤ bound
  unfolding quotient_links
  fewer =
      let a = length_total (group_links_from es groups count) (range_with_len 0 count) in
      let b = total_below (λ g. length (group_links_from es groups count g))
      (λ g. total (λ l. total (λ h. one (is_pair (low l) (high l) g h)) (range_with_len (g + 1) (count - (g + 1)))) (range_with_len 0 bound))
      (range_with_len 0 count) (λ g at. from_few g) in
      let c = total_swap (λ g l. total (λ h. one (is_pair (low l) (high l) g h)) (range_with_len (g + 1) (count - (g + 1)))) (range_with_len 0 count)
      (range_with_len 0 bound) in
      let d = total_below (λ l. total (λ g. total (λ h. one (is_pair (low l) (high l) g h)) (range_with_len (g + 1) (count - (g + 1))))
      (range_with_len 0 count)) (λ _. 1) (range_with_len 0 bound) (λ l at. one_pair (low l) (high l) count) in
      let e = all_ones 0 bound in
      omega arith

pub no_more_links : NoMoreLinks
no_more_links es groups count bound low high w = fewer es groups count bound low high w
