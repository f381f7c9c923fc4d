-- The links between groups, counted in a table of acts.
use Rattle.std.proofs.Common.{◌≡◌, ℕ, zero, suc, ◌+◌, ◌-◌, ◌<◌, Bool, List, [], ◌∷◌, ◌++◌, length, max, refl, sym, ap, ◌∙◌, arith}
use Rattle.std.specs.Prelude.{flat_map}
use Rattle.std.specs.List.{range_with_len}
use Rattle.std.proofs.lemmas.List.FromFn.{length-map-range_with_len}
use Rattle.base_kit.specs.declared.act_graph.Edge.{Edge}
use Rattle.abstract_net.specs.Links.{acts_into, group_link, links_of_pair, group_links_from, quotient_links}
use Rattle.group_report.specs.declared.link_counts.Size.{Size}
use Rattle.group_report.specs.LinkTables.{is_set, IsLinkTable, sum_below, acts_in, links_between, links_above, links_below}
use Rattle.group_report.proofs.ActCounts.{sum_same, acts_counted}

joined : {X : Type 0} (xs ys : List X) → length (xs ++ ys) ≡ length xs + length ys
joined [] ys = omega arith
joined (x ∷ xs) ys = let a = joined xs ys in omega arith

one_more : {X : Type 0} (f : ℕ → List X) (a n : ℕ) → length (flat_map f (range_with_len a (suc n)))
    ≡ length (flat_map f (range_with_len a n)) + length (f (a + n))
one_more f a zero =
    let here = joined (f a) [] in
    let same = ap (λ (k : ℕ). length (f k)) (let z : a + 0 ≡ a = omega arith in z) in
    omega (arith, here, same)
one_more f a (suc n) =
    let here = joined (f a) (flat_map f (range_with_len (a + 1) (suc n))) in
    let there = joined (f a) (flat_map f (range_with_len (a + 1) n)) in
    let later = one_more f (a + 1) n in
    let same = ap (λ (k : ℕ). length (f k)) (let z : a + 1 + n ≡ a + suc n = omega arith in z) in
    omega (arith, here, there, later, same)

total : {X : Type 0} (f : ℕ → List X) (a n : ℕ) → length (flat_map f (range_with_len a n)) ≡ sum_below (λ i. length (f (a + i))) n
total f a zero = refl
total f a (suc n) = let before = total f a n in let last = one_more f a n in omega (arith, before, last)

module _ (es : List Edge) (groups : List ℕ) (size : Size) (table : List Bool) (is : IsLinkTable es groups size table) where
  acts_are : (g h : ℕ) → g < size.groups → h < size.groups → length (acts_into es groups g h) ≡ acts_in size table g h
  acts_are g h gs hs = acts_counted es groups size.acts g h (is_set size table g h) is.few_acts (λ a acts. is.cells g h a gs hs acts)

  pair : (g h : ℕ) → g < size.groups → h < size.groups → length (links_of_pair es groups g h) ≡ links_between size table g h
  pair g h gs hs =
      length-map-range_with_len (group_link g h (acts_into es groups g h) (acts_into es groups h g)) 0
      (max (length (acts_into es groups g h)) (length (acts_into es groups h g)))
      ∙ (λ i. max (acts_are g h gs hs i) (acts_are h g hs gs i))

  above : (g : ℕ) → g < size.groups → length (group_links_from es groups size.groups g) ≡ links_above size table g (size.groups - (g + 1))
  above g inside =
      total (links_of_pair es groups g) (g + 1) (size.groups - (g + 1))
      ∙ sum_same _ _ (size.groups - (g + 1)) (λ i less. pair g (g + 1 + i) inside (omega (arith, inside, less)))

  pub counted : links_below size table size.groups ≡ length (quotient_links es groups size.groups)
  unfolding quotient_links
  counted =
      sym (total (group_links_from es groups size.groups) 0 size.groups
      ∙ sum_same _ _ size.groups (λ g inside. ap (λ (k : ℕ). length (group_links_from es groups size.groups k)) (let z : 0 + g ≡ g = omega arith in z)
      ∙ above g inside))
