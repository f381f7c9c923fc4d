-- How many links of the quotient join two groups.
use Rattle.std.proofs.Common.{◌≡◌, ◌≢◌, ℕ, zero, suc, ◌+◌, ◌-◌, ◌<◌, ◌≤◌, max, Bool, true, false, cond, ◌&&◌, List, [], ◌∷◌, ◌++◌, map, length, inl, inr, refl, ◌∙◌, ap, arith}
use Rattle.std.specs.Prelude.{filter, flat_map, nat_eq}
use Rattle.std.specs.List.{enumerate_from, range_with_len}
use Rattle.std.proofs.lemmas.List.Elements.{filter-append}
use Rattle.std.proofs.lemmas.List.FromFn.{length-map-range_with_len}
use Rattle.std.proofs.lemmas.Bool.Decides.{nat_tests}
use Rattle.std.proofs.lemmas.Bool.{cases_lt}
use Rattle.base_kit.specs.declared.act_graph.Edge.{Edge}
use Rattle.abstract_net.specs.declared.qlink.QLink.{QLink}
use Rattle.abstract_net.specs.Links.{acts_into, group_link, links_of_pair, group_links_from, quotient_links}
use Rattle.config_emit.specs.Plan.{Plan}
use Rattle.emit_link_laws.specs.Laws.{emitted_link}
use Rattle.compress_laws.specs.GroupLinks.{joins}

-- ---- what a filter keeps

keep_step : {X : Type 0} (b c : Bool) (x : X) (xs ys : List X) → b ≡ c → xs ≡ ys → cond b (x ∷ xs) xs ≡ cond c (x ∷ ys) ys
keep_step b c x xs ys e f = λ i. cond (e i) (x ∷ f i) (f i)

all_kept : {X Y : Type 0} (p : Y → Bool) (f : X → Y) (xs : List X) → ((x : X) → p (f x) ≡ true) → filter p (map f xs) ≡ map f xs
all_kept p f [] h = refl
all_kept p f (x ∷ xs) h = keep_step (p (f x)) true (f x) (filter p (map f xs)) (map f xs) (h x) (all_kept p f xs h)

none_kept : {X Y : Type 0} (p : Y → Bool) (f : X → Y) (xs : List X) → ((x : X) → p (f x) ≡ false) → filter p (map f xs) ≡ []
none_kept p f [] h = refl
none_kept p f (x ∷ xs) h = keep_step (p (f x)) false (f x) (filter p (map f xs)) [] (h x) (none_kept p f xs h)

none_of_flat : {X Y : Type 0} (p : Y → Bool) (f : X → List Y) (xs : List X) → ((x : X) → filter p (f x) ≡ []) → filter p (flat_map f xs) ≡ []
none_of_flat p f [] h = refl
none_of_flat p f (x ∷ xs) h = filter-append p (f x) (flat_map f xs) ∙ (λ i. h x i ++ none_of_flat p f xs h i)

none_of_range : {Y : Type 0} (p : Y → Bool) (f : ℕ → List Y) (start many here : ℕ) → here < start → ((m : ℕ) → m ≢ here → filter p (f m) ≡ [])
    → filter p (flat_map f (range_with_len start many)) ≡ []
none_of_range p f start zero here before h = refl
none_of_range p f start (suc many) here before h =
    filter-append p (f start) (flat_map f (range_with_len (start + 1) many))
    ∙ (λ i. h start (λ e. absurd (omega arith)) i ++ none_of_range p f (start + 1) many here (omega arith) h i)

nothing_behind : {X : Type 0} (xs : List X) → xs ++ [] ≡ xs
nothing_behind [] = refl
nothing_behind (x ∷ xs) = ap (λ ys. x ∷ ys) (nothing_behind xs)

-- only what is made at one place of a range is kept
one_of_range : {Y : Type 0} (p : Y → Bool) (f : ℕ → List Y) (start many here : ℕ) → start ≤ here → here < start + many
    → ((m : ℕ) → m ≢ here → filter p (f m) ≡ []) → filter p (flat_map f (range_with_len start many)) ≡ filter p (f here)
one_of_range p f start zero here from below h = absurd (omega arith)
one_of_range p f start (suc many) here from below h = filter-append p (f start) (flat_map f (range_with_len (start + 1) many)) ∙ elim (cases_lt start here) [
  | inl before ↦ (λ i. h start (λ e. absurd (omega arith)) i ++ one_of_range p f (start + 1) many here (omega arith) (omega arith) h i)
  | inr there ↦ (let same : start ≡ here = omega arith in
      (λ i. filter p (f (same i)) ++ none_of_range p f (start + 1) many here (omega arith) h i) ∙ nothing_behind (filter p (f here)))
]

-- ---- the links of the quotient

-- whether the link joins these groups
abbrev pub joins_groups : ℕ → ℕ → QLink → Bool
joins_groups g h link = nat_eq link.low g && nat_eq link.high h

same_pair : (g h : ℕ) → (nat_eq g g && nat_eq h h) ≡ true
same_pair g h = grind (arith, nat_tests)

other_low : (m g k h : ℕ) → m ≢ g → (nat_eq m g && nat_eq k h) ≡ false
other_low m g k h apart = grind (arith, nat_tests)

other_high : (g k h : ℕ) → k ≢ h → (nat_eq g g && nat_eq k h) ≡ false
other_high g k h apart = grind (arith, nat_tests)

module _ (es : List Edge) (groups : List ℕ) (count g h : ℕ) (ordered : g < h) (inside : h < count) where
  none_of_pair : (m k : ℕ) → (nat_eq m g && nat_eq k h) ≡ false → filter (joins_groups g h) (links_of_pair es groups m k) ≡ []
  none_of_pair m k apart = none_kept (joins_groups g h) (group_link m k (acts_into es groups m k) (acts_into es groups k m)) _ (λ i. apart)

  none_from : (m : ℕ) → m ≢ g → filter (joins_groups g h) (group_links_from es groups count m) ≡ []
  none_from m apart = none_of_flat (joins_groups g h) (links_of_pair es groups m) (range_with_len (m + 1) (count - (m + 1)))
      (λ k. none_of_pair m k (other_low m g k h apart))

  pair_kept : filter (joins_groups g h) (links_of_pair es groups g h) ≡ links_of_pair es groups g h
  pair_kept = all_kept (joins_groups g h) (group_link g h (acts_into es groups g h) (acts_into es groups h g)) _ (λ i. same_pair g h)

  links_joining : filter (joins_groups g h) (quotient_links es groups count) ≡ links_of_pair es groups g h
  unfolding quotient_links
  links_joining =
      one_of_range (joins_groups g h) (group_links_from es groups count) 0 count g (omega arith) (omega arith) none_from
      ∙ one_of_range (joins_groups g h) (links_of_pair es groups g) (g + 1) (count - (g + 1)) h (omega arith) (omega arith)
      (λ k apart. none_of_pair g k (other_high g k h apart))
      ∙ pair_kept

  -- as many as there are acts in the direction that has more of them
  pub as_many_as_acts : length (filter (joins_groups g h) (quotient_links es groups count))
      ≡ max (length (acts_into es groups g h)) (length (acts_into es groups h g))
  as_many_as_acts =
      ap (λ (ls : List QLink). length ls) links_joining
      ∙ length-map-range_with_len (group_link g h (acts_into es groups g h) (acts_into es groups h g)) 0
      (max (length (acts_into es groups g h)) (length (acts_into es groups h g)))

-- ---- the links of the network that is written

one_more : {X Y : Type 0} (b : Bool) (x : X) (y : Y) (xs : List X) (ys : List Y) → length xs ≡ length ys
    → length (cond b (x ∷ xs) xs) ≡ length (cond b (y ∷ ys) ys)
one_more true x y xs ys e = ap suc e
one_more false x y xs ys e = e

-- as many join two routers as there are links of the plan between the groups
pub as_many_as_planned : (e : Plan) (g h n : ℕ) (links : List QLink)
    → length (filter (joins g h) (map (emitted_link e) (enumerate_from n links))) ≡ length (filter (joins_groups g h) links)
as_many_as_planned e g h n [] = refl
as_many_as_planned e g h n (l ∷ links) = one_more (joins_groups g h l) (emitted_link e (n, l)) l
    (filter (joins g h) (map (emitted_link e) (enumerate_from (n + 1) links))) (filter (joins_groups g h) links) (as_many_as_planned e g h (n + 1) links)
