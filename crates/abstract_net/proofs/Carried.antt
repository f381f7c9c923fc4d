-- The links carry the acts between groups. Public: crates above cite `quotient_carries`.
use Rattle.std.proofs.Common.{◌≡◌, ℕ, zero, suc, ◌+◌, ◌-◌, ◌<◌, ◌≤◌, ◌≢◌, max, Bool, true, false, ◌&&◌, ◌||◌, List, [], ◌∷◌, map, length, ◌⊎◌, inl}
use Rattle.std.proofs.Common.{inr, Some, None, refl, sym, ◌∙◌, ap, subst, arith, eq-eqb}
use Rattle.std.specs.Prelude.{Contains, filter, slice_get, slice_index, nat_eq, if◌then◌else◌, option_map}
use Rattle.std.specs.List.{range_with_len, list_any, fold}
use Rattle.std.proofs.lemmas.Option.{slice_get-map, slice_get_within, get_or_from_slice_get}
use Rattle.std.proofs.lemmas.Bool.Decides.{nat_tests}
use Rattle.std.proofs.lemmas.Bool.{cases_lt}
use Rattle.base_kit.specs.declared.act_graph.Edge.{Edge}
use Rattle.abstract_net.specs.declared.qlink.QLink.{QLink}
use Rattle.abstract_net.specs.Carried.{HasEdgeBetween}
use Rattle.base_kit.proofs.Elements.{In, contains_in, in_contains, in_map, map_in, in_filter, filter_in, in_flat_map, flat_map_in, in_get, get_in}
use Rattle.base_kit.proofs.Elements.{in_range, range_in}
use Rattle.abstract_net.specs.Carried.{IsJoined, side_of, act_at, IsEdgeAt, IsCarried, IsBelow}
use Rattle.abstract_net.specs.Links.{link_at, importer_at, exporter_at, link_bound, on_link, by_link, goes, first_acts, acts_into, group_link}
use Rattle.abstract_net.specs.Links.{links_of_pair, group_links_from, quotient_links, IsInside, QuotientCarries}

eq_from_test : (a b : ℕ) → nat_eq a b ≡ true → a ≡ b
eq_from_test a b h = grind (arith, nat_tests)

both_true : (a b : Bool) → a ≡ true → b ≡ true → (a && b) ≡ true
both_true true b x y = y
both_true false b x y = cc

both_tests : (a b c d : ℕ) → (nat_eq a b && nat_eq c d) ≡ true → (a ≡ b) × (c ≡ d)
both_tests a b c d h = (grind (arith, nat_tests), grind (arith, nat_tests))

-- ---- edges by their places
pub record IsAtPlace (es : List Edge) (groups : List ℕ) (k : ℕ) (e : Edge) : Type 0 where
  pub has : Contains es e
  pub importer : importer_at es groups k ≡ slice_index groups e.importer
  pub exporter : exporter_at es groups k ≡ slice_index groups e.exporter
  pub does : act_at es k ≡ e.act
  pub link : link_at es k ≡ e.link

at_map : {X : Type 0} (f : X → ℕ) (xs : List X) (k : ℕ) (x : X) → slice_get xs k ≡ Some x → slice_index (map f xs) k ≡ f x
at_map f xs k x h = get_or_from_slice_get (map f xs) k (f x) 0 (slice_get-map f xs k ∙ ap (option_map f) h)

pub at_place : (es : List Edge) (groups : List ℕ) (k : ℕ) (e : Edge) → slice_get es k ≡ Some e → IsAtPlace es groups k e
at_place es groups k e h = record {
  has = contains_in es e (get_in es k e h);
  importer = at_map (λ (e : Edge). slice_index groups e.importer) es k e h;
  exporter = at_map (λ (e : Edge). slice_index groups e.exporter) es k e h;
  does = at_map (λ (e : Edge). e.act) es k e h;
  link = at_map (λ (e : Edge). e.link) es k e h;
}

pub get_some : {X : Type 0} (xs : List X) (k : ℕ) → k < length xs → (x : X) × (slice_get xs k ≡ Some x)
get_some [] k h = absurd (omega arith)
get_some (x ∷ xs) zero h = (x, refl)
get_some (x ∷ xs) (suc k) h = get_some xs k (omega arith)

-- ---- all edges stand in the order by links
fold_grows : (es : List Edge) (m : ℕ) → m ≤ fold (λ (m : ℕ) (e : Edge). max m (e.link + 1)) m es
fold_grows [] m = omega arith
fold_grows (e ∷ es) m = let a = fold_grows es (max m (e.link + 1)) in omega arith

pub link_below : (es : List Edge) (m : ℕ) (e : Edge) → In es e → e.link < fold (λ (m : ℕ) (e : Edge). max m (e.link + 1)) m es
link_below [] m e h = absurd h
link_below (x ∷ es) m e (inl same) = let a = fold_grows es (max m (x.link + 1)) in let b = ap (λ (e : Edge). e.link) same in omega arith
link_below (x ∷ es) m e (inr h) = link_below es (max m (x.link + 1)) e h

in_range_0 : (n k : ℕ) → k < n → In (range_with_len 0 n) k
in_range_0 n k h = let P : ℕ → Type 0 = λ m. In (range_with_len 0 n) m in let same : 0 + k ≡ k = omega arith in subst P same (in_range 0 n k h)

in_by_link : (es : List Edge) (k : ℕ) (e : Edge) → slice_get es k ≡ Some e → In (by_link es) k
unfolding by_link
in_by_link es k e h =
    let at = at_place es [] k e h in
    in_flat_map (on_link es) (range_with_len 0 (link_bound es)) e.link k (in_range_0 (link_bound es) e.link (link_below es 0 e (get_in es k e h)))
    (in_filter (λ k. nat_eq (link_at es k) e.link) (range_with_len 0 (length es)) k (in_range_0 (length es) k (slice_get_within es k e h)) (eq-eqb _ _ at.link))

pub by_link_in : (es : List Edge) (k : ℕ) → In (by_link es) k → k < length es
unfolding by_link
by_link_in es k h =
    let l = flat_map_in (on_link es) (range_with_len 0 (link_bound es)) k h in
    let at = filter_in (λ k. nat_eq (link_at es k) l.0) (range_with_len 0 (length es)) k l.2 in
    let r = range_in 0 (length es) k at.0 in omega arith

-- ---- the first of each act
if_in : {X : Type 0} (b : Bool) (x : X) (xs ys : List X) (z : X) → In (if b then xs else x ∷ ys) z → In xs z ⊎ ((x ≡ z) ⊎ In ys z)
if_in true x xs ys z h = inl h
if_in false x xs ys z (inl e) = inr (inl e)
if_in false x xs ys z (inr h) = inr (inr h)

first_in : (es : List Edge) (seen ks : List ℕ) (k : ℕ) → In (first_acts es seen ks) k → In ks k
first_in es seen [] k h = h
first_in es seen (j ∷ ks) k h = elim (if_in (list_any (nat_eq (act_at es j)) seen) j (first_acts es seen ks) (first_acts es (act_at es j ∷ seen) ks) k h) [
  | inl a ↦ inr (first_in es seen ks k a)
  | inr b ↦ elim b [ inl e ↦ inl e | inr a ↦ inr (first_in es (act_at es j ∷ seen) ks k a) ]
]

any_step : (x y : ℕ) (ys : List ℕ) (b : Bool) → nat_eq x y ≡ b → (b || list_any (nat_eq x) ys) ≡ true → (list_any (nat_eq x) ys ≡ true → In ys x) →
    In (y ∷ ys) x
any_step x y ys true e h i = inl (sym (eq_from_test x y e))
any_step x y ys false e h i = inr (i h)

any_in : (x : ℕ) (ys : List ℕ) → list_any (nat_eq x) ys ≡ true → In ys x
any_in x [] h = absurd (cc)
any_in x (y ∷ ys) h = any_step x y ys (nat_eq x y) refl h (any_in x ys)

pub record HasAct (es : List Edge) (ks : List ℕ) (act : ℕ) : Type 0 where
  pub place : ℕ
  pub has : In ks place
  pub does : act_at es place ≡ act

has_step : (es : List Edge) (seen ks : List ℕ) (j k : ℕ) (b : Bool) → list_any (nat_eq (act_at es j)) seen ≡ b → (j ≡ k) ⊎ In ks k →
    (In ks k → In seen (act_at es k) ⊎ HasAct es (first_acts es seen ks) (act_at es k)) →
    (In ks k → In (act_at es j ∷ seen) (act_at es k) ⊎ HasAct es (first_acts es (act_at es j ∷ seen) ks) (act_at es k)) → In seen (act_at es k)
    ⊎ HasAct es (if b then first_acts es seen ks else j ∷ first_acts es (act_at es j ∷ seen) ks) (act_at es k)
has_step es seen ks j k true e (inl same) x y = inl (let P : ℕ → Type 0 = λ a. In seen a in subst P (ap (act_at es) same) (any_in (act_at es j) seen e))
has_step es seen ks j k true e (inr h) x y = x h
has_step es seen ks j k false e (inl same) x y = inr (record { place = j; has = inl refl; does = ap (act_at es) same })
has_step es seen ks j k false e (inr h) x y = elim (y h) [
  | inl z ↦ elim z [ inl w ↦ inr (record { place = j; has = inl refl; does = w }) | inr w ↦ inl w ]
  | inr d ↦ inr (record { place = d.place; has = inr d.has; does = d.does })
]

has_first : (es : List Edge) (seen ks : List ℕ) (k : ℕ) → In ks k → In seen (act_at es k) ⊎ HasAct es (first_acts es seen ks) (act_at es k)
has_first es seen [] k h = absurd h
has_first es seen (j ∷ ks) k h = has_step es seen ks j k (list_any (nat_eq (act_at es j)) seen) refl h (has_first es seen ks k)
    (has_first es (act_at es j ∷ seen) ks k)

-- ---- the acts of one direction
pub record Goes (es : List Edge) (groups : List ℕ) (g h k : ℕ) : Type 0 where
  pub importer : importer_at es groups k ≡ g
  pub exporter : exporter_at es groups k ≡ h

goes_is : (es : List Edge) (groups : List ℕ) (g h k : ℕ) → goes es groups g h k ≡ true → Goes es groups g h k
goes_is es groups g h k t = let r = both_tests (importer_at es groups k) g (exporter_at es groups k) h t in record { importer = r.0; exporter = r.1 }

act_place : (es : List Edge) (groups : List ℕ) (g h k : ℕ) → In (acts_into es groups g h) k → IsEdgeAt es groups k g h
unfolding acts_into
act_place es groups g h k at =
    let kept = filter_in (goes es groups g h) (by_link es) k (first_in es [] (filter (goes es groups g h) (by_link es)) k at) in
    let e = get_some es k (by_link_in es k kept.0) in
    let p = at_place es groups k e.0 e.1 in
    let d = goes_is es groups g h k kept.1 in
    record { between = record { edge = e.0; has = p.has; importer = sym p.importer ∙ d.importer; exporter = sym p.exporter ∙ d.exporter; does = sym p.does } }

has_act : (es : List Edge) (groups : List ℕ) (g h act : ℕ) → HasEdgeBetween es groups g h act → HasAct es (acts_into es groups g h) act
unfolding acts_into
has_act es groups g h act d =
    let k = in_get es d.edge (in_contains es d.edge d.has) in
    let p = at_place es groups k.0 d.edge k.1 in
    let test : goes es groups g h k.0 ≡ true = both_true _ _ (eq-eqb _ _ (p.importer ∙ d.importer)) (eq-eqb _ _ (p.exporter ∙ d.exporter)) in
    let P : ℕ → Type 0 = λ a. HasAct es (first_acts es [] (filter (goes es groups g h) (by_link es))) a in
    subst P (p.does ∙ d.does) (elim (has_first es [] (filter (goes es groups g h) (by_link es)) k.0
    (in_filter (goes es groups g h) (by_link es) k.0 (in_by_link es k.0 d.edge k.1) test)) [ inl x ↦ absurd x | inr x ↦ x ])

-- ---- the links
pub record IsListed (es : List Edge) (groups : List ℕ) (count : ℕ) (l : QLink) : Type 0 where
  pub g : ℕ
  pub h : ℕ
  pub i : ℕ
  pub ordered : g < h
  pub inside : h < count
  pub few : i < max (length (acts_into es groups g h)) (length (acts_into es groups h g))
  pub is : group_link g h (acts_into es groups g h) (acts_into es groups h g) i ≡ l

pub range_above : (a n m : ℕ) → In (range_with_len a n) m → a ≤ m
range_above a zero m h = absurd h
range_above a (suc n) m (inl e) = omega arith
range_above a (suc n) m (inr h) = let r = range_above (a + 1) n m h in omega arith

in_range_from : (a n m : ℕ) → a ≤ m → m < a + n → In (range_with_len a n) m
in_range_from a n m x y = let P : ℕ → Type 0 = λ k. In (range_with_len a n) k in let same : a + (m - a) ≡ m = omega arith in
    subst P same (in_range a n (m - a) (omega arith))

is_listed : (es : List Edge) (groups : List ℕ) (count : ℕ) (l : QLink) → In (quotient_links es groups count) l → IsListed es groups count l
unfolding quotient_links
is_listed es groups count l at =
    let g = flat_map_in (group_links_from es groups count) (range_with_len 0 count) l at in
    let h = flat_map_in (links_of_pair es groups g.0) (range_with_len (g.0 + 1) (count - (g.0 + 1))) l g.2 in
    let i = map_in (group_link g.0 h.0 (acts_into es groups g.0 h.0) (acts_into es groups h.0 g.0))
    (range_with_len 0 (max (length (acts_into es groups g.0 h.0)) (length (acts_into es groups h.0 g.0)))) l h.2 in
    let a = range_above (g.0 + 1) (count - (g.0 + 1)) h.0 h.1 in
    let b = range_in (g.0 + 1) (count - (g.0 + 1)) h.0 h.1 in
    let c = range_in 0 (max (length (acts_into es groups g.0 h.0)) (length (acts_into es groups h.0 g.0))) i.0 i.1 in
    let d = range_in 0 count g.0 g.1 in
    record { g = g.0; h = h.0; i = i.0; ordered = omega arith; inside = omega arith; few = omega arith; is = i.2 }

listed : (es : List Edge) (groups : List ℕ) (count g h i : ℕ) → g < h → h < count →
    i < max (length (acts_into es groups g h)) (length (acts_into es groups h g)) →
    In (quotient_links es groups count) (group_link g h (acts_into es groups g h) (acts_into es groups h g) i)
unfolding quotient_links
listed es groups count g h i x y z =
    in_flat_map (group_links_from es groups count) (range_with_len 0 count) g _ (in_range_from 0 count g (omega arith) (omega arith))
    (in_flat_map (links_of_pair es groups g) (range_with_len (g + 1) (count - (g + 1))) h _
    (in_range_from (g + 1) (count - (g + 1)) h (omega arith) (omega arith))
    (in_map (group_link g h (acts_into es groups g h) (acts_into es groups h g)) _ i (in_range_from 0 _ i (omega arith) (omega arith))))

test_false : (a b : ℕ) → a ≢ b → nat_eq a b ≡ false
test_false a b h = grind (arith, nat_tests)

low_side : (g h i : ℕ) (xs ys : List ℕ) → side_of g (group_link g h xs ys i) ≡ slice_get xs i
low_side g h i xs ys = ap (λ (b : Bool). if b then slice_get xs i else slice_get ys i) (eq-eqb g g refl)

high_side : (g h i : ℕ) (xs ys : List ℕ) → g < h → side_of h (group_link g h xs ys i) ≡ slice_get ys i
high_side g h i xs ys less = ap (λ (b : Bool). if b then slice_get xs i else slice_get ys i) (test_false g h (λ e. absurd (omega arith)))

real_at : (es : List Edge) (groups : List ℕ) (a b i g h k : ℕ) → a < b → IsJoined (group_link a b (acts_into es groups a b) (acts_into es groups b a) i) g h →
    side_of g (group_link a b (acts_into es groups a b) (acts_into es groups b a) i) ≡ Some k → IsEdgeAt es groups k g h
real_at es groups a b i g h k less (inl j) s =
    let P : ℕ → ℕ → Type 0 = λ x y. IsEdgeAt es groups k x y in
    let t : side_of a (group_link a b (acts_into es groups a b) (acts_into es groups b a) i) ≡ Some k =
    ap (λ (x : ℕ). side_of x (group_link a b (acts_into es groups a b) (acts_into es groups b a) i)) j.0 ∙ s in
    subst (P g) j.1 (subst (λ (x : ℕ). P x b) j.0
    (act_place es groups a b k (get_in (acts_into es groups a b) i k (sym (low_side a b i (acts_into es groups a b) (acts_into es groups b a)) ∙ t))))
real_at es groups a b i g h k less (inr j) s =
    let P : ℕ → ℕ → Type 0 = λ x y. IsEdgeAt es groups k x y in
    let t : side_of b (group_link a b (acts_into es groups a b) (acts_into es groups b a) i) ≡ Some k =
    ap (λ (x : ℕ). side_of x (group_link a b (acts_into es groups a b) (acts_into es groups b a) i)) j.0 ∙ s in
    subst (P g) j.1 (subst (λ (x : ℕ). P x a) j.0
    (act_place es groups b a k (get_in (acts_into es groups b a) i k (sym (high_side a b i (acts_into es groups a b) (acts_into es groups b a) less) ∙ t))))

-- a side that is not there leaves the other one
get_none : {X : Type 0} (xs : List X) (i : ℕ) → slice_get xs i ≡ None → length xs ≤ i
get_none [] i h = omega arith
get_none (x ∷ xs) zero h = cc
get_none (x ∷ xs) (suc i) h = let r = get_none xs i h in omega arith

used_at : (es : List Edge) (groups : List ℕ) (a b i g h : ℕ) → a < b → i < max (length (acts_into es groups a b)) (length (acts_into es groups b a)) →
    IsJoined (group_link a b (acts_into es groups a b) (acts_into es groups b a) i) g h →
    side_of g (group_link a b (acts_into es groups a b) (acts_into es groups b a) i) ≡ None →
    (k : ℕ) × (side_of h (group_link a b (acts_into es groups a b) (acts_into es groups b a) i) ≡ Some k)
used_at es groups a b i g h less few (inl j) s =
    let xs = acts_into es groups a b in
    let ys = acts_into es groups b a in
    let t : side_of a (group_link a b xs ys i) ≡ None = ap (λ (x : ℕ). side_of x (group_link a b xs ys i)) j.0 ∙ s in
    let short = get_none xs i (sym (low_side a b i xs ys) ∙ t) in
    let k = get_some ys i (omega arith) in
    (k.0, ap (λ (x : ℕ). side_of x (group_link a b xs ys i)) (sym j.1) ∙ high_side a b i xs ys less ∙ k.1)
used_at es groups a b i g h less few (inr j) s =
    let xs = acts_into es groups a b in
    let ys = acts_into es groups b a in
    let t : side_of b (group_link a b xs ys i) ≡ None = ap (λ (x : ℕ). side_of x (group_link a b xs ys i)) j.0 ∙ s in
    let short = get_none ys i (sym (high_side a b i xs ys less) ∙ t) in
    let k = get_some xs i (omega arith) in
    (k.0, ap (λ (x : ℕ). side_of x (group_link a b xs ys i)) (sym j.1) ∙ low_side a b i xs ys ∙ k.1)

in_order : (a b : ℕ) → a ≢ b → (a < b) ⊎ (b < a)
in_order a b h = elim (cases_lt a b) [ inl x ↦ inl x | inr x ↦ inr (omega arith) ]

module _ (es : List Edge) (groups : List ℕ) (count : ℕ) (inside : (e : Edge) → Contains es e → IsInside groups count e) where
  kept_at : (g h act : ℕ) → g ≢ h → HasEdgeBetween es groups g h act → IsCarried es (quotient_links es groups count) g h act
  kept_at g h act apart d =
      let within = inside d.edge d.has in
      let gi = within.importer in let ge = d.importer in let hi = within.exporter in let he = d.exporter in
      let a = has_act es groups g h act d in
      let i = in_get (acts_into es groups g h) a.place a.has in
      let few = slice_get_within (acts_into es groups g h) i.0 a.place i.1 in
      elim (in_order g h apart) [
        | inl less ↦ record {
          link = group_link g h (acts_into es groups g h) (acts_into es groups h g) i.0;
          has =
              contains_in _ _ (listed es groups count g h i.0 less (omega arith) (omega arith));
          joined = inl (refl, refl);
          edge = a.place;
          side =
              low_side g h i.0 (acts_into es groups g h) (acts_into es groups h g) ∙ i.1;
          does = a.does;
        }
        | inr less ↦ record {
          link = group_link h g (acts_into es groups h g) (acts_into es groups g h) i.0;
          has =
              contains_in _ _ (listed es groups count h g i.0 less (omega arith) (omega arith));
          joined = inr (refl, refl);
          edge = a.place;
          side =
              high_side h g i.0 (acts_into es groups h g) (acts_into es groups g h) less ∙ i.1;
          does = a.does;
        }
      ]

pub quotient_carries : QuotientCarries
quotient_carries es groups count inside = record {
  below = (λ l has. (let at = is_listed es groups count l (in_contains _ l has) in let P : QLink → Type 0 = λ (l : QLink). IsBelow count l in
      subst P at.is (record { ordered = at.ordered; inside = at.inside })));
  real = (λ l g h k has. (let at = is_listed es groups count l (in_contains _ l has) in let P : QLink → Type 0 = λ (l : QLink). IsJoined l g h →
      side_of g l ≡ Some k → IsEdgeAt es groups k g h in subst P at.is (real_at es groups at.g at.h at.i g h k at.ordered)));
  kept = kept_at es groups count inside;
  used = (λ l g h has. (let at = is_listed es groups count l (in_contains _ l has) in let P : QLink → Type 0 = λ (l : QLink). IsJoined l g h →
      side_of g l ≡ None → (k : ℕ) × (side_of h l ≡ Some k) in subst P at.is (used_at es groups at.g at.h at.i g h at.ordered at.few)));
}
