-- The places of the network of the groups, group by group. Public: crates above may cite it.
use Rattle.std.proofs.Common.{◌≡◌, ℕ, zero, suc, ◌+◌, ◌<◌, Bool, true, false, cond, ◌&&◌, ◌||◌, nat_eq, List, [], ◌∷◌, ◌++◌, map, length, Some, inl, inr, refl, sym, ◌∙◌, ap, subst, arith}
use Rattle.std.specs.Prelude.{flat_map, filter, slice_get}
use Rattle.std.specs.List.{enumerate_from, range_with_len, list_any}
use Rattle.std.proofs.lemmas.Bool.Decides.{nat_tests}
use Rattle.base_kit.proofs.Elements.{In, in_filter, in_enumerate, get_in, in_get}
use Rattle.cfg_ast.specs.declared.network.Router.{Router}
use Rattle.cfg_ast.specs.declared.topology.Link.{Link}
use Rattle.cfg_ast.specs.meaning.Topology.{Place, places_on, places, links_from, links_joining, link_between}
use Rattle.abstract_net.specs.declared.qlink.QLink.{QLink}
use Rattle.srp_quotient.specs.Groups.{touches}
use Rattle.config_emit.specs.Interfaces.{is_at, links_at}
use Rattle.config_emit.specs.Plan.{Plan}
use Rattle.config_emit.specs.Emitted.{emitted_router, emitted}
use Rattle.emit_link_laws.proofs.PairedLinks.{AreBetween, filter_same, filter_twice}

-- ---- lists

pub enumerate_append : {X : Type 0} (n : ℕ) (xs ys : List X) → enumerate_from n (xs ++ ys) ≡ enumerate_from n xs ++ enumerate_from (n + length xs) ys
enumerate_append n [] ys = ap (λ k. enumerate_from k ys) (let e : n ≡ n + 0 = omega arith in e)
enumerate_append {X} n (x ∷ xs) ys =
    ap (λ (l : List (ℕ × X)). (n, x) ∷ l) (enumerate_append (n + 1) xs ys
    ∙ ap (λ k. enumerate_from (n + 1) xs ++ enumerate_from k ys) (let e : n + 1 + length xs ≡ n + suc (length xs) = omega arith in e))

pub none_of : {X : Type 0} (p : X → Bool) (xs : List X) → ((x : X) → In xs x → p x ≡ false) → list_any p xs ≡ false
none_of p [] fails = refl
none_of p (x ∷ xs) fails = rw (fails x (inl refl)) (none_of p xs (λ y at. fails y (inr at)))

-- ---- routers

-- the router of a group
pub group_at : {X : Type 0} (f : ℕ → X) (a n k : ℕ) → k < n → slice_get (map f (range_with_len a n)) k ≡ Some (f (a + k))
group_at f a zero k less = absurd (omega arith)
group_at f a (suc n) zero less = ap (λ m. Some (f m)) (let e : a ≡ a + 0 = omega arith in e)
group_at f a (suc n) (suc k) less = group_at f (a + 1) n k (omega arith) ∙ ap (λ m. Some (f m)) (let e : a + 1 + k ≡ a + suc k = omega arith in e)

pub router_at : (e : Plan) (g : ℕ) → g < e.count → slice_get (emitted e).routers g ≡ Some (emitted_router e g)
unfolding emitted
router_at e g less = group_at (emitted_router e) 0 e.count g less ∙ ap (λ m. Some (emitted_router e m)) (let s : 0 + g ≡ g = omega arith in s)

places_from : {X : Type 0} (items : Router → List X) (f : ℕ → Router) (a n : ℕ) →
    flat_map (places_on items) (enumerate_from a (map f (range_with_len a n))) ≡ flat_map (λ g. places_on items (g, f g)) (range_with_len a n)
places_from items f a zero = refl
places_from {X} items f a (suc n) = ap (λ (ps : List (Place X)). places_on items (a, f a) ++ ps) (places_from items f (a + 1) n)

-- the places of the groups' routers
pub group_places : {X : Type 0} (items : Router → List X) (e : Plan) →
    places items (emitted e) ≡ flat_map (λ g. places_on items (g, emitted_router e g)) (range_with_len 0 e.count)
unfolding places emitted
group_places items e = places_from items (emitted_router e) 0 e.count

-- ---- links between some places

kept_in_front : {X : Type 0} (p q : X → Bool) (xs : List X) → ((x : X) → q x ≡ true → p x ≡ true) → filter q xs ≡ filter q (filter p xs)
kept_in_front p q xs implied = filter_same q (λ x. p x && q x) xs (λ x at. by (p x) (q x) (implied x)) ∙ sym (filter_twice q p xs)
  where
    by : (a b : Bool) → (b ≡ true → a ≡ true) → b ≡ (a && b)
    by true b implied = refl
    by false true implied = let e = implied refl in absurd cc
    by false false implied = refl

none_joined : {X : Type 0} (joins : Place X → Place X → Bool) (p : Place X) (qs : List (Place X)) → ((q : Place X) → joins p q ≡ false) →
    filter (joins p) qs ≡ []
none_joined joins p [] fails = refl
none_joined joins p (q ∷ qs) fails = ap (λ (b : Bool). cond b (q ∷ filter (joins p) qs) (filter (joins p) qs)) (fails q) ∙ none_joined joins p qs fails

bool_is : (b : Bool) → (b ≡ true → ⊥) → b ≡ false
bool_is true never = absurd (never refl)
bool_is false never = refl

row_of_some : {X : Type 0} (joins : Place X → Place X → Bool) (some : Place X → Bool) (ps : List (Place X)) →
    ((p q : Place X) → joins p q ≡ true → (some p ≡ true) × (some q ≡ true))
    → (p : Place X) (b : Bool) (rest : List Link) (qs : List (Place X)) → some p ≡ b → rest ≡ flat_map (links_from joins (filter some ps)) qs →
    links_from joins ps p ++ rest ≡ flat_map (links_from joins (filter some ps)) (cond b (p ∷ qs) qs)
row_of_some {X} joins some ps joined p true rest qs is same =
    ap (λ (xs : List (Place X)). map (link_between p) xs ++ rest) (kept_in_front some (joins p) ps (λ q e. (joined p q e).1))
    ∙ ap (λ (ls : List Link). links_from joins (filter some ps) p ++ ls) same
row_of_some {X} joins some ps joined p false rest qs is same =
    ap (λ (xs : List (Place X)). map (link_between p) xs ++ rest)
    (none_joined joins p ps (λ q. bool_is (joins p q) (λ e. (let yes_it_is = (joined p q e).0 in cc)))) ∙ same

rows_of_some : {X : Type 0} (joins : Place X → Place X → Bool) (some : Place X → Bool) (ps : List (Place X)) →
    ((p q : Place X) → joins p q ≡ true → (some p ≡ true) × (some q ≡ true))
    → (qs : List (Place X)) → flat_map (links_from joins ps) qs ≡ flat_map (links_from joins (filter some ps)) (filter some qs)
rows_of_some joins some ps joined [] = refl
rows_of_some joins some ps joined (q ∷ qs) =
    row_of_some joins some ps joined q (some q) (flat_map (links_from joins ps) qs) (filter some qs) refl (rows_of_some joins some ps joined qs)

-- places that are joined with no other place may be left out
pub links_of_some : {X : Type 0} (joins : Place X → Place X → Bool) (some : Place X → Bool) (ps : List (Place X)) →
    ((p q : Place X) → joins p q ≡ true → (some p ≡ true) × (some q ≡ true)) → links_joining joins ps ≡ links_joining joins (filter some ps)
links_of_some joins some ps joined = rows_of_some joins some ps joined ps

-- ---- the links of a group

pub in_numbered : {X : Type 0} (k : ℕ) (ys : List X) (y : X) → In ys y → (m : ℕ) × In (enumerate_from k ys) (m, y)
in_numbered {X} k ys y at = let place = in_get ys y at in (k + place.0, in_enumerate ys k place.0 y place.1)

pub link_in : (e : Plan) (g t : ℕ) (l : QLink) → slice_get e.links t ≡ Some l → touches g l ≡ true → In (links_at e g) (t, l)
unfolding links_at
link_in e g t l at touching =
    let same : 0 + t ≡ t = omega arith in
    in_filter (is_at g) (enumerate_from 0 e.links) (t, l) (subst (λ k. In (enumerate_from 0 e.links) (k, l)) same (in_enumerate e.links 0 t l at)) touching

pub inside_count : (e : Plan) (g t : ℕ) (l : QLink) → AreBetween e.links e.count → slice_get e.links t ≡ Some l → touches g l ≡ true → g < e.count
inside_count e g t l between at touching =
    let has = get_in e.links t l at in
    let less = between.low l has in
    let few = between.high l has in
    below g l.low l.high e.count less few touching
  where
    below : (g low high count : ℕ) → low < high → high < count → (nat_eq low g || nat_eq high g) ≡ true → g < count
    below g low high count less few touching = grind (arith, nat_tests)
