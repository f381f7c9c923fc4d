-- The problem of the groups is the quotient. Public: crates above cite `quotient_is_quotient`.
use Rattle.std.proofs.Common.{◌≡◌, ◌≢◌, ℕ, zero, suc, ◌+◌, ◌<◌, Bool, true, false, cond, ◌&&◌, ◌||◌, List, [], ◌∷◌, map, length, ◌⊎◌, inl, inr, Option, Some, None, refl, sym, ◌∙◌, ap, subst, arith, eq-eqb}
use Rattle.std.specs.Prelude.{Contains, filter, flat_map, slice_get, slice_index, slice_index_or, nat_eq, is_some, if◌then◌else◌}
use Rattle.std.specs.Option.{option_map}
use Rattle.std.specs.List.{range_with_len, list_any, enumerate_from}
use Rattle.std.proofs.lemmas.Option.{slice_get_within, get_or_from_slice_get}
use Rattle.std.proofs.lemmas.Bool.Decides.{nat_tests}
use Rattle.std.proofs.lemmas.Bool.{cases_lt}
use Rattle.std.proofs.lemmas.List.FromFn.{length-range_with_len}
use Rattle.std.proofs.lemmas.List.{length-map}
use Rattle.base_kit.specs.declared.protocol.Protocol.{Protocol}
use Rattle.base_kit.specs.declared.protocol.Protocol.TheVariants.{Bgp as OverBgp, Ospf as OverOspf}
use Rattle.base_kit.specs.declared.act_graph.Edge.{Edge}
use Rattle.base_kit.specs.Partition.{IsNumbered}
use Rattle.base_kit.proofs.Elements.{In, contains_in, in_contains, filter_in, in_flat_map, flat_map_in, filter_map_in, in_enumerate, enumerate_in, in_get, get_in, in_left, in_right, append_in, in_range}
use Rattle.abstract_net.specs.declared.qlink.QLink.{QLink}
use Rattle.abstract_net.specs.Carried.{IsJoined, side_of, IsEdgeAt, CarriesActs}
use Rattle.abstract_net.specs.Links.{quotient_links, IsInside}
use Rattle.abstract_net.proofs.Carried.{quotient_carries}
use Rattle.srp_core.specs.declared.route.Route.{Route}
use Rattle.srp_core.specs.declared.route.Act.{Act}
use Rattle.srp_core.specs.declared.route.Act.TheVariants.{Import, Cost}
use Rattle.srp_core.specs.Acts.{ActsAlike}
use Rattle.srp_core.specs.Problem.{Problem, count as count_of, initial, is_lone, number, act_of, IsProblem}
use Rattle.srp_core.specs.Quotient.{group_of, IsFirstMember, IsAdmissible, IsUsed, originates, imports, exports, Lies, IsQuotient, first_number}
use Rattle.by_key.specs.ByKey.{by_key}
use Rattle.by_key.proofs.KeyedItems.{by_key_in, in_by_key}
use Rattle.srp_quotient.specs.Groups.{first_member, touches, same_group_pair, or_else, last_of, last_into, edge_into, lower_edge, listed, edges_of_link, importer_of, exporter_of, quotient_edges, is_used, number_of_group, quotient_problem, small_of}
use Rattle.srp_quotient.specs.Laws.{QuotientIsQuotient}

-- ---- the first member
pub record IsFirst (groups : List ℕ) (g k : ℕ) : Type 0 where
  pub inside : k < length groups
  pub there : slice_index groups k ≡ g
  pub least : (v : ℕ) → v < k → slice_index groups v ≢ g

one_number : (m n : ℕ) → nat_eq m n ≡ true → m ≡ n
one_number m n e = grind (arith, nat_tests)

other_number : (m n : ℕ) → nat_eq m n ≡ false → m ≢ n
other_number m n e same = absurd (grind (arith, nat_tests))

first_step : (x : ℕ) (xs : List ℕ) (g u : ℕ) (b : Bool) → nat_eq x g ≡ b → u < length (x ∷ xs) → slice_index (x ∷ xs) u ≡ g →
    ((v : ℕ) → v < length xs → slice_index xs v ≡ g → IsFirst xs g (first_member xs g)) → IsFirst (x ∷ xs) g (cond b 0 (suc (first_member xs g)))
first_step x xs g u true e h at rest = record { inside = omega arith; there = one_number x g e; least = λ v less. absurd (omega arith) }
first_step x xs g zero false e h at rest = absurd (other_number x g e at)
first_step x xs g (suc u) false e h at rest =
    let r = rest u (omega arith) at in
    record { inside = (let i = r.inside in omega arith); there = r.there; least = least_of r }
  where
    least_of : IsFirst xs g (first_member xs g) → (v : ℕ) → v < suc (first_member xs g) → slice_index (x ∷ xs) v ≢ g
    least_of r zero less = other_number x g e
    least_of r (suc v) less = r.least v (omega arith)

first_is : (groups : List ℕ) (g u : ℕ) → u < length groups → slice_index groups u ≡ g → IsFirst groups g (first_member groups g)
first_is [] g u h at = absurd (omega arith)
first_is (x ∷ xs) g u h at = first_step x xs g u (nat_eq x g) refl h at (λ v i e. first_is xs g v i e)

-- ---- lists over groups
at_range : {X : Type 0} (f : ℕ → X) (d : X) (a n g : ℕ) → g < n → slice_index_or (map f (range_with_len a n)) g d ≡ f (a + g)
at_range f d a zero g h = absurd (omega arith)
at_range f d a (suc n) zero h = ap f (omega arith)
at_range f d a (suc n) (suc g) h = at_range f d (a + 1) n g (omega arith) ∙ ap f (omega arith)

at_group : {X : Type 0} (f : ℕ → X) (d : X) (n g : ℕ) → g < n → slice_index_or (map f (range_with_len 0 n)) g d ≡ f g
at_group f d n g h = at_range f d 0 n g h ∙ ap f (omega arith)

in_range_0 : (n k : ℕ) → k < n → In (range_with_len 0 n) k
in_range_0 n k h = let P : ℕ → Type 0 = λ m. In (range_with_len 0 n) m in let same : 0 + k ≡ k = omega arith in subst P same (in_range 0 n k h)

alike_refl : (x : Act) → ActsAlike x x
alike_refl (Import out sends into) = record { same = λ comms set. refl }
alike_refl (Cost cost) = refl

bool_cases : (b : Bool) → (b ≡ true) ⊎ (b ≡ false)
bool_cases true = inl refl
bool_cases false = inr refl

in_enumerate_0 : {X : Type 0} (xs : List X) (k : ℕ) (x : X) → slice_get xs k ≡ Some x → In (enumerate_from 0 xs) (k, x)
in_enumerate_0 {X} xs k x e = let P : ℕ → Type 0 = λ m. In (enumerate_from 0 xs) (m, x) in let same : 0 + k ≡ k = omega arith in
    subst P same (in_enumerate xs 0 k x e)

or_right : (a b : Bool) → b ≡ true → (a || b) ≡ true
or_right true b e = refl
or_right false b e = e

or_cases : (a b : Bool) → (a || b) ≡ true → (a ≡ true) ⊎ (b ≡ true)
or_cases true b e = inl refl
or_cases false b e = inr e

some_of : (o : Option Route) → is_some o ≡ true → (r : Route) × (o ≡ Some r)
some_of None e = absurd cc
some_of (Some r) e = (r, refl)

any_in : (ls : List QLink) (g : ℕ) → list_any (touches g) ls ≡ true → (l : QLink) × In ls l × (touches g l ≡ true)
any_in [] g e = absurd cc
any_in (l ∷ ls) g e = elim (or_cases (touches g l) (list_any (touches g) ls) e) [
  | inl here ↦ (l, inl refl, here)
  | inr later ↦ (let r = any_in ls g later in (r.0, inr r.1, r.2))
]

first_is_one : (groups : List ℕ) (u k : ℕ) → IsFirstMember groups u → IsFirst groups (group_of groups u) k → k ≡ u
first_is_one groups u k is f = elim (cases_lt k u) [
  | inl less ↦ absurd (is.first k less f.there)
  | inr more ↦ elim (cases_lt u k) [ inl less ↦ absurd (f.least u less refl) | inr other ↦ omega arith ]
]

-- ---- the edge at an end of a link
option_cases : (o : Option ℕ) → (o ≡ None) ⊎ ((k : ℕ) × (o ≡ Some k))
option_cases None = inl refl
option_cases (Some k) = inr (k, refl)

or_else_is : (a b : Option ℕ) (k : ℕ) → or_else a b ≡ Some k → (a ≡ Some k) ⊎ (b ≡ Some k)
or_else_is None b k e = inr e
or_else_is (Some j) b k e = inl e

last_in : (ks : List ℕ) (k : ℕ) → last_of ks ≡ Some k → In ks k
last_in [] k e = absurd cc
last_in (j ∷ ks) k e = elim (or_else_is (last_of ks) (Some j) k e) [ inl a ↦ inr (last_in ks k a) | inr b ↦ inl cc ]

and_true : (a b : Bool) → (a && b) ≡ true → (a ≡ true) × (b ≡ true)
and_true true b e = (refl, e)
and_true false b e = absurd cc

same_ends : (l m : QLink) (g h : ℕ) → same_group_pair l m ≡ true → IsJoined l g h → IsJoined m g h
same_ends l m g h e (inl j) = let p = and_true (nat_eq l.low m.low) (nat_eq l.high m.high) e in
    inl (sym (one_number l.low m.low p.0) ∙ j.0, sym (one_number l.high m.high p.1) ∙ j.1)
same_ends l m g h e (inr j) = let p = and_true (nat_eq l.low m.low) (nat_eq l.high m.high) e in
    inr (sym (one_number l.high m.high p.1) ∙ j.0, sym (one_number l.low m.low p.0) ∙ j.1)

pub into_real : (q : Protocol) (es : List Edge) (groups : List ℕ) (count : ℕ) (links : List QLink) → CarriesActs es groups count links →
    (l : QLink) (g h k : ℕ) → Contains links l → IsJoined l g h → edge_into q links g l ≡ Some k → IsEdgeAt es groups k g h
unfolding edge_into
into_real OverBgp es groups count links carries l g h k has joined e = carries.real l g h k has joined e
into_real OverOspf es groups count links carries l g h k has joined e = elim (or_else_is (side_of g l) (last_into links g l) k e) [
  | inl a ↦ carries.real l g h k has joined a
  | inr b ↦ (let m = filter_map_in (side_of g) (filter (same_group_pair l) links) k (last_in _ k b) in let at = filter_in (same_group_pair l) links m.0 m.1 in
      carries.real m.0 g h k (contains_in links m.0 at.0) (same_ends l m.0 g h at.1 joined) m.2)
]

into_side : (q : Protocol) (links : List QLink) (l : QLink) (g k : ℕ) → side_of g l ≡ Some k → edge_into q links g l ≡ Some k
unfolding edge_into
into_side OverBgp links l g k e = e
into_side OverOspf links l g k e = ap (λ (o : Option ℕ). or_else o (last_into links g l)) e

pub listed_in : (o : Option ℕ) (f : ℕ → Edge) (e : Edge) → In (listed (option_map f o)) e → (k : ℕ) × (o ≡ Some k) × (f k ≡ e)
listed_in None f e h = absurd h
listed_in (Some k) f e (inl same) = (k, refl, same)
listed_in (Some k) f e (inr h) = absurd h

in_listed : (o : Option ℕ) (f : ℕ → Edge) (k : ℕ) → o ≡ Some k → In (listed (option_map f o)) (f k)
in_listed o f k e = subst (λ (p : Option ℕ). In (listed (option_map f p)) (f k)) (sym e) (inl refl)

module _ (S : Problem) (groups : List ℕ) (count : ℕ) (good : IsProblem S) (adm : IsAdmissible S groups) (numbered : IsNumbered groups count) where
  abbrev pub links : List QLink
  links = quotient_links S.edges groups count

  abbrev pub small : Problem
  small = small_of S groups count

  below : (u : ℕ) → u < count_of S → group_of groups u < count
  below u h = numbered.below u 0 (let t = adm.total in omega arith)

  inside_all : (e : Edge) → Contains S.edges e → IsInside groups count e
  inside_all e has = let is = good.edges.inside e has in record { importer = below e.importer is.importer_in; exporter = below e.exporter is.exporter_in }

  pub carries : CarriesActs S.edges groups count links
  unfolding links
  carries = quotient_carries S.edges groups count inside_all

  first : (u : ℕ) → u < count_of S → IsFirst groups (group_of groups u) (first_member groups (group_of groups u))
  first u h = first_is groups (group_of groups u) u (let t = adm.total in omega arith) refl

  pub size : count_of small ≡ count
  unfolding small quotient_problem
  size = length-map (range_with_len 0 count) (number_of_group S groups (quotient_links S.edges groups count)) ∙ length-range_with_len 0 count

  start_is : (g : ℕ) → g < count_of small → initial small g ≡ initial S (first_member groups g)
  unfolding small quotient_problem
  start_is g h = at_group (λ g. initial S (first_member groups g)) None count g (let s = size in omega arith)

  -- an edge of the small problem is that of some link
  pub record IsOfLink (lower : Edge) : Type 0 where
    pub place : ℕ
    pub l : QLink
    pub l_at : slice_get links place ≡ Some l
    pub l_in : Contains links l
    pub g : ℕ
    pub h : ℕ
    pub k : ℕ
    pub joined : IsJoined l g h
    pub into : edge_into S.protocol links g l ≡ Some k
    pub is : lower_edge S.edges place g h k ≡ lower

  pub of_link : (lower : Edge) → In small.edges lower → IsOfLink lower
  unfolding small quotient_problem quotient_edges links
  of_link lower at =
      let all = flat_map (edges_of_link S.protocol S.edges (quotient_links S.edges groups count)) (enumerate_from 0 (quotient_links S.edges groups count)) in
      let inner = by_key_in exporter_of count all lower (by_key_in importer_of count (by_key exporter_of count all) lower at) in
      let t = flat_map_in (edges_of_link S.protocol S.edges (quotient_links S.edges groups count)) (enumerate_from 0 (quotient_links S.edges groups count))
      lower inner in
      let n = enumerate_in (quotient_links S.edges groups count) 0 t.0.0 t.0.1 t.1 in
      let has = contains_in (quotient_links S.edges groups count) t.0.1 (get_in (quotient_links S.edges groups count) n.0 t.0.1 n.2) in
      let at_place : slice_get (quotient_links S.edges groups count) t.0.0 ≡ Some t.0.1 =
      (let same : n.0 ≡ t.0.0 = (let e = n.1 in omega arith) in subst (λ (p : ℕ). slice_get (quotient_links S.edges groups count) p ≡ Some t.0.1) same n.2)
      in
      elim (append_in (listed (option_map (lower_edge S.edges t.0.0 t.0.1.low t.0.1.high)
      (edge_into S.protocol (quotient_links S.edges groups count) t.0.1.low t.0.1)))
      (listed (option_map (lower_edge S.edges t.0.0 t.0.1.high t.0.1.low) (edge_into S.protocol (quotient_links S.edges groups count) t.0.1.high t.0.1)))
      lower t.2) [
        | inl a ↦ (let k = listed_in (edge_into S.protocol (quotient_links S.edges groups count) t.0.1.low t.0.1)
            (lower_edge S.edges t.0.0 t.0.1.low t.0.1.high) lower a in
            record {
              place = t.0.0;
              l = t.0.1;
              l_at = at_place;
              l_in = has;
              g = t.0.1.low;
              h = t.0.1.high;
              k = k.0;
              joined = inl (refl, refl);
              into = k.1;
              is =
                  k.2;
            })
        | inr b ↦ (let k = listed_in (edge_into S.protocol (quotient_links S.edges groups count) t.0.1.high t.0.1)
            (lower_edge S.edges t.0.0 t.0.1.high t.0.1.low) lower b in
            record {
              place = t.0.0;
              l = t.0.1;
              l_at = at_place;
              l_in = has;
              g = t.0.1.high;
              h = t.0.1.low;
              k = k.0;
              joined = inr (refl, refl);
              into = k.1;
              is =
                  k.2;
            })
      ]

  apart : (l : QLink) (g h : ℕ) → Contains links l → IsJoined l g h → g ≢ h
  apart l g h has (inl j) e = let b = (carries.below l has).ordered in let x = j.0 in let y = j.1 in absurd (omega arith)
  apart l g h has (inr j) e = let b = (carries.below l has).ordered in let x = j.0 in let y = j.1 in absurd (omega arith)

  same_acts : (act : ℕ) → act_of small (record { importer = 0; exporter = 0; act = act; link = 0 }) ≡ slice_index_or S.acts act (Cost 0)
  unfolding small quotient_problem
  same_acts act = refl

  down : (lower : Edge) → Contains small.edges lower → (edge : Edge) × Contains S.edges edge × Lies S small groups edge lower
  down lower has =
      let o = of_link lower (in_contains small.edges lower has) in
      let d = (into_real S.protocol S.edges groups count links carries o.l o.g o.h o.k o.l_in o.joined o.into).between in (
        d.edge,
        d.has,
        record {
          importer = d.importer ∙ ap (λ (e : Edge). e.importer) o.is;
          exporter = d.exporter ∙ ap (λ (e : Edge). e.exporter) o.is;
          differ = (λ e. apart o.l o.g o.h o.l_in o.joined (ap (λ (x : Edge). x.importer) o.is ∙ e ∙ sym (ap (λ (x : Edge). x.exporter) o.is)));
          alike = subst (λ (a : Act). ActsAlike (act_of S d.edge) a) (ap (λ (n : ℕ). slice_index_or S.acts n (Cost 0)) (d.does ∙ ap (λ (x : Edge). x.act) o.is)
              ∙ sym (same_acts lower.act)) (alike_refl (act_of S d.edge));
        },
      )

  in_small : (place : ℕ) (l : QLink) (g h k : ℕ) → slice_get links place ≡ Some l → IsJoined l g h → edge_into S.protocol links g l ≡ Some k →
      In small.edges (lower_edge S.edges place g h k)
  unfolding small quotient_problem quotient_edges links
  in_small place l g h k at joined into =
      let all = flat_map (edges_of_link S.protocol S.edges (quotient_links S.edges groups count)) (enumerate_from 0 (quotient_links S.edges groups count)) in
      let b = carries.below l (contains_in links l (get_in links place l at)) in
      let less = b.ordered in
      let within = b.inside in
      let here : In (edges_of_link S.protocol S.edges (quotient_links S.edges groups count) (place, l)) (lower_edge S.edges place g h k) =
      side g h joined into in
      let outer : In all (lower_edge S.edges place g h k) =
      in_flat_map (edges_of_link S.protocol S.edges (quotient_links S.edges groups count)) (enumerate_from 0 (quotient_links S.edges groups count))
      (place, l) (lower_edge S.edges place g h k) (in_enumerate_0 (quotient_links S.edges groups count) place l at) here in
      let ends = ends_below g h joined less within in
      in_by_key importer_of count (by_key exporter_of count all) (lower_edge S.edges place g h k)
      (in_by_key exporter_of count all (lower_edge S.edges place g h k) outer ends.1) ends.0
    where
      ends_below : (g h : ℕ) → IsJoined l g h → l.low < l.high → l.high < count → (g < count) × (h < count)
      ends_below g h (inl j) x y = let a = j.0 in let b = j.1 in (omega arith, omega arith)
      ends_below g h (inr j) x y = let a = j.0 in let b = j.1 in (omega arith, omega arith)

      side : (g h : ℕ) → IsJoined l g h → edge_into S.protocol (quotient_links S.edges groups count) g l ≡ Some k →
          In (edges_of_link S.protocol S.edges (quotient_links S.edges groups count) (place, l)) (lower_edge S.edges place g h k)
      side g h (inl j) e =
          let P : ℕ → ℕ → Type 0 = λ x y. In (edges_of_link S.protocol S.edges (quotient_links S.edges groups count) (place, l))
          (lower_edge S.edges place x y k) in
          let f : edge_into S.protocol (quotient_links S.edges groups count) l.low l ≡ Some k =
          ap (λ (x : ℕ). edge_into S.protocol (quotient_links S.edges groups count) x l) j.0 ∙ e in
          subst (P g) j.1 (subst (λ (x : ℕ). P x l.high) j.0
          (in_left _ _ _ (in_listed (edge_into S.protocol (quotient_links S.edges groups count) l.low l) (lower_edge S.edges place l.low l.high) k f)))
      side g h (inr j) e =
          let P : ℕ → ℕ → Type 0 = λ x y. In (edges_of_link S.protocol S.edges (quotient_links S.edges groups count) (place, l))
          (lower_edge S.edges place x y k) in
          let f : edge_into S.protocol (quotient_links S.edges groups count) l.high l ≡ Some k =
          ap (λ (x : ℕ). edge_into S.protocol (quotient_links S.edges groups count) x l) j.0 ∙ e in
          subst (P g) j.1 (subst (λ (x : ℕ). P x l.low) j.0
          (in_right _ _ _ (in_listed (edge_into S.protocol (quotient_links S.edges groups count) l.high l) (lower_edge S.edges place l.high l.low) k f)))

  up : (edge : Edge) → Contains S.edges edge → group_of groups edge.importer ≢ group_of groups edge.exporter → (lower : Edge) × Contains small.edges lower
      × Lies S small groups edge lower
  up edge has differ =
      let c = carries.kept (group_of groups edge.importer) (group_of groups edge.exporter) edge.act differ
      (record { edge = edge; has = has; importer = refl; exporter = refl; does = refl }) in
      let at = in_get links c.link (in_contains links c.link c.has) in
      let lower = lower_edge S.edges at.0 (group_of groups edge.importer) (group_of groups edge.exporter) c.edge in (
        lower,
        contains_in small.edges lower (in_small at.0 c.link (group_of groups edge.importer) (group_of groups edge.exporter) c.edge at.1 c.joined
            (into_side S.protocol links c.link (group_of groups edge.importer) c.edge c.side)),
        record {
          importer = refl;
          exporter = refl;
          differ = differ;
          alike = subst (λ (a : Act). ActsAlike (act_of S edge) a) (ap (λ (n : ℕ). slice_index_or S.acts n (Cost 0)) (sym c.does) ∙ sym (same_acts lower.act))
              (alike_refl (act_of S edge));
        },
      )

  names : (u : ℕ) → u < count_of S → IsFirstMember groups u → slice_index_or small.names (group_of groups u) [] ≡ slice_index_or S.names u []
  unfolding small quotient_problem
  names u h is =
      let f = first u h in
      at_group (λ g. slice_index_or S.names (first_member groups g) []) [] count (group_of groups u) (below u h)
      ∙ ap (λ (v : ℕ). slice_index_or S.names v []) (first_is_one groups u (first_member groups (group_of groups u)) is f)

  origins : (u : ℕ) → u < count_of S → initial small (group_of groups u) ≡ initial S u
  unfolding small quotient_problem
  origins u h =
      let f = first u h in
      at_group (λ g. initial S (first_member groups g)) None count (group_of groups u) (below u h)
      ∙ adm.origins (first_member groups (group_of groups u)) u (let i = f.inside in let t = adm.total in omega arith) h f.there

  marks : (u v : ℕ) → u < count_of S → v < count_of S → group_of groups u ≡ group_of groups v → is_lone S u ≡ is_lone S v
  marks u v hu hv same = elim (bool_cases (is_lone S u)) [
    | inl yes_ ↦ ap (is_lone S) (adm.alone u v hu hv same yes_)
    | inr not_ ↦ elim (bool_cases (is_lone S v)) [
      | inl other ↦ ap (is_lone S) (sym (adm.alone v u hv hu (sym same) other))
      | inr neither ↦ not_ ∙ sym neither
    ]
  ]

  lone : (u : ℕ) → u < count_of S → is_lone small (group_of groups u) ≡ is_lone S u
  unfolding small quotient_problem
  lone u h =
      let f = first u h in
      at_group (λ g. is_lone S (first_member groups g)) false count (group_of groups u) (below u h)
      ∙ marks (first_member groups (group_of groups u)) u (let i = f.inside in let t = adm.total in omega arith) h f.there

  onto : (g : ℕ) → g < count_of small → (u : ℕ) × (u < count_of S) × (group_of groups u ≡ g)
  onto g h =
      let c = in_get groups g (in_contains groups g (numbered.used g (let s = size in omega arith))) in
      (c.0, (let i = slice_get_within groups c.0 g c.1 in let t = adm.total in omega arith), get_or_from_slice_get groups c.0 g 0 c.1)

  number_is : (g : ℕ) → g < count_of small → number small g ≡ number_of_group S groups links g
  unfolding small quotient_problem links
  number_is g h = at_group (number_of_group S groups (quotient_links S.edges groups count)) 0 count g (let s = size in omega arith)

  touched : (l : QLink) (g h : ℕ) → IsJoined l g h → touches g l ≡ true
  touched l g h (inl j) = ap (λ (b : Bool). b || nat_eq l.high g) (eq-eqb l.low g j.0)
  touched l g h (inr j) = or_right (nat_eq l.low g) (nat_eq l.high g) (eq-eqb l.high g j.0)

  any_of : (ls : List QLink) (g : ℕ) (l : QLink) → In ls l → touches g l ≡ true → list_any (touches g) ls ≡ true
  any_of [] g l at e = absurd at
  any_of (m ∷ ls) g l (inl same) e = ap (λ (b : Bool). b || list_any (touches g) ls) (ap (touches g) same ∙ e)
  any_of (m ∷ ls) g l (inr at) e = or_right (touches g m) (list_any (touches g) ls) (any_of ls g l at e)

  other_joined : (l : QLink) (g h : ℕ) → IsJoined l g h → IsJoined l h g
  other_joined l g h (inl j) = inr (j.1, j.0)
  other_joined l g h (inr j) = inl (j.1, j.0)

  used_is : (g : ℕ) → g < count_of small → IsUsed small g → is_used S groups links g ≡ true
  used_is g h (originates r e) = ap (λ (o : Option Route). is_some o || list_any (touches g) links) (sym (start_is g h) ∙ e)
  used_is g h (imports e has same) = (let o = of_link e (in_contains small.edges e has) in
      or_right (is_some (initial S (first_member groups g))) (list_any (touches g) links)
      (any_of links g o.l (in_contains links o.l o.l_in) (ap (λ (x : ℕ). touches x o.l) (sym same ∙ sym (ap (λ (x : Edge). x.importer) o.is))
      ∙ touched o.l o.g o.h o.joined)))
  used_is g h (exports e has same) = (let o = of_link e (in_contains small.edges e has) in
      or_right (is_some (initial S (first_member groups g))) (list_any (touches g) links)
      (any_of links g o.l (in_contains links o.l o.l_in) (ap (λ (x : ℕ). touches x o.l) (sym same ∙ sym (ap (λ (x : Edge). x.exporter) o.is))
      ∙ touched o.l o.h o.g (other_joined o.l o.g o.h o.joined))))

  is_used_of : (g : ℕ) → g < count_of small → is_used S groups links g ≡ true → IsUsed small g
  is_used_of g h e = elim (or_cases (is_some (initial S (first_member groups g))) (list_any (touches g) links) e) [
    | inl starts ↦ (let r = some_of (initial S (first_member groups g)) starts in originates r.0 (start_is g h ∙ r.1))
    | inr linked ↦ by_link (any_in links g linked)
  ]
    where
      by_link : (l : QLink) × In links l × (touches g l ≡ true) → IsUsed small g
      by_link w = elim (or_cases (nat_eq w.0.low g) (nat_eq w.0.high g) w.2) [
        | inl low ↦ at_end w.0 w.0.high (contains_in links w.0 w.1) (inl (one_number w.0.low g low, refl))
        | inr high ↦ at_end w.0 w.0.low (contains_in links w.0 w.1) (inr (one_number w.0.high g high, refl))
      ]
        where
          at_end : (l : QLink) (other : ℕ) → Contains links l → IsJoined l g other → IsUsed small g
          at_end l other has joined = (let at = in_get links l (in_contains links l has) in elim (option_cases (side_of g l)) [
            | inr there ↦ imports (lower_edge S.edges at.0 g other there.0)
                (contains_in small.edges _ (in_small at.0 l g other there.0 at.1 joined (into_side S.protocol links l g there.0 there.1))) refl
            | inl none ↦ (let k = carries.used l g other has joined none in
                exports (lower_edge S.edges at.0 other g k.0)
                (contains_in small.edges _ (in_small at.0 l other g k.0 at.1 (other_joined l g other joined) (into_side S.protocol links l other k.0 k.1)))
                refl)
          ])

  numbers : (g : ℕ) → g < count_of small → IsUsed small g → number small g ≡ first_number S.numbers groups g
  numbers g h used = number_is g h ∙ ap (λ (b : Bool). if b then first_number S.numbers groups g else 0) (used_is g h used)

  unused : (g : ℕ) → g < count_of small → ¬ IsUsed small g → number small g ≡ 0
  unused g h none = elim (bool_cases (is_used S groups links g)) [
    | inl used ↦ absurd (none (is_used_of g h used))
    | inr not_used ↦ number_is g h ∙ ap (λ (b : Bool). if b then first_number S.numbers groups g else 0) not_used
  ]

  pub quotient : IsQuotient S groups (small_of S groups count)
  unfolding small quotient_problem
  quotient = record {
    protocol = refl;
    inside = λ u h. (let b = below u h in let s = size in omega arith);
    onto = onto;
    names = names;
    origins = origins;
    lone = lone;
    down = down;
    up = up;
    numbers = numbers;
    unused = unused;
  }

pub quotient_is_quotient : QuotientIsQuotient
quotient_is_quotient S groups count good adm numbered = quotient S groups count good adm numbered
