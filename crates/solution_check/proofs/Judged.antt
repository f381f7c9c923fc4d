-- What the weights of candidates say of a router.
use Rattle.std.proofs.Common.{◌≡◌, ◌≢◌, ◌⊎◌, ℕ, ◌<◌, Bool, true, false, cond, not, ◌||◌, List, [], ◌∷◌, length, refl, sym, ap, ◌∙◌, subst, arith, get_or, Option, Some, None, option_and_then, inl, inr, true≢false}
use Rattle.std.specs.List.{list_any, filter_map, cons_option}
use Rattle.std.specs.Ordering.{is_lt}
use Rattle.std.specs.declared.cmp.Ordering.{Ordering}
use Rattle.std.specs.declared.cmp.Ordering.TheVariants.{Less, Equal, Greater}
use Rattle.std.proofs.lemmas.List.{get_or_default}
use Rattle.base_kit.specs.declared.act_graph.Edge.{Edge}
use Rattle.base_kit.specs.declared.protocol.Protocol.{Protocol}
use Rattle.base_kit.specs.declared.protocol.Protocol.TheVariants.{Bgp as OverBgp, Ospf as OverOspf}
use Rattle.base_kit.proofs.Elements.{In, contains_in, in_contains, in_filter_map, filter_map_in}
use Rattle.srp_core.specs.declared.route.Route.{Route}
use Rattle.srp_core.specs.Routes.{path_of, is_on, compare_keys}
use Rattle.srp_core.specs.Problem.{Problem, count, number, initial, step_over, key_of}
use Rattle.srp_core.specs.Stability.{label, AreLabels, IsCandidateOver, IsCandidate, of_init, of_edge, IsStable}
use Rattle.srp_core.specs.Candidates.{passed, over}
use Rattle.route_keys.specs.Same.{same_route}
use Rattle.route_keys.proofs.Same.{same_true, same_self}
use Rattle.solution_check.specs.Breaks.{HasWrongOrigin, HasNoCandidate, HasBetterCandidate, LacksLabel, HoldsBest}
use Rattle.route_offers.specs.Offers.{AreOwn}
use Rattle.solution_check.specs.Offers.{routes_of, is_label, beats_label, always, is_wrong_origin}

pub is_less : (o : Ordering) → is_lt o ≡ true → o ≡ Less
is_less Less e = refl
is_less Equal e = absurd (true≢false (sym e))
is_less Greater e = absurd (true≢false (sym e))

-- ---- some of a list

any_by : {X : Type 0} (test : X → Bool) (x : X) (xs : List X) (b : Bool) → test x ≡ b → (list_any test xs ≡ true → (y : X) × In xs y × (test y ≡ true)) →
    list_any test (x ∷ xs) ≡ true → (y : X) × In (x ∷ xs) y × (test y ≡ true)
any_by test x xs true t rest e = (x, inl refl, t)
any_by test x xs false t rest e = let r = rest (sym (ap (λ (b : Bool). b || list_any test xs) t) ∙ e) in (r.0, inr r.1, r.2)

any_in : {X : Type 0} (test : X → Bool) (xs : List X) → list_any test xs ≡ true → (y : X) × In xs y × (test y ≡ true)
any_in test [] e = absurd (true≢false (sym e))
any_in test (x ∷ xs) e = any_by test x xs (test x) refl (any_in test xs) e

or_parts : (a b : Bool) → (a || b) ≡ false → (a ≡ false) × (b ≡ false)
or_parts true b e = absurd (true≢false e)
or_parts false b e = (refl, e)

none_in : {X : Type 0} (test : X → Bool) (xs : List X) (y : X) → list_any test xs ≡ false → In xs y → test y ≡ false
none_in test [] y e i = absurd i
none_in test (x ∷ xs) y e (inl here) = ap test (sym here) ∙ (or_parts (test x) (list_any test xs) e).0
none_in test (x ∷ xs) y e (inr later) = none_in test xs y (or_parts (test x) (list_any test xs) e).1 later

-- ---- what an edge gives

passed_is : (r c : Route) (b : Bool) → cond b None (Some r) ≡ Some c → (b ≡ false) × (r ≡ c)
passed_is r c true e = absurd (cc)
passed_is r c false e = (refl, cc)

then_some : (o : Option Route) (f : Route → Option Route) (c : Route) → option_and_then f o ≡ Some c → (r : Route) × (o ≡ Some r) × (f r ≡ Some c)
then_some None f c e = absurd (cc)
then_some (Some r) f c e = (r, refl, e)

over_candidate : (P : Problem) (L : List (Option Route)) (e : Edge) (c : Route) → over P L e ≡ Some c → IsCandidateOver P L e c
over_candidate P L e c h =
    let a = then_some (label L e.exporter) (λ from. option_and_then (passed (number P e.importer)) (step_over P e from)) c h in
    let b = then_some (step_over P e a.0) (passed (number P e.importer)) c a.2 in
    let d = passed_is b.0 c (is_on (number P e.importer) (path_of b.0)) b.2 in
    record {
      from = a.0;
      labelled = a.1;
      stepped = b.1 ∙ ap (λ (r : Route). Some r) d.1;
      passes =
          ap (λ (r : Route). is_on (number P e.importer) (path_of r)) (sym d.1) ∙ d.0;
    }

candidate_over : (P : Problem) (L : List (Option Route)) (e : Edge) (c : Route) → IsCandidateOver P L e c → over P L e ≡ Some c
candidate_over P L e c o =
    let f = λ (from : Route). option_and_then (passed (number P e.importer)) (step_over P e from) in
    ap (option_and_then f) o.labelled ∙ ap (option_and_then (passed (number P e.importer))) o.stepped ∙ ap (λ (b : Bool). cond b None (Some c)) o.passes

-- ---- the candidates of a router, by its own edges

module _ (P : Problem) (L : List (Option Route)) (u : ℕ) (own : List Edge) (are : AreOwn P u own) where
  cons_in : (o : Option Route) (routes : List Route) (c : Route) → In (cons_option o routes) c → (o ≡ Some c) ⊎ In routes c
  cons_in None routes c i = inr i
  cons_in (Some r) routes c (inl here) = inl (ap (λ (x : Route). Some x) here)
  cons_in (Some r) routes c (inr later) = inr later

  in_cons : (o : Option Route) (routes : List Route) (c : Route) → (o ≡ Some c) ⊎ In routes c → In (cons_option o routes) c
  in_cons None routes c (inl e) = absurd (cc)
  in_cons None routes c (inr i) = i
  in_cons (Some r) routes c (inl e) = let same : r ≡ c = cc in inl same
  in_cons (Some r) routes c (inr i) = inr i

  pub candidate_of : (c : Route) → In (routes_of P L u own) c → IsCandidate P L u c
  candidate_of c i = elim (cons_in (initial P u) (filter_map (over P L) own) c i) [
    | inl e ↦ of_init e
    | inr j ↦
        let f = filter_map_in (over P L) own c j in
        let o = are.only f.0 (contains_in own f.0 f.1) in
        of_edge f.0 o.0 o.1 (over_candidate P L f.0 c f.2)
  ]

  pub listed : (c : Route) → IsCandidate P L u c → In (routes_of P L u own) c
  listed c (of_init e) = in_cons (initial P u) (filter_map (over P L) own) c (inl e)
  listed c (of_edge edge i imp o) = in_cons (initial P u) (filter_map (over P L) own) c
      (inr (in_filter_map (over P L) own edge c (in_contains own edge (are.all edge i imp)) (candidate_over P L edge c o)))

  pub not_held : (r : Route) → label L u ≡ Some r → list_any (is_label r) (routes_of P L u own) ≡ false → HasNoCandidate P L u
  not_held r e none = record {
    route = r;
    labelled = e;
    other =
        λ c. true≢false (sym (same_self r) ∙ none_in (is_label r) (routes_of P L u own) r none (listed r c));
  }

  pub held : (r : Route) → list_any (is_label r) (routes_of P L u own) ≡ true → IsCandidate P L u r
  held r some =
      let f = any_in (is_label r) (routes_of P L u own) some in
      subst (IsCandidate P L u) (same_true f.0 r f.2) (candidate_of f.0 f.1)

  pub beaten : (r : Route) → label L u ≡ Some r → list_any (beats_label P r) (routes_of P L u own) ≡ true → HasBetterCandidate P L u
  beaten r e some =
      let f = any_in (beats_label P r) (routes_of P L u own) some in
      record { route = r; labelled = e; candidate = f.0; is_candidate = candidate_of f.0 f.1; beats = is_less (compare_keys (key_of P f.0) (key_of P r)) f.2 }

  pub not_beaten : (r c : Route) → list_any (beats_label P r) (routes_of P L u own) ≡ false → IsCandidate P L u c
      → compare_keys (key_of P c) (key_of P r) ≢ Less
  not_beaten r c none is less = true≢false (sym (ap is_lt less) ∙ none_in (beats_label P r) (routes_of P L u own) c none (listed c is))

  pub has_one : label L u ≡ None → list_any always (routes_of P L u own) ≡ true → LacksLabel P L u
  has_one e some = let f = any_in always (routes_of P L u own) some in record { none = e; candidate = f.0; is_candidate = candidate_of f.0 f.1 }

  pub has_none : (c : Route) → list_any always (routes_of P L u own) ≡ false → ¬ IsCandidate P L u c
  has_none c none is = true≢false (none_in always (routes_of P L u own) c none (listed c is))

  pub fine_without : label L u ≡ None → list_any always (routes_of P L u own) ≡ false → HoldsBest P L u
  fine_without e none = record {
    none = λ c without. has_none c none;
    held = λ r e'. absurd (let x : None ≡ Some r = sym e ∙ e' in cc);
    best = λ r c e'. absurd (let x : None ≡ Some r = sym e ∙ e' in cc);
  }

  one_label : (r s : Route) → label L u ≡ Some r → label L u ≡ Some s → r ≡ s
  one_label r s e e' = cc

  pub fine_with : (r : Route) → label L u ≡ Some r → list_any (is_label r) (routes_of P L u own) ≡ true
      → list_any (beats_label P r) (routes_of P L u own) ≡ false →
      HoldsBest P L u
  fine_with r e some none = record {
    none = λ c e'. absurd (let x : Some r ≡ None = sym e ∙ e' in cc);
    held = λ s e'. subst (IsCandidate P L u) (one_label r s e e') (held r some);
    best = λ s c e' is. subst (λ (t : Route). compare_keys (key_of P c) (key_of P t) ≢ Less) (one_label r s e e') (not_beaten r c none is);
  }

  pub not_lacking : (r : Route) → list_any (is_label r) (routes_of P L u own) ≡ true → label L u ≡ Some r → ¬ HasNoCandidate P L u
  not_lacking r some e h = h.other (subst (IsCandidate P L u) (one_label r h.route e h.labelled) (held r some))

-- ---- origins

origin_by : (protocol : Protocol) (start held : Option Route) → is_wrong_origin protocol start held ≡ true → (protocol ≡ OverBgp)
    × ((r : Route) × (start ≡ Some r) × (held ≢ Some r))
origin_by OverBgp None held e = absurd (true≢false (sym e))
origin_by OverBgp (Some r) None e = (refl, (r, refl, λ h. cc))
origin_by OverBgp (Some r) (Some s) e = (refl, (r, refl, λ h. true≢false (sym e ∙ ap not (ap (same_route r) (let x : s ≡ r = cc in x) ∙ same_self r))))
origin_by OverOspf start held e = absurd (true≢false (sym e))

pub wrong_start : (P : Problem) (L : List (Option Route)) (u : ℕ) → is_wrong_origin P.protocol (initial P u) (label L u) ≡ true → HasWrongOrigin P L u
wrong_start P L u e = let o = origin_by P.protocol (initial P u) (label L u) e in record { protocol = o.0; route = o.1.0; starts = o.1.1; other = o.1.2 }

right_by : (protocol : Protocol) (start held : Option Route) (r : Route) → is_wrong_origin protocol start held ≡ false → protocol ≡ OverBgp → start ≡ Some r →
    held ≡ Some r
right_by OverBgp None held r e p s = absurd (cc)
right_by OverBgp (Some q) None r e p s = absurd (true≢false e)
right_by OverBgp (Some q) (Some t) r e p s = ap (λ (x : Route). Some x) (sym (same_true q t (turned (same_route q t) e)) ∙ (let x : q ≡ r = cc in x))
  where
    turned : (b : Bool) → not b ≡ false → b ≡ true
    turned true f = refl
    turned false f = absurd (true≢false f)
right_by OverOspf start held r e p s = absurd (cc)

pub right_start : (P : Problem) (L : List (Option Route)) (u : ℕ) → is_wrong_origin P.protocol (initial P u) (label L u) ≡ false → ¬ HasWrongOrigin P L u
right_start P L u e h = h.other (right_by P.protocol (initial P u) (label L u) h.route e h.protocol h.starts)

-- ---- what is read at a place

pub read_at : (xs ys : List (Option Route)) (u : ℕ) (r : Option Route) → ys ≡ xs → u < length xs → r ≡ get_or ys u r → label xs u ≡ r
read_at xs ys u r same lt is =
    let lt' : u < length ys = omega (arith, ap length same) in
    sym (is ∙ sym (get_or_default ys u None r lt') ∙ ap (λ (l : List (Option Route)). get_or l u None) same)

pub not_true : (b : Bool) → not b ≡ true → b ≡ false
not_true true e = sym e
not_true false e = refl

pub not_false : (b : Bool) → not b ≡ false → b ≡ true
not_false true e = refl
not_false false e = sym e

-- ---- all routers

-- all routers hold the best
pub all_hold : (P : Problem) (L : List (Option Route)) → AreLabels P L → ((v : ℕ) → v < count P → HoldsBest P L v) → IsStable P L
all_hold P L fits hold = record {
  fitting = fits;
  none = λ u c lt e. (hold u lt).none c e;
  held = λ u r lt e. (hold u lt).held r e;
  best = λ u r c lt e is. (hold u lt).best r c e is;
}
