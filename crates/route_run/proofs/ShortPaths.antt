-- Paths are short in every run: a number stands on a path at most p + 1 times, if imports prepend at
-- most p numbers.
use Rattle.std.proofs.Common.{◌≡◌, ◌≢◌, ◌⊎◌, ℕ, zero, suc, ◌+◌, ◌*◌, ◌-◌, ◌<◌, ◌≤◌, Bool, true, false, cond, List, [], ◌∷◌, length, get_or, Option, Some, refl, sym, ap, ◌∙◌, subst, arith, inl, inr, suc-mul}
use Rattle.std.specs.Prelude.{Contains, nat_eq, remove}
use Rattle.std.proofs.lemmas.Bool.{cases_eq, cases_lt, eqb-false, eq-eqb, ne_eqb, cond-true, cond-false}
use Rattle.std.proofs.lemmas.List.Edits.{length-remove, get_or-remove_below, get_or-remove_above}
use Rattle.base_kit.specs.declared.protocol.Protocol.TheVariants.{Bgp as OverBgp}
use Rattle.base_kit.proofs.Elements.{In, in_contains}
use Rattle.base_kit.specs.declared.act_graph.Edge.{Edge}
use Rattle.srp_core.specs.declared.route.Route.{Route}
use Rattle.srp_core.specs.declared.route.Route.TheVariants.{Bgp, Ospf}
use Rattle.srp_core.specs.declared.route.Act.{Act}
use Rattle.srp_core.specs.declared.route.Act.TheVariants.{Import, Cost}
use Rattle.srp_core.specs.Routes.{size_of, path_of, is_on, IsRouteOf}
use Rattle.srp_core.specs.Acts.{import_by, prepended, step_by}
use Rattle.srp_core.specs.Problem.{Problem, count, number, initial, act_of, IsProblem}
use Rattle.srp_core.specs.Stability.{label, AreLabels, IsCandidate, of_init, of_edge}
use Rattle.srp_core.proofs.Steps.{arrives, bgp_size}
use Rattle.route_run.specs.Activations.{activated, labels_after}
use Rattle.route_run.specs.Rounds.{PrependsAtMost}
use Rattle.route_run.proofs.AtRest.{chosen_candidate, at_activated, activated_labels}

-- ---- counting

abbrev pub times : ℕ → List ℕ → ℕ
times x [] = 0
times x (y ∷ ys) = cond (nat_eq y x) (suc (times x ys)) (times x ys)

abbrev others : ℕ → List ℕ → List ℕ
others d [] = []
others d (y ∷ ys) = cond (nat_eq y d) (others d ys) (y ∷ others d ys)

length_by : (d y : ℕ) (ys : List ℕ) (b : Bool) → nat_eq y d ≡ b → length ys ≡ length (others d ys) + times d ys →
    length (y ∷ ys) ≡ length (others d (y ∷ ys)) + times d (y ∷ ys)
length_by d y ys true e rest = rw e (omega (arith, rest))
length_by d y ys false e rest = rw e (omega (arith, rest))

length_parts : (d : ℕ) (l : List ℕ) → length l ≡ length (others d l) + times d l
length_parts d [] = refl
length_parts d (y ∷ ys) = length_by d y ys (nat_eq y d) refl (length_parts d ys)

others_by : (d y x : ℕ) (ys : List ℕ) (b : Bool) → nat_eq y d ≡ b → (In (others d ys) x → In ys x × (x ≢ d)) → In (others d (y ∷ ys)) x →
    In (y ∷ ys) x × (x ≢ d)
others_by d y x ys true e rest i = let w : In (others d ys) x = rw e at i in let r = rest w in (inr r.0, r.1)
others_by d y x ys false e rest i = let w : In (y ∷ others d ys) x = rw e at i in elim w [
  | inl same ↦ (inl same, λ xd. eqb-false y d e (same ∙ xd))
  | inr later ↦ (let r = rest later in (inr r.0, r.1))
]

in_others : (d x : ℕ) (l : List ℕ) → In (others d l) x → In l x × (x ≢ d)
in_others d x [] i = absurd i
in_others d x (y ∷ ys) i = others_by d y x ys (nat_eq y d) refl (in_others d x ys) i

fewer_by : (d y x : ℕ) (ys : List ℕ) (b c : Bool) → nat_eq y d ≡ b → nat_eq y x ≡ c → times x (others d ys) ≤ times x ys →
    times x (others d (y ∷ ys)) ≤ times x (y ∷ ys)
fewer_by d y x ys true true e f rest = rw (e, f) (omega (arith, rest))
fewer_by d y x ys true false e f rest = rw (e, f) rest
fewer_by d y x ys false true e f rest = rw e (rw f (omega (arith, rest)))
fewer_by d y x ys false false e f rest = rw e (rw f rest)

fewer : (d x : ℕ) (l : List ℕ) → times x (others d l) ≤ times x l
fewer d x [] = omega arith
fewer d x (y ∷ ys) = fewer_by d y x ys (nat_eq y d) (nat_eq y x) refl refl (fewer d x ys)

nothing_in : (l : List ℕ) → ((x : ℕ) → ¬ In l x) → length l ≡ 0
nothing_in [] h = refl
nothing_in (y ∷ ys) h = absurd (h y (inl refl))

-- a list of numbers among those of another one, each at most k times
pub counting : (D l : List ℕ) (k : ℕ) → ((x : ℕ) → In l x → In D x) → ((x : ℕ) → times x l ≤ k) → length l ≤ length D * k
counting [] l k among few = let e = nothing_in l (λ x i. among x i) in omega (arith, e)
counting (d ∷ D) l k among few =
    let rest = counting D (others d l) k
    (λ x i. (let o = in_others d x l i in elim (among x o.0) [ inl same ↦ absurd (o.1 (sym same)) | inr later ↦ later ]))
    (λ x. (let a = fewer d x l in let b = few x in omega arith)) in
    let parts = length_parts d l in
    let here = few d in
    let product = suc-mul (length D) k in
    omega arith

-- ---- prepending

times_more : (x a m : ℕ) (path : List ℕ) → x ≢ a → times x (prepended m a path) ≡ times x path
times_more x a zero path differ = refl
times_more x a (suc m) path differ = cond-false (nat_eq a x) (suc (times x (prepended m a path))) (times x (prepended m a path))
    (ne_eqb a x (λ e. differ (sym e))) ∙ times_more x a m path differ

times_own : (a m : ℕ) (path : List ℕ) → times a (prepended m a path) ≡ m + times a path
times_own a zero path = omega arith
times_own a (suc m) path = cond-true (nat_eq a a) (suc (times a (prepended m a path))) (times a (prepended m a path)) (eq-eqb a a refl)
    ∙ (let r = times_own a m path in omega arith)

not_on_by : (a y : ℕ) (path : List ℕ) (b : Bool) → nat_eq y a ≡ b → is_on a (y ∷ path) ≡ false → (is_on a path ≡ false → times a path ≡ 0) →
    times a (y ∷ path) ≡ 0
not_on_by a y path true e off rest = absurd (let w = rw e at off in cc)
not_on_by a y path false e off rest = let w : is_on a path ≡ false = rw e at off in rw e (rest w)

not_on : (a : ℕ) (path : List ℕ) → is_on a path ≡ false → times a path ≡ 0
not_on a [] off = refl
not_on a (y ∷ path) off = not_on_by a y path (nat_eq y a) refl off (not_on a path)

in_prepended : (x a m : ℕ) (path : List ℕ) → In (prepended m a path) x → (x ≡ a) ⊎ In path x
in_prepended x a zero path i = inr i
in_prepended x a (suc m) path (inl same) = inl (sym same)
in_prepended x a (suc m) path (inr later) = in_prepended x a m path later

on_by : (a y : ℕ) (path : List ℕ) (b : Bool) → nat_eq y a ≡ b → (In path a → is_on a path ≡ true) → In (y ∷ path) a → is_on a (y ∷ path) ≡ true
on_by a y path true e rest i = rw e refl
on_by a y path false e rest (inl same) = absurd (eqb-false y a e same)
on_by a y path false e rest (inr later) = rw e (rest later)

on_path : (a : ℕ) (path : List ℕ) → In path a → is_on a path ≡ true
on_path a [] i = absurd i
on_path a (y ∷ path) i = on_by a y path (nat_eq y a) refl (on_path a path) i

-- ---- the path of a candidate

record Prepends (P : Problem) (e : Edge) (from c : Route) (p : ℕ) : Type 0 where
  more : ℕ
  few : more ≤ p
  path : path_of c ≡ prepended (suc more) (number P e.exporter) (path_of from)

no_step : (cost number lp : ℕ) (path comms : List ℕ) (c : Route) → step_by (Cost cost) number (Bgp lp path comms) ≡ Some c → ⊥
unfolding step_by
no_step cost number lp path comms c e = cc

step_prepends : (P : Problem) (p : ℕ) → PrependsAtMost P p → (e : Edge) (act : Act) (from c : Route) → act_of P e ≡ act → Contains P.edges e →
    IsRouteOf OverBgp from → step_by act (number P e.exporter) from ≡ Some c → Prepends P e from c p
step_prepends P p most e (Import out sends into) (Bgp lp path comms) c is i fits step =
    let a = arrives out sends into (number P e.exporter) lp path comms c step in
    record {
      more = a.imported.adds;
      few = most.most e comms a.imported i fits (subst (λ x. import_by x comms ≡ Some a.imported) (sym is) a.accepted);
      path = ap path_of a.is;
    }
step_prepends P p most e (Cost cost) (Bgp lp path comms) c is i fits step = absurd (no_step cost (number P e.exporter) lp path comms c step)
step_prepends P p most e act (Ospf cost) c is i fits step = absurd fits

-- the path has no number of the router, and numbers of others, each a few times
pub record IsPlain (P : Problem) (p u : ℕ) (r : Route) : Type 0 where
  pub own : is_on (number P u) (path_of r) ≡ false
  pub known : (x : ℕ) → In (path_of r) x → (w : ℕ) × (w < count P) × (number P w ≡ x)
  pub few : (x : ℕ) → times x (path_of r) ≤ p + 1

module _ (P : Problem) (good : IsProblem P) (bgp : P.protocol ≡ OverBgp) (p : ℕ) (most : PrependsAtMost P p) where
  plain_init : (u : ℕ) (c : Route) → initial P u ≡ Some c → IsPlain P p u c
  plain_init u c e =
      let empty = good.starts.paths u c e in
      record {
        own = ap (is_on (number P u)) empty;
        known = λ x i. absurd (subst (λ (l : List ℕ). In l x) empty i);
        few = λ x. (let t = ap (times x) empty in omega arith);
      }

  pub plain_candidate : (E : List (Option Route)) (u : ℕ) (c : Route) → AreLabels P E → ((v : ℕ) (r : Route) → label E v ≡ Some r → IsPlain P p v r) →
      IsCandidate P E u c → IsPlain P p u c
  plain_candidate E u c fits plain (of_init e) = plain_init u c e
  plain_candidate E u c fits plain (of_edge e i imp over) =
      let from = plain e.exporter over.from over.labelled in
      let route : IsRouteOf OverBgp over.from = subst (λ q. IsRouteOf q over.from) bgp (fits.routes e.exporter over.from over.labelled) in
      let s = step_prepends P p most e (act_of P e) over.from c refl i route over.stepped in
      let m = suc s.more in
      let a = number P e.exporter in
      record {
        own = subst (λ v. is_on (number P v) (path_of c) ≡ false) imp over.passes;
        known = λ x h. elim (in_prepended x (number P e.exporter) (suc s.more) (path_of over.from) (subst (λ (l : List ℕ). In l x) s.path h)) [
          | inl same ↦ (e.exporter, (good.edges.inside e i).exporter_in, sym same)
          | inr later ↦ from.known x later
        ];
        few = λ x. (let is = ap (times x) s.path in
            elim (cases_eq x (number P e.exporter)) [
              | inl same ↦
                  let none = not_on (number P e.exporter) (path_of over.from) from.own in
                  let own = times_own (number P e.exporter) (suc s.more) (path_of over.from) in
                  let here = ap (λ y. times y (prepended (suc s.more) (number P e.exporter) (path_of over.from))) same in
                  let k = s.few in omega arith
              | inr differ ↦
                  let other = times_more x (number P e.exporter) (suc s.more) (path_of over.from) differ in
                  let f = from.few x in omega arith
            ]);
      }

  pub plain_after : (run : List ℕ) (E : List (Option Route)) → AreLabels P E → ((v : ℕ) (r : Route) → label E v ≡ Some r → IsPlain P p v r) →
      (v : ℕ) (r : Route) → label (labels_after P E run) v ≡ Some r → IsPlain P p v r
  plain_after [] E fits plain = plain
  plain_after (u ∷ run) E fits plain = plain_after run (activated P E u) (activated_labels P good E u fits) (λ v r e. elim (at_activated P E u v r e) [
    | inl new ↦ subst (λ w. IsPlain P p w r) (sym new.0) (plain_candidate E u r fits plain (chosen_candidate P good E u r new.1))
    | inr old ↦ plain v r old
  ])

  removed_in : (numbers : List ℕ) (u w : ℕ) → u < length numbers → w < length numbers → w ≢ u → In (remove numbers u) (get_or numbers w 0)
  removed_in numbers u w inside there differ =
      let total = length-remove numbers u inside in
      elim (cases_lt w u) [
        | inl below ↦
            let at = get_or-remove_below numbers u (get_or numbers w 0) w below inside in
            in_contains (remove numbers u) (get_or numbers w 0)
            (w, omega arith, at ∙ Rattle.std.proofs.lemmas.List.get_or_default numbers w (get_or numbers w 0) 0 there)
        | inr above ↦
            let k = w - 1 in
            let next : w - 1 + 1 ≡ w = omega (arith, above, differ_lt u w differ above) in
            let at = get_or-remove_above numbers u (get_or numbers w 0) (w - 1) (omega (arith, above, differ_lt u w differ above)) inside in
            in_contains (remove numbers u) (get_or numbers w 0) (
              w - 1,
              omega (arith, total, above, differ_lt u w differ above),
              at
                  ∙ ap (λ j. get_or numbers j (get_or numbers w 0)) next ∙ Rattle.std.proofs.lemmas.List.get_or_default numbers w (get_or numbers w 0) 0 there,
            )
      ]
    where
      differ_lt : (u w : ℕ) → w ≢ u → u ≤ w → u < w
      differ_lt u w differ le = elim (cases_lt u w) [ inl less ↦ less | inr ge ↦ absurd (differ (omega arith)) ]

  -- a plain path has at most so many numbers
  pub plain_length : (u : ℕ) (r : Route) → u < count P → IsPlain P p u r → length (path_of r) ≤ (count P - 1) * (p + 1)
  plain_length u r h plain =
      let total = length-remove P.numbers u h in
      let few = counting (remove P.numbers u) (path_of r) (p + 1)
      (λ x i. (let w = plain.known x i in
      let differ : w.0 ≢ u = λ e. true_not_false (sym (on_path (number P u) (path_of r) (subst (In (path_of r)) (sym w.2 ∙ ap (number P) e) i)) ∙ plain.own) in
      subst (In (remove P.numbers u)) w.2 (removed_in P.numbers u w.0 h w.1 differ)))
      plain.few in
      let same : length (remove P.numbers u) ≡ count P - 1 = omega arith in
      subst (λ m. length (path_of r) ≤ m * (p + 1)) same few
    where
      true_not_false : true ≡ false → ⊥
      true_not_false e = cc

  pub candidate_short : (E : List (Option Route)) (u : ℕ) (c : Route) → u < count P → IsRouteOf P.protocol c → IsPlain P p u c →
      size_of c ≤ (count P - 1) * (p + 1)
  candidate_short E u c h fits plain = let size = bgp_size c (subst (λ q. IsRouteOf q c) bgp fits) in
      subst (λ m. m ≤ (count P - 1) * (p + 1)) (sym size) (plain_length u c h plain)
