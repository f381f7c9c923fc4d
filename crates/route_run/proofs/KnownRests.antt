-- Of which routers it is known that they rest, from one activation to the next.
use Rattle.std.proofs.Common.{◌≡◌, ◌≢◌, ◌⊎◌, ℕ, zero, suc, ◌+◌, ◌<◌, ◌≤◌, Bool, true, false, cond, List, [], ◌∷◌, ◌++◌, length, get_or, set, Option, Some, None, refl, sym, ap, ◌∙◌, subst, arith, inl, inr, nat_eq, replicate, length-set, get_or-set_same, get_or-set_other, Vec, Global}
use Rattle.std.specs.Prelude.{Contains, filter_map, option_and_then}
use Rattle.std.proofs.lemmas.Bool.{cases_Bool, cases_eq, cases_lt, true≢false, eqb-true, eq-eqb}
use Rattle.std.proofs.lemmas.List.{get_or-replicate, get_or_default, get_or_past, length-replicate}
use Rattle.std.proofs.lemmas.List.Elements.{All-contains_itself}
use Rattle.base_kit.specs.declared.act_graph.Edge.{Edge}
use Rattle.base_kit.proofs.Elements.{In, contains_in, in_contains, in_filter_map, filter_map_in}
use Rattle.refine_partition.specs.declared.imports.Import.{Import}
use Rattle.refine_partition.specs.Index.{import_from}
use Rattle.srp_core.specs.declared.route.Route.{Route}
use Rattle.srp_core.specs.declared.route.Candidate.{Candidate}
use Rattle.srp_core.specs.Candidates.{candidate_of, candidates, over, over_edges, passed}
use Rattle.srp_core.specs.Problem.{Problem, count, initial, is_lone_number, number, step_over, IsEdgeOf, IsProblem}
use Rattle.srp_core.specs.Stability.{label, AreLabels}
use Rattle.srp_core.proofs.Offers.{cases_label}
use Rattle.route_run.specs.declared.resting.State.{State}
use Rattle.route_run.specs.Activations.{activated, chosen_label, chosen_of}
use Rattle.route_run.specs.Rests.{is_at_rest, IsRunState, HasWoken}
use Rattle.route_run.proofs.AtRest.{activated_here, activated_other, activated_labels, empty_list}
use Rattle.route_run.proofs.BestChoices.{best_chosen, chosen_none, chosen_nothing, chosen_some}

-- ---- what a router chooses depends on those from whom it imports

here_by : (b : Bool) (x y : List Candidate) → (b ≡ true → x ≡ y) → cond b x [] ≡ cond b y []
here_by true x y h = h refl
here_by false x y h = refl

over_same : (P : Problem) (L M : List (Option Route)) (e : Edge) → label M e.exporter ≡ label L e.exporter → over P M e ≡ over P L e
over_same P L M e same = ap (λ (o : Option Route). option_and_then (λ (from : Route). option_and_then (passed (number P e.importer)) (step_over P e from)) o)
    same

edges_same : (P : Problem) (L M : List (Option Route)) (u place : ℕ) (edges : List Edge) →
    ((e : Edge) → In edges e → e.importer ≡ u → label M e.exporter ≡ label L e.exporter) → over_edges P M u place edges ≡ over_edges P L u place edges
unfolding over_edges
edges_same P L M u place [] h = refl
edges_same P L M u place (e ∷ es) h =
    ap (λ (l : List Candidate). l ++ over_edges P M u (place + 1) es)
    (here_by (nat_eq e.importer u) (candidate_of (Some place) (over P M e)) (candidate_of (Some place) (over P L e))
    (λ t. ap (candidate_of (Some place)) (over_same P L M e (h e (inl refl) (eqb-true e.importer u t)))))
    ∙ ap (λ (l : List Candidate). cond (nat_eq e.importer u) (candidate_of (Some place) (over P L e)) [] ++ l)
    (edges_same P L M u (place + 1) es (λ d i. h d (inr i)))

candidates_same : (P : Problem) (L M : List (Option Route)) (u : ℕ) →
    ((e : Edge) → Contains P.edges e → e.importer ≡ u → label M e.exporter ≡ label L e.exporter) → candidates P M u ≡ candidates P L u
unfolding candidates
candidates_same P L M u h = ap (λ (l : List Candidate). candidate_of None (initial P u) ++ l)
    (edges_same P L M u 0 P.edges (λ e i. h e (contains_in P.edges e i)))

-- what is chosen would be chosen again
chosen_twice : (test : ℕ → Bool) (all : List Candidate) (held : Option Route) → chosen_of test all (chosen_of test all held) ≡ chosen_of test all held
chosen_twice test all held = elim (cases_label (chosen_of test all held)) [
  | inl none ↦ chosen_none test all (chosen_of test all held) (ap length (empty_list all (chosen_nothing test all held none))) ∙ sym none
  | inr some ↦ ap (chosen_of test all) some.1 ∙ best_chosen test all some.0 (chosen_some test all held some.0 some.1) ∙ sym some.1
]

-- ---- marks

pub unmarked : (n u : ℕ) → is_at_rest (replicate n false) u ≡ false
unmarked n u = elim (cases_lt u n) [
  | inl h ↦ get_or-replicate n u false false h
  | inr h ↦ get_or_past (replicate n false) u false (let l = length-replicate n false in omega (arith, h, l))
]

-- of labels in themselves it is not known who rests
pub state_unknown : (P : Problem) (s : State) (n : ℕ) → AreLabels P s.labels → s.rests.items ≡ replicate n false → n ≡ count P → IsRunState P s
state_unknown P s n fits none total = record {
  fitting = fits;
  total = ap length none ∙ length-replicate n false ∙ total;
  rest = λ u t. absurd (true≢false (sym t ∙ ap (λ (l : List Bool). is_at_rest l u) none ∙ unmarked n u));
}

-- one mark more
set_marked : (marks : List Bool) (u v : ℕ) → v ≢ u → is_at_rest (set marks u true) v ≡ true → is_at_rest marks v ≡ true
set_marked marks u v differ t = sym (get_or-set_other marks u v true false differ) ∙ t

-- one mark less
pub set_unmarked : (marks : List Bool) (u v : ℕ) → is_at_rest (set marks u false) v ≡ true → is_at_rest marks v ≡ true
set_unmarked marks u v t = elim (cases_eq v u) [
  | inl same ↦ elim (cases_lt u (length marks)) [
    | inl h ↦ absurd (true≢false (sym t ∙ ap (is_at_rest (set marks u false)) same ∙ get_or-set_same marks u false false h))
    | inr h ↦ absurd (true≢false (sym t ∙ get_or_past (set marks u false) v false (let l = length-set marks u false in omega (arith, h, l, same))))
  ]
  | inr differ ↦ sym (get_or-set_other marks u v false false differ) ∙ t
]

pub unmarked_still : (marks : List Bool) (u v : ℕ) → is_at_rest marks v ≡ false → is_at_rest (set marks u false) v ≡ false
unmarked_still marks u v e = elim (cases_Bool (is_at_rest (set marks u false) v)) [
  | inl t ↦ absurd (true≢false (sym (set_unmarked marks u v t) ∙ e))
  | inr f ↦ f
]

-- ---- the state after an activation

pub state_kept : (P : Problem) (s t : State) (u : ℕ) → IsRunState P s → chosen_label P s.labels u ≡ label s.labels u → t.labels ≡ s.labels →
    t.rests.items ≡ set s.rests.items u true → IsRunState P t
state_kept P s t u is keeps same marks = record {
  fitting = subst (AreLabels P) (sym same) is.fitting;
  total = ap length marks ∙ length-set s.rests.items u true ∙ is.total;
  rest = λ v h. subst (λ (l : List (Option Route)). chosen_label P l v ≡ label l v) (sym same)
      (kept v (subst (λ (m : List Bool). is_at_rest m v ≡ true) marks h));
}
  where
    kept : (v : ℕ) → is_at_rest (set s.rests.items u true) v ≡ true → chosen_label P s.labels v ≡ label s.labels v
    kept v h = elim (cases_eq v u) [
      | inl here ↦ subst (λ (k : ℕ). chosen_label P s.labels k ≡ label s.labels k) (sym here) keeps
      | inr differ ↦ is.rest v (set_marked s.rests.items u v differ h)
    ]

module _ (P : Problem) (good : IsProblem P) where
  -- the router that was activated rests
  rests_here : (L : List (Option Route)) (u : ℕ) → u < length L → chosen_label P (activated P L u) u ≡ label (activated P L u) u
  rests_here L u inside =
      let same = candidates_same P L (activated P L u) u (λ e i imp. activated_other P L u e.exporter
      (λ eq. (good.edges.inside e i).differ (imp ∙ sym eq))) in
      ap (λ (l : List Candidate). chosen_of (is_lone_number P) l (label (activated P L u) u)) same
      ∙ ap (chosen_of (is_lone_number P) (candidates P L u)) (activated_here P L u inside)
      ∙ chosen_twice (is_lone_number P) (candidates P L u) (label L u) ∙ sym (activated_here P L u inside)

  -- a router that rested still does, unless it imports from the one that was activated
  rests_there : (L : List (Option Route)) (u v : ℕ) → v ≢ u → ((e : Edge) → Contains P.edges e → e.importer ≡ v → e.exporter ≢ u) →
      chosen_label P L v ≡ label L v → chosen_label P (activated P L u) v ≡ label (activated P L u) v
  rests_there L u v differ others keeps =
      let same = candidates_same P L (activated P L u) v (λ e i imp. activated_other P L u e.exporter (others e i imp)) in
      ap (λ (l : List Candidate). chosen_of (is_lone_number P) l (label (activated P L u) v)) same
      ∙ ap (chosen_of (is_lone_number P) (candidates P L v)) (activated_other P L u v differ)
      ∙ keeps ∙ sym (activated_other P L u v differ)

  pub state_taken : (s t : State) (u : ℕ) (woken : List Bool) → u < count P → IsRunState P s → HasWoken P u s.rests.items woken →
      t.labels ≡ activated P s.labels u → t.rests.items ≡ set woken u true → IsRunState P t
  state_taken s t u woken inside is wakes same marks = record {
    fitting = subst (AreLabels P) (sym same) (activated_labels P good s.labels u is.fitting);
    total = ap length marks ∙ length-set woken u true ∙ wakes.total ∙ is.total;
    rest = λ v h. subst (λ (l : List (Option Route)). chosen_label P l v ≡ label l v) (sym same)
        (rests v (subst (λ (m : List Bool). is_at_rest m v ≡ true) marks h));
  }
    where
      total : length s.labels ≡ count P
      total = is.fitting.total

      others : (v : ℕ) → is_at_rest woken v ≡ true → (e : Edge) → Contains P.edges e → e.importer ≡ v → e.exporter ≢ u
      others v t e i imp eq = true≢false (sym t ∙ ap (is_at_rest woken) (sym imp) ∙ wakes.woken e i eq)

      rests : (v : ℕ) → is_at_rest (set woken u true) v ≡ true → chosen_label P (activated P s.labels u) v ≡ label (activated P s.labels u) v
      rests v h = elim (cases_eq v u) [
        | inl here ↦ subst (λ (k : ℕ). chosen_label P (activated P s.labels u) k ≡ label (activated P s.labels u) k) (sym here)
            (rests_here s.labels u (omega (arith, inside, total)))
        | inr differ ↦ (let old = set_marked woken u v differ h in
            rests_there s.labels u v differ (others v old) (is.rest v (wakes.still v old)))
      ]

-- ---- waking, one import after the other

import_by : (exporter : ℕ) (e : Edge) (i : Import) (b : Bool) → nat_eq e.exporter exporter ≡ b →
    cond b (Some (record { importer = e.importer; act = e.act })) None ≡ Some i → (e.exporter ≡ exporter) × (i.importer ≡ e.importer)
import_by exporter e i false t f = absurd (cc)
import_by exporter e i true t f =
    let same : record { importer = e.importer; act = e.act } ≡ i = cc in (eqb-true e.exporter exporter t, ap (λ (k : Import). k.importer) (sym same))

import_of : (exporter : ℕ) (e : Edge) → e.exporter ≡ exporter → import_from exporter e ≡ Some (record { importer = e.importer; act = e.act })
import_of exporter e same = ap (λ (b : Bool). cond b (Some (record { importer = e.importer; act = e.act })) None) (eq-eqb e.exporter exporter same)

-- the importers that are listed are routers
pub importer_inside : (P : Problem) → IsProblem P → (exporter : ℕ) (imports : List Import) (k : ℕ) (d : Import) →
    imports ≡ filter_map (import_from exporter) P.edges → Contains imports (get_or imports k d) → (get_or imports k d).importer < count P
importer_inside P good exporter imports k d all at =
    let i = get_or imports k d in
    let real = filter_map_in (import_from exporter) P.edges i (in_contains (filter_map (import_from exporter) P.edges) i
    (subst (λ (l : List Import). Contains l i) all at)) in
    let parts = import_by exporter real.0 i (nat_eq real.0.exporter exporter) refl real.2 in
    subst (λ (n : ℕ). n < count P) (sym parts.1) (good.edges.inside real.0 (contains_in P.edges real.0 real.1)).importer_in

-- those of the first so many imports are woken
abbrev pub AreWoken : List Bool → List Import → ℕ → Type 0
AreWoken marks imports n = (k : ℕ) (d : Import) → k < n → is_at_rest marks (get_or imports k d).importer ≡ false

pub woken_more : (marks : List Bool) (imports : List Import) (n : ℕ) (i : Import) → i.importer < length marks → n < length imports →
    i ≡ get_or imports n i → AreWoken marks imports n → AreWoken (set marks i.importer false) imports (n + 1)
woken_more marks imports n i inside less is woken k d h = elim (cases_eq k n) [
  | inl same ↦ subst (λ (m : Import). is_at_rest (set marks i.importer false) m.importer ≡ false)
      (is ∙ get_or_default imports n i d less ∙ ap (λ (m : ℕ). get_or imports m d) (sym same))
      (get_or-set_same marks i.importer false false inside)
  | inr differ ↦ unmarked_still marks i.importer (get_or imports k d).importer (woken k d (omega (arith, h, differ)))
]

pub has_woken : (P : Problem) (router : ℕ) (before after : List Bool) (imports : List Import) (n : ℕ) → length after ≡ length before →
    ((u : ℕ) → is_at_rest after u ≡ true → is_at_rest before u ≡ true) → imports ≡ filter_map (import_from router) P.edges → length imports ≤ n →
    AreWoken after imports n → HasWoken P router before after
has_woken P router before after imports n total still all end woken = record {
  total = total;
  still = still;
  woken = λ e at is.
      let i : Import = record { importer = e.importer; act = e.act } in
      let listed = subst (λ (l : List Import). Contains l i) (sym all) (contains_in (filter_map (import_from router) P.edges) i
      (in_filter_map (import_from router) P.edges e i (in_contains P.edges e at) (import_of router e is))) in
      let l = listed.1 in
      subst (λ (m : Import). is_at_rest after m.importer ≡ false) listed.2 (woken listed.0 i (omega (arith, l, end)));
}

-- ---- what the problem lists

pub edge_inside : (P : Problem) → IsProblem P → (edges : List Edge) → edges ≡ P.edges → (k : ℕ) (d : Edge) → k < length edges → IsEdgeOf P (get_or edges k d)
edge_inside P good edges same k d h =
    good.edges.inside (get_or edges k d) (subst (λ (l : List Edge). Contains l (get_or edges k d)) same (All-contains_itself edges k d h))
