-- The loop that folds routes.
use Rattle.std.proofs.Common.{◌≡◌, ◌≢◌, ℕ, zero, suc, ◌<◌, ◌≤◌, Bool, true, false, List, [], ◌∷◌, length, map, Option, Some, None, refl, sym, ◌∙◌, ap, subst, arith, inl, inr}
use Rattle.std.specs.Prelude.{Contains, slice_get, slice_index, slice_set, nat_eq, if◌then◌else◌}
use Rattle.std.specs.List.{range_with_len}
use Rattle.std.specs.Option.{option_map}
use Rattle.std.proofs.lemmas.Bool.{cases_lt, cases_eq}
use Rattle.std.proofs.lemmas.Bool.Decides.{nat_tests}
use Rattle.std.proofs.lemmas.List.FromFn.{get_or-map-range_with_len, length-map-range_with_len}
use Rattle.std.proofs.lemmas.Option.{slice_get_within}
use Rattle.base_kit.specs.Partition.{IsNumbered}
use Rattle.base_kit.proofs.Elements.{In, in_contains}
use Rattle.srp_core.specs.declared.route.Route.{Route}
use Rattle.srp_core.specs.Routes.{Key, path_of, size_of}
use Rattle.srp_core.specs.Problem.{Problem, count as count_of, initial, key_of, IsProblem}
use Rattle.srp_core.specs.Quotient.{group_of}
use Rattle.srp_core.specs.Stability.{label, HaveSameKeys, both_none, both_some}
use Rattle.srp_core.specs.Lifts.{GroupTakes, IsFirstOn}
use Rattle.srp_core.specs.Filling.{IsFoldedPart, IsNextToFold}
use Rattle.srp_quotient.specs.Groups.{first_member}
use Rattle.solution_lift.specs.declared.tasks.Task.{Task}
use Rattle.solution_lift.specs.Carrying.{Sources, source_of, IsTakenOver, GetsRoute, task_of, IsOrder}
use Rattle.solution_lift.proofs.Ranges.{range_at}
use Rattle.solution_lift.proofs.TasksDone.{IsSoFar, some_route, cases_route}

-- ---- first members

pub record IsFirst (groups : List ℕ) (g k : ℕ) : Type 0 where
  pub inside : k < length groups
  pub there : slice_index groups k ≡ g
  pub least : (v : ℕ) → v < k → slice_index groups v ≢ g

abbrev if_first : Bool → ℕ → ℕ
if_first true k = 0
if_first false k = suc k

first_step : (x g : ℕ) (xs : List ℕ) (b : Bool) → nat_eq x g ≡ b → (b ≡ false → IsFirst xs g (first_member xs g)) →
    IsFirst (x ∷ xs) g (if_first b (first_member xs g))
first_step x g xs true e rest = record { inside = omega arith; there = grind (arith, nat_tests); least = λ v less. absurd (omega arith) }
first_step x g xs false e rest =
    let r = rest refl in
    record { inside = (let i = r.inside in omega arith); there = r.there; least = below r }
  where
    below : IsFirst xs g (first_member xs g) → (v : ℕ) → v < suc (first_member xs g) → slice_index (x ∷ xs) v ≢ g
    below r zero less same = absurd (grind (arith, nat_tests))
    below r (suc v) less same = r.least v (omega arith) same

if_is : (b : Bool) (k : ℕ) → if_first b k ≡ (if b then 0 else suc k)
if_is true k = refl
if_is false k = refl

later : (x g : ℕ) (xs : List ℕ) → In (x ∷ xs) g → nat_eq x g ≡ false → In xs g
later x g xs (inl same) other = absurd (grind (arith, nat_tests))
later x g xs (inr behind) other = behind

first_in : (groups : List ℕ) (g : ℕ) → In groups g → IsFirst groups g (first_member groups g)
first_in [] g at = absurd at
first_in (x ∷ xs) g at = subst (IsFirst (x ∷ xs) g) (if_is (nat_eq x g) (first_member xs g))
    (first_step x g xs (nat_eq x g) refl (λ other. first_in xs g (later x g xs at other)))

pub first_is : (groups : List ℕ) (g : ℕ) → Contains groups g → IsFirst groups g (first_member groups g)
first_is groups g has = first_in groups g (in_contains groups g has)

one_key : (P : Problem) (a b : Option Route) (r : Route) → HaveSameKeys P P a b → a ≡ Some r → (s : Route) × (b ≡ Some s) × (key_of P r ≡ key_of P s)
one_key P a b r (both_none x y) e = absurd (cc)
one_key P a b r (both_some p q x y k) e = let same : p ≡ r = cc in (q, y, ap (key_of P) (sym same) ∙ k)

module _ (S Q : Problem) (groups : List ℕ) (count : ℕ) (labels : List (Option Route)) (firsts : List ℕ) (tasks : List Task)
    (order : IsOrder labels firsts tasks) (firsts_are : firsts ≡ map (first_member groups) (range_with_len 0 count)) (numbered : IsNumbered groups count)
    (total : length groups ≡ count_of S) (even : (u v : ℕ) → u < count_of S → v < count_of S → group_of groups u ≡ group_of groups v →
    HaveSameKeys S S (label labels u) (label labels v)) where
  size : length firsts ≡ count
  size = ap (length {A = ℕ}) firsts_are ∙ length-map-range_with_len (first_member groups) 0 count

  pub first_at : (g : ℕ) → g < count → slice_index firsts g ≡ first_member groups g
  first_at g h = ap (λ (fs : List ℕ). slice_index fs g) firsts_are ∙ get_or-map-range_with_len (first_member groups) 0 count g g 0 h (omega arith)

  first : (g : ℕ) → g < count → IsFirst groups g (slice_index firsts g)
  first g h = subst (IsFirst groups g) (sym (first_at g h)) (first_is groups g (numbered.used g h))

  pub group_first : (g : ℕ) → g < count → group_of groups (slice_index firsts g) ≡ g
  group_first g h = (first g h).there

  group_below : (u : ℕ) → u < count_of S → group_of groups u < count
  group_below u h = numbered.below u 0 (omega arith)

  -- a labelled router has a task of its group, of its size
  record HasTask (u : ℕ) (r : Route) : Type 0 where
    k : ℕ
    task : Task
    at : slice_get tasks k ≡ Some task
    place : task.place ≡ group_of groups u
    same_size : task.size ≡ size_of r

  has_task : (u : ℕ) (r : Route) → u < count_of S → label labels u ≡ Some r → HasTask u r
  has_task u r h e =
      let g = group_of groups u in
      let below = group_below u h in
      let f = first (group_of groups u) below in
      let inside = f.inside in
      let k = one_key S (label labels u) (label labels (slice_index firsts (group_of groups u))) r
      (even u (slice_index firsts (group_of groups u)) h (omega arith) (sym f.there)) e in
      let long = size in
      let t = order.all (group_of groups u) (task_of (group_of groups u) k.0) (omega arith) (ap (option_map (task_of (group_of groups u))) k.1) in
      record { k = t.0; task = task_of (group_of groups u) k.0; at = t.1; place = refl; same_size = sym (ap (λ (x : Key). x.size) k.2) }

  -- the group of the next task is the next one to fold
  pub next_group : (E : List (Option Route)) (i : ℕ) (task : Task) → IsFoldedPart S Q groups labels E → IsSoFar tasks E i → slice_get tasks i ≡ Some task →
      (r : Route) × IsNextToFold S Q groups labels E (slice_index firsts task.place) r
  next_group E i task part so_far g =
      let e = order.each i task g in
      let long = size in
      let f = first task.place (let l = e.0 in omega arith) in
      let w = some_route task.place (label labels (slice_index firsts task.place)) task e.1 in (
        w.0,
        record {
          part = part;
          below = record {
            filled = λ u n h asked small.
                (let t = has_task u n h asked in
                let s = t.same_size in
                let own = w.2 in
                let is : label E t.task.place ≡ label E (group_of groups u) = ap (label E) t.place in
                elim (cases_lt t.k i) [
                  | inl earlier ↦ (let d = so_far.done t.k t.task earlier t.at in (d.0, sym is ∙ d.1))
                  | inr later ↦ elim (cases_eq t.k i) [
                    | inl same ↦ absurd (let one : Some t.task ≡ Some task = sym t.at ∙ ap (slice_get tasks) same ∙ g in let x : t.task ≡ task = cc in let y =
                        ap (λ (a : Task). a.size) x in omega arith)
                    | inr differ ↦ absurd (let y = order.rising i t.k task t.task (omega arith) g t.at in omega arith)
                  ]
                ]);
          };
          inside = (let l = f.inside in omega arith);
          first = record { first = λ v less same. f.least v less (same ∙ f.there) };
          asked = w.1;
          empty = ap (label E) f.there ∙ so_far.open_yet i task (omega arith) g;
        },
      )

  pub all_done : (E : List (Option Route)) (i : ℕ) → IsSoFar tasks E i → length tasks ≤ i → (u : ℕ) (r : Route) → u < count_of S → label labels u ≡ Some r →
      (m : Route) × (label E (group_of groups u) ≡ Some m)
  all_done E i so_far past u r h asked =
      let t = has_task u r h asked in
      let inside = slice_get_within tasks t.k t.task t.at in
      let d = so_far.done t.k t.task (omega arith) t.at in
      (d.0, sym (ap (label E) t.place) ∙ d.1)

-- what is taken where something fits is taken as folding asks for
pub group_takes : (S Q : Problem) (count : ℕ) (E : List (Option Route)) (g source : ℕ) (r : Route) (route : Option Route) → IsProblem Q → count_of Q ≡ count →
    key_of S r ≡ key_of Q r → IsTakenOver Q (range_with_len 0 count) E g source (key_of Q r) route → (m : Route) × GroupTakes S Q E g source m r →
    (m : Route) × (route ≡ Some m) × GroupTakes S Q E g source m r
group_takes S Q count E g source r None rules size agree none (m, t) =
    absurd (none.none t.edge m t.edge_in t.importer (let i = (rules.edges.inside t.edge t.edge_in).exporter_in in let at =
    range_at 0 count t.edge.exporter (omega arith) in let e = t.exporter in omega arith) t.over (t.keyed ∙ agree))
group_takes S Q count E g source r (Some m) rules size agree t found = (
  m,
  refl,
  record {
    edge = t.edge;
    edge_in = t.edge_in;
    importer = t.importer;
    exporter = (let i = (rules.edges.inside t.edge t.edge_in).exporter_in in let at = range_at 0 count t.edge.exporter (omega arith) in let e = t.exporter in
        omega arith);
    over = t.over;
    keyed = t.keyed ∙ sym agree;
  },
)

-- labels with what the next group gets are a part of what folding asks for
pub next_part : (S Q : Problem) (groups : List ℕ) (count : ℕ) (labels E : List (Option Route)) (firsts : List ℕ) (g u : ℕ) (r : Route) (sources : Sources)
    (route : Option Route) → slice_index firsts g ≡ u → group_of groups u ≡ g → initial Q (group_of groups u) ≡ initial S u → IsProblem Q → count_of Q ≡ count →
    IsNextToFold S Q groups labels E u r
    → ((i : Route) → initial S u ≡ Some i → IsFoldedPart S Q groups labels (slice_set E (group_of groups u) (Some i)))
    → (initial S u ≡ None → (s : ℕ) × IsFirstOn S (path_of r) s)
    → ((s : ℕ) → initial S u ≡ None → IsFirstOn S (path_of r) s → (m : Route) × GroupTakes S Q E (group_of groups u) (group_of groups s) m r)
    → ((s : ℕ) (m : Route) → initial S u ≡ None → IsFirstOn S (path_of r) s → GroupTakes S Q E (group_of groups u) (group_of groups s) m r →
    IsFoldedPart S Q groups labels (slice_set E (group_of groups u) (Some m)))
    → key_of S r ≡ key_of Q r → ((s : ℕ) → IsFirstOn S (path_of r) s → source_of sources r ≡ Some (slice_index groups s)) →
    GetsRoute Q labels firsts (range_with_len 0 count) sources E g route
    → (m : Route) × (route ≡ Some m) × IsFoldedPart S Q groups labels (slice_set E g (Some m))
next_part S Q groups count labels E firsts g u r sources route at there origins rules size next started source found taken agree sourced is =
    elim (cases_route (initial S u)) [
      | inr start ↦ (
        start.0,
        is.started start.0 (start_at start.1),
        subst (λ (n : ℕ). IsFoldedPart S Q groups labels (slice_set E n (Some start.0))) there
            (started start.0 start.1),
      )
      | inl none ↦
          let s = source none in
          let asked : label labels (slice_index firsts g) ≡ Some r = ap (label labels) at ∙ next.asked in
          let t = group_takes S Q count E (group_of groups u) (group_of groups s.0) r route rules size agree
          (subst (λ (n : ℕ). IsTakenOver Q (range_with_len 0 count) E n (group_of groups s.0) (key_of Q r) route) (sym there)
          (is.taken r (slice_index groups s.0) (start_at none) asked (sourced s.0 s.1))) (found s.0 none s.1) in
          (t.0, t.1, subst (λ (n : ℕ). IsFoldedPart S Q groups labels (slice_set E n (Some t.0))) there (taken s.0 t.0 none s.1 t.2))
    ]
  where
    start_at : {o : Option Route} → initial S u ≡ o → initial Q g ≡ o
    start_at e = ap (initial Q) (sym there) ∙ origins ∙ e
