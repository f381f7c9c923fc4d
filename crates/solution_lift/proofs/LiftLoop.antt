-- The loop that lifts routes.
use Rattle.std.proofs.Common.{◌≡◌, ℕ, ◌<◌, ◌≤◌, List, length, Option, Some, None, refl, sym, ◌∙◌, ap, arith, inl, inr}
use Rattle.std.specs.Prelude.{slice_get, slice_set}
use Rattle.std.specs.Option.{option_map}
use Rattle.std.proofs.lemmas.Bool.{cases_lt, cases_eq}
use Rattle.std.proofs.lemmas.Option.{slice_get_within}
use Rattle.srp_core.specs.declared.route.Route.{Route}
use Rattle.srp_core.specs.Routes.{path_of}
use Rattle.srp_core.specs.Problem.{Problem, count, initial, key_of}
use Rattle.srp_core.specs.Quotient.{group_of}
use Rattle.srp_core.specs.Stability.{label}
use Rattle.srp_core.specs.Lifts.{TakesFrom, IsFirstOn}
use Rattle.srp_core.specs.Filling.{IsLiftedPart, IsNextToLift}
use Rattle.solution_lift.specs.declared.tasks.Task.{Task}
use Rattle.solution_lift.specs.Carrying.{Sources, source_of, IsTakenOver, GetsRoute, task_of, IsOrder}
use Rattle.solution_lift.proofs.TasksDone.{IsSoFar, some_route, cases_route}

module _ (S Q : Problem) (groups : List ℕ) (lower : List (Option Route)) (tasks : List Task) (order : IsOrder lower groups tasks)
    (total : length groups ≡ count S) where
  -- the router of the next task is the next one to lift
  pub next_task : (E : List (Option Route)) (i : ℕ) (task : Task) → IsLiftedPart S Q groups lower E → IsSoFar tasks E i → slice_get tasks i ≡ Some task →
      (m : Route) × IsNextToLift S Q groups lower E task.place m
  next_task E i task part so_far g =
      let e = order.each i task g in
      let w = some_route task.place (label lower (group_of groups task.place)) task e.1 in (
        w.0,
        record {
          part = part;
          below = record {
            filled = λ u n h asked small.
                (let k = order.all u (task_of u n) (omega arith) (ap (option_map (task_of u)) asked) in
                let size = w.2 in
                elim (cases_lt k.0 i) [
                  | inl earlier ↦ so_far.done k.0 (task_of u n) earlier k.1
                  | inr later ↦ elim (cases_eq k.0 i) [
                    | inl same ↦ absurd (let one : Some (task_of u n) ≡ Some task = sym k.1 ∙ ap (slice_get tasks) same ∙ g in let is : task_of u n ≡ task =
                        cc in let s = ap (λ (t : Task). t.size) is in omega arith)
                    | inr differ ↦ absurd (let s = order.rising i k.0 task (task_of u n) (omega arith) g k.1 in omega arith)
                  ]
                ]);
          };
          inside = (let l = e.0 in omega arith);
          asked = w.1;
          empty = so_far.open_yet i task (omega arith) g;
        },
      )

  -- where all tasks are done, all that ask have labels
  pub all_done : (E : List (Option Route)) (i : ℕ) → IsSoFar tasks E i → length tasks ≤ i → (u : ℕ) (m : Route) → u < count S →
      label lower (group_of groups u) ≡ Some m → (r : Route) × (label E u ≡ Some r)
  all_done E i so_far past u m h asked =
      let k = order.all u (task_of u m) (omega arith) (ap (option_map (task_of u)) asked) in
      let inside = slice_get_within tasks k.0 (task_of u m) k.1 in
      so_far.done k.0 (task_of u m) (omega arith) k.1

-- what is taken where something fits is taken as lifting asks for
pub taken_from : (S Q : Problem) (groups : List ℕ) (E : List (Option Route)) (u source : ℕ) (m : Route) (route : Option Route) → key_of S m ≡ key_of Q m →
    IsTakenOver S groups E u source (key_of S m) route → (r : Route) × TakesFrom S Q groups E u source r m → (r : Route) × (route ≡ Some r)
    × TakesFrom S Q groups E u source r m
taken_from S Q groups E u source m None agree none (r, t) = absurd (none.none t.edge r t.edge_in t.importer t.exporter t.over (t.keyed ∙ sym agree))
taken_from S Q groups E u source m (Some r) agree t found = (
  r,
  refl,
  record {
    edge = t.edge;
    edge_in = t.edge_in;
    importer = t.importer;
    exporter = t.exporter;
    over = t.over;
    keyed = t.keyed ∙ agree;
    least = λ other c has imp x o keyed. t.least other c has imp x o (keyed ∙ sym agree);
  },
)

-- labels with what the next router gets are a part of what lifting asks for
pub next_part : (S Q : Problem) (groups : List ℕ) (lower E : List (Option Route)) (u : ℕ) (m : Route) (sources : Sources) (route : Option Route) →
    IsNextToLift S Q groups lower E u m
    → ((i : Route) → initial S u ≡ Some i → IsLiftedPart S Q groups lower (slice_set E u (Some i)))
    → (initial S u ≡ None → (s : ℕ) × IsFirstOn Q (path_of m) s)
    → ((s : ℕ) → initial S u ≡ None → IsFirstOn Q (path_of m) s → (r : Route) × TakesFrom S Q groups E u s r m)
    → ((s : ℕ) (r : Route) → initial S u ≡ None → IsFirstOn Q (path_of m) s → TakesFrom S Q groups E u s r m →
    IsLiftedPart S Q groups lower (slice_set E u (Some r)))
    → key_of S m ≡ key_of Q m → ((s : ℕ) → IsFirstOn Q (path_of m) s → source_of sources m ≡ Some s) → GetsRoute S lower groups groups sources E u route
    → (r : Route) × (route ≡ Some r) × IsLiftedPart S Q groups lower (slice_set E u (Some r))
next_part S Q groups lower E u m sources route next started source found taken agree sourced is = elim (cases_route (initial S u)) [
  | inr start ↦ (start.0, is.started start.0 start.1, started start.0 start.1)
  | inl none ↦
      let s = source none in
      let t = taken_from S Q groups E u s.0 m route agree (is.taken m s.0 none next.asked (sourced s.0 s.1)) (found s.0 none s.1) in
      (t.0, t.1, taken s.0 t.0 none s.1 t.2)
]
