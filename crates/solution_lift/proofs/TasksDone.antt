-- What the loops that lift and fold routes share: the tasks that are done, and the sources of routes.
use Rattle.std.proofs.Common.{◌≡◌, ◌≢◌, ◌⊎◌, ℕ, ◌+◌, ◌<◌, ◌≤◌, List, length, Option, Some, None, refl, sym, ◌∙◌, ap, subst, arith, inl, inr, get_or-set_same, get_or-set_other, nat_eq}
use Rattle.std.specs.Prelude.{slice_get, slice_index, slice_set, replicate, option_and_then}
use Rattle.std.specs.Option.{option_map}
use Rattle.std.specs.HashMap as map
use Rattle.std.proofs.lemmas.Bool.{cases_lt, cases_eq}
use Rattle.std.proofs.lemmas.List.{get_or-replicate, get_or_past, length-replicate}
use Rattle.srp_core.specs.declared.route.Route.{Route}
use Rattle.srp_core.specs.Routes.{path_of, size_of}
use Rattle.srp_core.specs.Problem.{Problem}
use Rattle.srp_core.specs.Stability.{label}
use Rattle.srp_core.specs.Lifts.{IsFirstOn}
use Rattle.solution_lift.specs.declared.tasks.Task.{Task}
use Rattle.solution_lift.specs.Carrying.{Sources, source_of, task_of, GetsRoute, IsOrder}

-- the routers of the first tasks have labels, and those of the others have none
pub record IsSoFar (tasks : List Task) (labels : List (Option Route)) (i : ℕ) : Type 0 where
  pub done : (k : ℕ) (task : Task) → k < i → slice_get tasks k ≡ Some task → (r : Route) × (label labels task.place ≡ Some r)
  pub open_yet : (k : ℕ) (task : Task) → i ≤ k → slice_get tasks k ≡ Some task → label labels task.place ≡ None

none_label : (n u : ℕ) → label (replicate n None) u ≡ None
none_label n u = elim (cases_lt u n) [
  | inl h ↦ get_or-replicate n u None None h
  | inr h ↦ get_or_past (replicate n None) u None (let l = length-replicate {A = Option Route} n None in omega arith)
]

pub none_so_far : (tasks : List Task) (n : ℕ) → IsSoFar tasks (replicate n None) 0
none_so_far tasks n = record { done = λ k task less g. absurd (omega arith); open_yet = λ k task le g. none_label n task.place }

-- one label more
pub more_so_far : (asked : List (Option Route)) (at : List ℕ) (tasks : List Task) (labels new : List (Option Route)) (i : ℕ) (task : Task)
    (route : Option Route) (r : Route) → IsOrder asked at tasks → IsSoFar tasks labels i → slice_get tasks i ≡ Some task → task.place < length labels →
    new ≡ slice_set labels task.place route → route ≡ Some r → IsSoFar tasks new (i + 1)
more_so_far asked at tasks labels new i task route r order so_far g inside now is =
    let put : label new task.place ≡ Some r = ap (λ (ls : List (Option Route)). label ls task.place) now ∙ get_or-set_same labels task.place route None inside
    ∙ is in
    let kept : (u : ℕ) → u ≢ task.place → label new u ≡ label labels u = λ u apart. ap (λ (ls : List (Option Route)). label ls u) now
    ∙ get_or-set_other labels task.place u route None apart in
    record {
      done = λ k other less h. elim (cases_eq k i) [
        | inl same ↦ (let one : Some other ≡ Some task = sym h ∙ ap (slice_get tasks) same ∙ g in let e : other ≡ task = cc in
            (r, ap (label new) (ap (λ (t : Task). t.place) e) ∙ put))
        | inr differ ↦ (let d = so_far.done k other (omega arith) h in (d.0, kept other.place (λ e. differ (order.once k i other task h g e)) ∙ d.1))
      ];
      open_yet = λ k other le h. kept other.place (λ e. (let same = order.once k i other task h g e in absurd (omega arith)))
          ∙ so_far.open_yet k other (omega arith) h;
    }

pub some_route : (k : ℕ) (o : Option Route) (task : Task) → option_map (task_of k) o ≡ Some task → (r : Route) × (o ≡ Some r) × (size_of r ≡ task.size)
some_route k None task e = absurd cc
some_route k (Some r) task e = let same : task_of k r ≡ task = cc in (r, refl, ap (λ (t : Task). t.size) same)

pub cases_route : (o : Option Route) → (o ≡ None) ⊎ ((r : Route) × (o ≡ Some r))
cases_route None = inl refl
cases_route (Some r) = inr (r, refl)

-- the order by equal lists
pub order_of : (asked lower : List (Option Route)) (at items groups : List ℕ) (made tasks : List Task) → IsOrder asked at made → asked ≡ lower → at ≡ items →
    items ≡ groups → tasks ≡ made → IsOrder lower groups tasks
order_of asked lower at items groups made tasks order a b c d =
    subst (λ (ls : List (Option Route)). IsOrder ls groups tasks) a
    (subst (λ (gs : List ℕ). IsOrder asked gs tasks) (b ∙ c) (subst (IsOrder asked at) (sym d) order))

pub next_of : (P : Problem) (asked lower : List (Option Route)) (at at_items groups sides side_items others : List ℕ) (sources : Sources)
    (E : List (Option Route)) (u : ℕ) (o : Option Route) → GetsRoute P asked at sides sources E u o → asked ≡ lower → at ≡ at_items → at_items ≡ groups →
    sides ≡ side_items → side_items ≡ others → GetsRoute P lower groups others sources E u o
next_of P asked lower at at_items groups sides side_items others sources E u o next a b c d e =
    subst (λ (ls : List (Option Route)). GetsRoute P ls groups others sources E u o) a
    (subst (λ (gs : List ℕ). GetsRoute P asked gs others sources E u o) (b ∙ c) (subst (λ (ss : List ℕ). GetsRoute P asked at ss sources E u o) (d ∙ e) next))

-- the source of a route is the side of the router that is first on its path
pub first_sourced : (P : Problem) (sides : List ℕ) (sources : Sources) →
    ((u : ℕ) → u < length P.numbers → slice_index P.numbers u ≢ 0 → map.get nat_eq sources (slice_index P.numbers u) ≡ Some (slice_index sides u)) →
    (m : Route) (s : ℕ) → IsFirstOn P (path_of m) s → source_of sources m ≡ Some (slice_index sides s)
first_sourced P sides sources known m s on =
    ap (λ (path : List ℕ). option_and_then (map.get nat_eq sources) (slice_get path 0)) on.path_is
    ∙ ap (map.get nat_eq sources) (sym on.numbered)
    ∙ known s on.inside (λ z. on.some_number (sym on.numbered ∙ z))

pub known_by : (given numbers held sides : List ℕ) (sources : Sources) → given ≡ numbers → held ≡ sides →
    ((u : ℕ) → u < length given → slice_index given u ≢ 0 → map.get nat_eq sources (slice_index given u) ≡ Some (slice_index held u))
    → (u : ℕ) → u < length numbers → slice_index numbers u ≢ 0 → map.get nat_eq sources (slice_index numbers u) ≡ Some (slice_index sides u)
known_by given numbers held sides sources a b known =
    subst (λ (ss : List ℕ). (u : ℕ) → u < length numbers → slice_index numbers u ≢ 0 → map.get nat_eq sources (slice_index numbers u) ≡ Some (slice_index ss u))
    b
    (subst (λ (ns : List ℕ). (u : ℕ) → u < length ns → slice_index ns u ≢ 0 → map.get nat_eq sources (slice_index ns u) ≡ Some (slice_index held u)) a known)
