-- Moving importers to fresh classes, and the classes after one more run of edges of one act.
use Rattle.std.proofs.Common.{◌≡◌, ◌≢◌, ℕ, zero, suc, ◌+◌, ◌-◌, ◌<◌, ◌≤◌, List, [], ◌∷◌, ◌++◌, length, slice_index_or, slice_set, take, drop, All, Any, Contains, Option, Some, None, refl, sym, ◌∙◌, ap, subst, arith, inl, inr}
use Rattle.std.specs.Prelude.{slice_index, ◌⊎◌}
use Rattle.std.proofs.lemmas.Bool.{cases_eq, cases_lt}
use Rattle.std.proofs.lemmas.List.{get_or-set_same, get_or-set_other, length_push, get_or_push, get_or_append_left, length-append, get_or-take, get_or-drop, get_or_default, drop-take, take-append-drop, length-take}
use Rattle.std.proofs.lemmas.List.Elements.{All-set, All-weaker, All-push, All-append, All-take, All-contains, Contains-append_left, Contains-append_right, Contains-append_cases, Contains-push}
use Rattle.std.proofs.Math.ListN.{length-set}
use Rattle.refine_partition.specs.declared.imports.Import.{Import}
use Rattle.refine_partition.specs.Arrivals.{act_of_import}
use Rattle.refine_partition.specs.Classes.{IsNoted, IsSeparated, AreClasses, AreReached}

-- what holds while the first importers have moved, with the names of the classes that they left
pub record Separating (old new : List ℕ) (movers : List Import) (names : ℕ → Option ℕ) (fresh next : ℕ) : Type 0 where
  pub total : length new ≡ length old
  pub low : fresh ≤ next
  pub few : next ≤ fresh + length movers
  pub below : All (λ class. class < next) new
  pub moved : All (λ m. fresh ≤ slice_index new m.importer) movers
  pub only : (u : ℕ) → u < length old → fresh ≤ slice_index new u → Any (λ m. m.importer ≡ u) movers
  pub stay : (u : ℕ) → u < length old → slice_index new u < fresh → slice_index new u ≡ slice_index old u
  pub known : (u : ℕ) → u < length old → fresh ≤ slice_index new u → names (slice_index old u) ≡ Some (slice_index new u)
  pub named : (class name : ℕ) → names class ≡ Some name → (fresh ≤ name) × (name < next)
  pub one : (a b name : ℕ) → names a ≡ Some name → names b ≡ Some name → a ≡ b

pub separated : (old new : List ℕ) (movers : List Import) (names : ℕ → Option ℕ) (fresh next : ℕ) → Separating old new movers names fresh next →
    IsSeparated old new movers fresh next
separated old new movers names fresh next so_far = record {
  total = so_far.total;
  low = so_far.low;
  few = so_far.few;
  below = so_far.below;
  moved = so_far.moved;
  only = so_far.only;
  stay = so_far.stay;
  together = λ u v hu hv mu mv same.
      let first = so_far.known u hu mu in
      let second = so_far.known v hv mv in
      let names_same = ap names same in cc;
  apart = λ u v hu hv mu same.
      let mv : fresh ≤ slice_index new v = omega arith in
      let first = so_far.known u hu mu in
      let second = so_far.known v hv mv in
      so_far.one _ _ (slice_index new u) first (second ∙ ap (λ n. Some n) (sym same));
}

pub separating_none : (old : List ℕ) (movers : List Import) (names : ℕ → Option ℕ) (fresh : ℕ) → All (λ class. class < fresh) old →
    ((class : ℕ) → names class ≡ None) → Separating old old (take 0 movers) names fresh fresh
separating_none old movers names fresh below none = record {
  total = refl;
  low = omega arith;
  few = omega arith;
  below = below;
  moved = λ k d inside. absurd (omega arith);
  only = λ u hu at. let lt : slice_index old u < fresh = below u 0 hu in absurd (omega arith);
  stay = λ u hu lt. refl;
  known = λ u hu at. let lt : slice_index old u < fresh = below u 0 hu in absurd (omega arith);
  named = λ class name is. let no = none class in absurd cc;
  one = λ a b name is. let no = none a in absurd cc;
}

any_left : (movers : List Import) (mover : Import) (u : ℕ) → Any (λ m. m.importer ≡ u) movers → Any (λ m. m.importer ≡ u) (movers ++ mover ∷ [])
any_left movers mover u (k, m, inside, at, is) =
    let more = length_push movers mover in
    (k, m, omega arith, get_or_append_left movers (mover ∷ []) m k inside ∙ at, is)

any_last : (movers : List Import) (mover : Import) (u : ℕ) → mover.importer ≡ u → Any (λ m. m.importer ≡ u) (movers ++ mover ∷ [])
any_last movers mover u is =
    let more = length_push movers mover in
    (length movers, mover, omega arith, get_or_push movers mover mover (length movers) refl, is)

-- an importer that has moved already
pub separating_again : (old new : List ℕ) (movers : List Import) (mover : Import) (names : ℕ → Option ℕ) (fresh next : ℕ) →
    Separating old new movers names fresh next → fresh ≤ slice_index new mover.importer → Separating old new (movers ++ mover ∷ []) names fresh next
separating_again old new movers mover names fresh next so_far at = record {
  total = so_far.total;
  low = so_far.low;
  few = let few = so_far.few in let more = length_push movers mover in omega arith;
  below = so_far.below;
  moved = All-push (λ m. fresh ≤ slice_index new m.importer) movers mover so_far.moved at;
  only = λ u hu high. any_left movers mover u (so_far.only u hu high);
  stay = so_far.stay;
  known = so_far.known;
  named = so_far.named;
  one = so_far.one;
}

-- an importer moves to the class of this name
pub separating_more : (old new : List ℕ) (movers : List Import) (mover : Import) (names names' : ℕ → Option ℕ) (fresh next next' class name : ℕ) →
    Separating old new movers names fresh next → mover.importer < length new → slice_index new mover.importer ≡ class → class < fresh →
    names' class ≡ Some name → ((other : ℕ) → other ≢ class → names' other ≡ names other) →
    ((names class ≡ Some name) ⊎ ((names class ≡ None) × (name ≡ next))) → next ≤ next' → next' ≤ next + 1 → name < next' →
    Separating old (slice_set new mover.importer name) (movers ++ mover ∷ []) names' fresh next'
separating_more old new movers mover names names' fresh next next' class name so_far inside is under named others was le le' lt =
    let new' : List ℕ = slice_set new mover.importer name in
    let total = so_far.total in
    let low = so_far.low in
    let at : fresh ≤ name = elim was [ inl known ↦ (so_far.named class name known).0 | inr none ↦ let e = none.1 in omega arith ] in
    let here : slice_index new' mover.importer ≡ name = get_or-set_same new mover.importer name 0 inside in
    let here_at : (u : ℕ) → u ≡ mover.importer → slice_index new' u ≡ name = λ u e. ap (λ i. slice_index new' i) e ∙ here in
    let there : (u : ℕ) → u ≢ mover.importer → slice_index new' u ≡ slice_index new u = λ u ne. get_or-set_other new mover.importer u name 0 ne in
    let before : class ≡ slice_index old mover.importer = sym is ∙ so_far.stay mover.importer (omega arith) (omega arith) in
    let by_class : (a n : ℕ) → names' a ≡ Some n → ((a ≡ class) × (n ≡ name)) ⊎ ((a ≢ class) × (names a ≡ Some n)) = λ a n found. elim (cases_eq a class) [
      | inl e ↦ inl (e, let found' = ap names' (sym e) ∙ found in cc)
      | inr ne ↦ inr (ne, sym (others a ne) ∙ found)
    ] in
    let only_one : (b : ℕ) → names b ≡ Some name → b ≡ class = λ b found. elim was [
      | inl known ↦ so_far.one b class name found known
      | inr none ↦ let below = (so_far.named b name found).1 in let e = none.1 in absurd (omega arith)
    ] in
    record {
      total = length-set new mover.importer name ∙ total;
      low = omega arith;
      few = let few = so_far.few in let more = length_push movers mover in omega arith;
      below = All-set (λ c. c < next') new mover.importer name lt (All-weaker (λ c. c < next) (λ c. c < next') (λ c l. omega arith) new so_far.below);
      moved = All-push (λ m. fresh ≤ slice_index new' m.importer) movers mover
          (All-weaker (λ m. fresh ≤ slice_index new m.importer) (λ m. fresh ≤ slice_index new' m.importer)
          (λ m high. elim (cases_eq m.importer mover.importer) [
            | inl e ↦ let v = here_at m.importer e in omega arith
            | inr ne ↦ let v = there m.importer ne in omega arith
          ]) movers so_far.moved)
          (omega (arith, here));
      only = λ u hu high. elim (cases_eq u mover.importer) [
        | inl e ↦ any_last movers mover u (sym e)
        | inr ne ↦ let v = there u ne in any_left movers mover u (so_far.only u hu (omega arith))
      ];
      stay = λ u hu l. elim (cases_eq u mover.importer) [
        | inl e ↦ let v = here_at u e in absurd (omega arith)
        | inr ne ↦ let v = there u ne in v ∙ so_far.stay u hu (omega arith)
      ];
      known = λ u hu high. elim (cases_eq u mover.importer) [
        | inl e ↦
            let v = here_at u e in
            let o : slice_index old u ≡ class = ap (λ i. slice_index old i) e ∙ sym before in
            ap names' o ∙ named ∙ ap (λ n. Some n) (sym v)
        | inr ne ↦
            let v = there u ne in
            let known = so_far.known u hu (omega arith) in
            elim (cases_eq (slice_index old u) class) [
              | inl e ↦
                  let known' : names class ≡ Some (slice_index new u) = ap names (sym e) ∙ known in
                  elim was [
                    | inl was_named ↦ ap names' e ∙ named ∙ sym was_named ∙ known' ∙ ap (λ n. Some n) (sym v)
                    | inr none ↦ let no = none.0 in absurd cc
                  ]
              | inr other ↦ others _ other ∙ known ∙ ap (λ n. Some n) (sym v)
            ]
      ];
      named = λ a n found. elim (by_class a n found) [
        | inl e ↦ let e' = e.1 in (omega arith, omega arith)
        | inr o ↦ let b = so_far.named a n o.1 in let high = b.0 in let bound = b.1 in (omega arith, omega arith)
      ];
      one = λ a b n first second. elim (by_class a n first) [
        | inl e ↦ elim (by_class b n second) [
          | inl e' ↦ e.0 ∙ sym e'.0
          | inr o' ↦ e.0 ∙ sym (only_one b (o'.1 ∙ ap (λ m. Some m) e.1))
        ]
        | inr o ↦ elim (by_class b n second) [
          | inl e' ↦ only_one a (o.1 ∙ ap (λ m. Some m) e'.1) ∙ sym e'.0
          | inr o' ↦ so_far.one a b n o.1 o'.1
        ]
      ];
    }

-- no router has left its class
pub reached_none : (classes : List ℕ) (count : ℕ) → All (λ class. class < count) classes → AreReached classes count []
reached_none classes count below = record {
  only = λ k d inside. absurd (omega arith);
  all = λ u hu high. let lt : slice_index classes u < count = below u 0 hu in absurd (omega arith);
}

-- a router gets a new class, and is added where it had none
pub reached_more : (classes reached reached' : List ℕ) (count router class name : ℕ) → AreReached classes count reached → router < length classes →
    slice_index classes router ≡ class → count ≤ name → IsNoted reached reached' router class count → AreReached (slice_set classes router name) count reached'
reached_more classes reached reached' count router class name are inside is high noted =
    let classes' : List ℕ = slice_set classes router name in
    let size = length-set classes router name in
    let here : (u : ℕ) → u ≡ router → slice_index classes' u ≡ name =
    λ u e. ap (slice_index classes') e ∙ get_or-set_same classes router name 0 inside in
    let there : (u : ℕ) → u ≢ router → slice_index classes' u ≡ slice_index classes u = λ u ne. get_or-set_other classes router u name 0 ne in
    let kept : All (λ u. (u < length classes') × (count ≤ slice_index classes' u)) reached =
    All-weaker (λ u. (u < length classes) × (count ≤ slice_index classes u)) (λ u. (u < length classes') × (count ≤ slice_index classes' u)) (λ u (hu, at).
    elim (cases_eq u router) [
      | inl e ↦ let v = here u e in (omega arith, omega arith)
      | inr ne ↦ let v = there u ne in (omega arith, omega arith)
    ]) reached are.only in
    elim noted [
      | inl (low, added) ↦ rw added (record {
        only = let v = here router refl in All-push (λ u. (u < length classes') × (count ≤ slice_index classes' u)) reached router kept
            (omega arith, omega arith);
        all = λ u hu at. elim (cases_eq u router) [
          | inl e ↦ subst (Contains (reached ++ router ∷ [])) (sym e) (Contains-push reached router)
          | inr ne ↦ let v = there u ne in Contains-append_left reached (router ∷ []) u (are.all u (omega arith) (omega arith))
        ];
      })
      | inr (was, same) ↦ rw same (record {
        only = kept;
        all = λ u hu at. elim (cases_eq u router) [
          | inl e ↦ subst (Contains reached) (sym e) (are.all router inside (omega arith))
          | inr ne ↦ let v = there u ne in are.all u (omega arith) (omega arith)
        ];
      })
    ]

abbrev import_at : ℕ → ℕ → Import
import_at router act = record { importer = router; act = act }

-- the run lists the act for each of its importers
listed : (run : List Import) (act u : ℕ) → All (λ a. a.act ≡ act) run → Any (λ m. m.importer ≡ u) run → Contains run (record { importer = u; act = act })
listed run act u one (k, m, inside, at, is) =
    let acts : m.act ≡ act = subst (λ (x : Import). x.act ≡ act) at (one k m inside) in
    let same : m ≡ import_at u act = ap (λ i. import_at i m.act) is ∙ ap (import_at u) acts in
    subst (Contains run) same (k, inside, at)

-- one more run of edges of one act, which no earlier one has
alike_before : (before run : List Import) (act u v : ℕ) → All (λ a. a.act < act) before → All (λ a. a.act ≡ act) run →
    ((x : ℕ) → Contains (before ++ run) (record { importer = u; act = x }) → Contains (before ++ run) (record { importer = v; act = x })) → (x : ℕ) →
    Contains before (record { importer = u; act = x }) → Contains before (record { importer = v; act = x })
alike_before before run act u v earlier one there x found =
    let lt : x < act = All-contains (λ a. a.act < act) before (record { importer = u; act = x }) earlier found in
    elim (Contains-append_cases before run _ (there x (Contains-append_left before run _ found))) [
      | inl is ↦ is
      | inr is ↦ let e : x ≡ act = All-contains (λ a. a.act ≡ act) run (record { importer = v; act = x }) one is in absurd (omega arith)
    ]

-- an importer of the run moves, so the run lists its act for each router that has what it has
moves_too : (before run : List Import) (classes' : List ℕ) (next act u v : ℕ) → All (λ a. a.act < act) before → All (λ a. a.act ≡ act) run →
    All (λ m. next ≤ slice_index classes' m.importer) run → Any (λ m. m.importer ≡ u) run →
    ((x : ℕ) → Contains (before ++ run) (record { importer = u; act = x }) → Contains (before ++ run) (record { importer = v; act = x })) →
    next ≤ slice_index classes' v
moves_too before run classes' next act u v earlier one moved found there =
    elim (Contains-append_cases before run _ (there act (Contains-append_right before run _ (listed run act u one found)))) [
      | inl is ↦ let lt : act < act = All-contains (λ a. a.act < act) before (record { importer = v; act = act }) earlier is in absurd (omega arith)
      | inr is ↦ All-contains (λ m. next ≤ slice_index classes' m.importer) run (record { importer = v; act = act }) moved is
    ]

-- what holds of the acts of earlier runs holds with this run, where both importers moved or neither
alike_after : (before run : List Import) (act u v : ℕ) → All (λ a. a.act ≡ act) run → (Any (λ m. m.importer ≡ u) run → Any (λ m. m.importer ≡ v) run) →
    ((x : ℕ) → Contains before (record { importer = u; act = x }) → Contains before (record { importer = v; act = x })) → (x : ℕ) →
    Contains (before ++ run) (record { importer = u; act = x }) → Contains (before ++ run) (record { importer = v; act = x })
alike_after before run act u v one moves there x found = elim (Contains-append_cases before run _ found) [
  | inl is ↦ Contains-append_left before run _ (there x is)
  | inr (k, inside, at) ↦
      let e : x ≡ act = All-contains (λ a. a.act ≡ act) run (record { importer = u; act = x }) one (k, inside, at) in
      let other = listed run act v one (moves (k, record { importer = u; act = x }, inside, at, refl)) in
      Contains-append_right before run _ (subst (λ y. Contains run (record { importer = v; act = y })) (sym e) other)
]

any_before : (before run : List Import) (u : ℕ) → Any (λ m. m.importer ≡ u) before → Any (λ m. m.importer ≡ u) (before ++ run)
any_before before run u (k, m, inside, at, is) =
    let (j, within, at') = Contains-append_left before run m (k, inside, at) in (j, m, within, at', is)

any_run : (before run : List Import) (u : ℕ) → Any (λ m. m.importer ≡ u) run → Any (λ m. m.importer ≡ u) (before ++ run)
any_run before run u (k, m, inside, at, is) =
    let (j, within, at') = Contains-append_right before run m (k, inside, at) in (j, m, within, at', is)

pub classes_more : (numbers : List ℕ) (before run : List Import) (count : ℕ) (classes classes' : List ℕ) (next next' act : ℕ) →
    All (λ a. a.importer < length numbers) before → AreClasses numbers before count classes next → IsSeparated classes classes' run next next' →
    All (λ a. a.act < act) before → All (λ a. a.act ≡ act) run → AreClasses numbers (before ++ run) count classes' next'
classes_more numbers before run count classes classes' next next' act in_range are separated earlier one =
    let total = are.total in
    let pre : (u v : ℕ) → u < length numbers → v < length numbers → slice_index classes' u ≡ slice_index classes' v →
    slice_index classes u ≡ slice_index classes v = λ u v hu hv same.
    elim (cases_lt (slice_index classes' u) next) [
      | inl low ↦ sym (separated.stay u (omega arith) low) ∙ same ∙ separated.stay v (omega arith) (omega arith)
      | inr high ↦ separated.apart u v (omega arith) (omega arith) high same
    ] in
    let follows : (u v : ℕ) → u < length numbers → v < length numbers → slice_index classes' u ≡ slice_index classes' v → Any (λ m. m.importer ≡ u) run →
    Any (λ m. m.importer ≡ v) run = λ u v hu hv same found.
    let (k, m, inside, at, is) = found in
    let high : next ≤ slice_index classes' m.importer = subst (λ (x : Import). next ≤ slice_index classes' x.importer) at (separated.moved k m inside) in
    let e : slice_index classes' m.importer ≡ slice_index classes' u = ap (λ i. slice_index classes' i) is in
    separated.only v (omega arith) (omega arith) in
    record {
      total = separated.total ∙ total;
      low = let low = are.low in let low' = separated.low in omega arith;
      few = let few = are.few in let few' = separated.few in let size = length-append before run in omega arith;
      below = separated.below;
      stay = λ u hu none.
          let low : slice_index classes' u < next = elim (cases_lt (slice_index classes' u) next) [
            | inl lt ↦ lt
            | inr high ↦ absurd (none (any_run before run u (separated.only u (omega arith) high)))
          ] in
          separated.stay u (omega arith) low ∙ are.stay u hu (λ found. none (any_before before run u found));
      moved = All-append (λ a. count ≤ slice_index classes' a.importer) before run
          (λ k d inside.
          let u : ℕ = (slice_index_or before k d).importer in
          let hu : u < length numbers = in_range k d inside in
          let was : count ≤ slice_index classes u = are.moved k d inside in
          let low = are.low in
          elim (cases_lt (slice_index classes' u) next) [
            | inl lt ↦ let e = separated.stay u (omega arith) lt in omega arith
            | inr high ↦ omega arith
          ])
          (All-weaker (λ a. next ≤ slice_index classes' a.importer) (λ a. count ≤ slice_index classes' a.importer) (λ a high. let low = are.low in omega arith)
          run separated.moved);
      together = λ u v hu hv same alike.
          let was : slice_index classes u ≡ slice_index classes v = are.together u v hu hv same (record {
            there = alike_before before run act u v earlier one alike.there;
            back = alike_before before run act v u earlier one alike.back;
          }) in
          elim (cases_lt (slice_index classes' u) next) [
            | inl low ↦ elim (cases_lt (slice_index classes' v) next) [
              | inl low' ↦ separated.stay u (omega arith) low ∙ was ∙ sym (separated.stay v (omega arith) low')
              | inr high' ↦ let high = moves_too before run classes' next act v u earlier one separated.moved (separated.only v (omega arith) high')
                  alike.back in absurd (omega arith)
            ]
            | inr high ↦ separated.together u v (omega arith) (omega arith) high
                (moves_too before run classes' next act u v earlier one separated.moved (separated.only u (omega arith) high) alike.there) was
          ];
      same = λ u v hu hv e. are.same u v hu hv (pre u v hu hv e);
      alike = λ u v hu hv e.
          let was = are.alike u v hu hv (pre u v hu hv e) in
          record {
            there = alike_after before run act u v one (follows u v hu hv e) was.there;
            back = alike_after before run act v u one (follows v u hv hu (sym e)) was.back;
          };
    }

pub classes_start : (numbers : List ℕ) (arrivals : List Import) (count : ℕ) → All (λ n. n < count) numbers →
    AreClasses numbers (take 0 arrivals) count numbers count
classes_start numbers arrivals count below = record {
  total = refl;
  low = omega arith;
  few = omega arith;
  below = below;
  stay = λ u hu none. refl;
  moved = λ k d inside. absurd (omega arith);
  together = λ u v hu hv same alike. same;
  same = λ u v hu hv same. same;
  alike = λ u v hu hv same. record { there = λ act (k, inside, at). absurd (omega arith); back = λ act (k, inside, at). absurd (omega arith) };
}

take_shorter : (s n : ℕ) (xs : List Import) → s ≤ n → take s (take n xs) ≡ take s xs
take_shorter zero n xs le = refl
take_shorter (suc s) zero xs le = absurd (omega arith)
take_shorter (suc s) (suc n) [] le = refl
take_shorter (suc s) (suc n) (x ∷ xs) le = ap (λ (ys : List Import). x ∷ ys) (take_shorter s n xs (omega arith))

take_run : (s m n : ℕ) (xs : List Import) → n ≡ s + m → take n xs ≡ take s xs ++ take m (drop s xs)
take_run s m n xs e =
    ap (λ i. take i xs) e ∙ sym (take-append-drop s (take (s + m) xs))
    ∙ ap (λ (ys : List Import). ys ++ drop s (take (s + m) xs)) (take_shorter s (s + m) xs (omega arith))
    ∙ ap (λ (ys : List Import). take s xs ++ ys) (drop-take s m xs)

-- the run from `start` to `end`
pub classes_to : (numbers : List ℕ) (arrivals : List Import) (count start end : ℕ) (classes classes' : List ℕ) (next next' : ℕ) → start < end →
    end ≤ length arrivals → All (λ a. a.importer < length numbers) arrivals →
    ((i j : ℕ) (d : Import) → i < start → start ≤ j → j < length arrivals →
    act_of_import (slice_index_or arrivals i d) < act_of_import (slice_index_or arrivals j d)) →
    ((i : ℕ) (d : Import) → start ≤ i → i < end → act_of_import (slice_index_or arrivals i d) ≡ act_of_import (slice_index_or arrivals start d)) →
    AreClasses numbers (take start arrivals) count classes next → IsSeparated classes classes' (take (end - start) (drop start arrivals)) next next' →
    AreClasses numbers (take end arrivals) count classes' next'
classes_to numbers arrivals count start end classes classes' next next' more within in_range apart same are separated =
    let none : Import = record { importer = 0; act = 0 } in
    let act : ℕ = act_of_import (slice_index_or arrivals start none) in
    let run : List Import = take (end - start) (drop start arrivals) in
    let first : (d : Import) → act_of_import (slice_index_or arrivals start d) ≡ act =
    λ d. ap act_of_import (get_or_default arrivals start d none (omega arith)) in
    let earlier : All (λ a. a.act < act) (take start arrivals) = λ k d inside.
    let size : length (take start arrivals) ≤ start = omega (arith, length-take start arrivals) in
    let lt = apart k start d (omega arith) (omega arith) (omega arith) in
    let at = ap act_of_import (get_or-take start arrivals k d (omega arith)) in
    let e = first d in omega arith in
    let one : All (λ a. a.act ≡ act) run = λ k d inside.
    let size : length run ≤ end - start = omega (arith, length-take (end - start) (drop start arrivals)) in
    let at = ap act_of_import (get_or-take (end - start) (drop start arrivals) k d (omega arith)) in
    let at' = ap act_of_import (get_or-drop start arrivals k d) in
    let is = same (start + k) d (omega arith) (omega arith) in
    at ∙ at' ∙ is ∙ first d in
    rw (take_run start (end - start) end arrivals (omega arith))
    (classes_more numbers (take start arrivals) run count classes classes' next next' act (All-take (λ a. a.importer < length numbers) start arrivals in_range)
    are separated earlier one)
