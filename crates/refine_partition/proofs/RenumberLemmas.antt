-- One more router is renumbered.
use Rattle.std.proofs.Common.{◌≡◌, ◌≢◌, ℕ, zero, suc, ◌+◌, ◌-◌, ◌<◌, ◌≤◌, Bool, true, false, nat_eq, List, [], ◌∷◌, ◌++◌, length, slice_set, take, All, Contains, Option, Some, None, Vec, refl, sym, ◌∙◌, ap, subst, arith, inl, inr}
use Rattle.std.specs.Prelude.{slice_index, ◌⊎◌, ◌||◌}
use Rattle.std.specs.List.{list_any}
use Rattle.std.specs.declared.alloc.Global.{Global}
use Rattle.std.proofs.lemmas.Bool.{cases_eq, cases_lt}
use Rattle.std.proofs.lemmas.List.{get_or-set_same, get_or-set_other, length_push, get_or_push, get_or_append_left, get_or_default, get_or-take, length-take, take_more}
use Rattle.std.proofs.lemmas.List.Elements.{Contains-append_left, Contains-push, Contains-push_cases, Contains-get_or, All-contains, All-take}
use Rattle.std.proofs.lemmas.Map.Steps.{le-length_from_below}
use Rattle.std.proofs.Math.ListN.{length-set}
use Rattle.base_kit.specs.Partition.{members_of}
use Rattle.refine_partition.specs.Splits.{StandsBeforeByBlock}
use Rattle.refine_partition.specs.Renumbering.{IsNextNumber, IsRefined, IsQueueOf, IsRenumbered}
use Rattle.refine_partition.proofs.MemberLemmas.{same_test, members_all, member, IsMember}
use Rattle.refine_partition.proofs.QueueLemmas.{rising, members_rise}

-- no router of the block stands before its first member
pub first_least : (numbers : List ℕ) (block u : ℕ) → u < length numbers → slice_index numbers u ≡ block → slice_index (members_of numbers block) 0 ≤ u
first_least numbers block u below is =
    let (k, inside, at) = member numbers block u below is in
    let at' : slice_index (members_of numbers block) k ≡ u = get_or_default (members_of numbers block) k 0 u inside ∙ at in
    elim (cases_eq k 0) [
      | inl e ↦ let e' = ap (slice_index (members_of numbers block)) e in omega arith
      | inr ne ↦ let up = rising (members_of numbers block) 0 k (members_rise numbers block) (omega arith) inside in omega arith
    ]

-- the first member of a block that has one
pub first_member : (numbers : List ℕ) (block u : ℕ) → u < length numbers → slice_index numbers u ≡ block →
    IsMember numbers block (slice_index (members_of numbers block) 0)
first_member numbers block u below is =
    let (k, inside, at) = member numbers block u below is in
    members_all numbers block 0 0 (omega arith)

-- what holds while the first routers of the queue are renumbered, with the numbers of their classes
pub record Renumbering (numbers classes done : List ℕ) (before : ℕ) (next origins : List ℕ) (names : ℕ → Option ℕ) : Type 0 where
  pub total : length next ≡ length numbers
  pub rest : (u : ℕ) → u < length numbers → ¬ Contains done u → slice_index next u ≡ slice_index numbers u
  pub named : (u : ℕ) → Contains done u → names (slice_index classes u) ≡ Some (slice_index next u)
  pub back : (class number : ℕ) → names class ≡ Some number → (u : ℕ) × Contains done u × (slice_index classes u ≡ class) × (slice_index next u ≡ number)
  pub one : (a b number : ℕ) → names a ≡ Some number → names b ≡ Some number → a ≡ b
  pub kept : (u : ℕ) → Contains done u → slice_index next u < before → slice_index next u ≡ slice_index numbers u
  pub below : (u : ℕ) → Contains done u → slice_index next u < before + length origins
  pub origin : (u k : ℕ) → Contains done u → slice_index next u ≡ before + k → slice_index origins k ≡ slice_index numbers u
  pub least : (v : ℕ) → v < length numbers → ((u : ℕ) → u < v → slice_index numbers u ≢ slice_index numbers v) → slice_index next v ≡ slice_index numbers v
  pub used : (k : ℕ) → k < length origins → (u : ℕ) × Contains done u × (slice_index next u ≡ before + k)
  pub in_order : (i number : ℕ) → i < length done → before ≤ number → number < slice_index next (slice_index done i) →
      (j : ℕ) × (j < i) × (slice_index next (slice_index done j) ≡ number)

pub renumbered_all : (numbers classes queue : List ℕ) (before : ℕ) (next origins : List ℕ) (names : ℕ → Option ℕ) →
    Renumbering numbers classes queue before next origins names → IsRenumbered numbers classes queue before next origins
renumbered_all numbers classes queue before next origins names so_far = record {
  total = so_far.total;
  rest = so_far.rest;
  together = λ u v hu hv same. let a = so_far.named u hu in let b = so_far.named v hv in let e = ap names same in cc;
  apart = λ u v hu hv same. so_far.one _ _ (slice_index next u) (so_far.named u hu) (so_far.named v hv ∙ ap (λ n. Some n) (sym same));
  kept = so_far.kept;
  below = so_far.below;
  origin = so_far.origin;
  least = so_far.least;
  used = so_far.used;
  in_order = so_far.in_order;
}

pub renumbered_none : (numbers classes queue : List ℕ) (before : ℕ) (names : ℕ → Option ℕ) → ((class : ℕ) → names class ≡ None) →
    All (λ n. n < before) numbers → Renumbering numbers classes (take 0 queue) before numbers [] names
renumbered_none numbers classes queue before names none below = record {
  total = refl;
  rest = λ u hu away. refl;
  named = λ u (k, inside, at). absurd (omega arith);
  back = λ class number is. let no = none class in absurd cc;
  one = λ a b number is. let no = none a in absurd cc;
  kept = λ u (k, inside, at). absurd (omega arith);
  below = λ u (k, inside, at). absurd (omega arith);
  origin = λ u k (j, inside, at). absurd (omega arith);
  least = λ v hv first. refl;
  used = λ k inside. absurd (omega arith);
  in_order = λ i number inside. absurd (omega arith);
}

pub any_at : (xs : List ℕ) (q k : ℕ) → k < length xs → slice_index xs k ≡ q → list_any (nat_eq q) xs ≡ true
any_at [] q k inside at = absurd (omega arith)
any_at (x ∷ xs) q zero inside at = rw (same_test q x (sym at)) refl
any_at (x ∷ xs) q (suc k) inside at = by (nat_eq q x) (any_at xs q k (omega arith) at)
  where
    by : (b : Bool) → list_any (nat_eq q) xs ≡ true → b || list_any (nat_eq q) xs ≡ true
    by true found = refl
    by false found = found

-- no more numbers than routers
pub few_numbers : (numbers classes done : List ℕ) (blocks : List (Vec ℕ Global)) (class_count : ℕ) (next origins : List ℕ) (names : ℕ → Option ℕ) →
    IsRefined numbers blocks classes class_count → All (λ u. u < length numbers) done → Renumbering numbers classes done (length blocks) next origins names →
    length blocks + length origins ≤ length numbers
few_numbers numbers classes done blocks class_count next origins names given below so_far =
    let total = so_far.total in
    let bound : length blocks + length origins ≤ length next = le-length_from_below next (length blocks + length origins) (λ q inside.
    elim (cases_lt q (length blocks)) [
      | inl old ↦
          let (u, hu, is) = given.nonempty q old in
          let first = first_member numbers q u hu is in
          let v : ℕ = slice_index (members_of numbers q) 0 in
          let hv = first.below in
          let stays : slice_index next v ≡ slice_index numbers v = so_far.least v hv (λ w less same.
          let le = first_least numbers q w (omega arith) (same ∙ first.is) in omega arith) in
          any_at next q v (omega arith) (stays ∙ first.is)
      | inr new ↦
          let (u, found, is) = so_far.used (q - length blocks) (omega arith) in
          let hu : u < length numbers = All-contains (λ w. w < length numbers) done u below found in
          any_at next q u (omega arith) (is ∙ omega arith)
    ]) in
    omega arith

-- one more router takes this number
pub renumbered_more : (numbers classes done : List ℕ) (before : ℕ) (next origins origins' : List ℕ) (names names' : ℕ → Option ℕ) (router class number : ℕ) →
    Renumbering numbers classes done before next origins names → router < length numbers → ((w : ℕ) → Contains done w → StandsBeforeByBlock numbers w router) →
    slice_index classes router ≡ class → names' class ≡ Some number → ((other : ℕ) → other ≢ class → names' other ≡ names other) →
    ((names class ≡ Some number) ⊎ ((names class ≡ None) × ((w : ℕ) → Contains done w → slice_index next w ≢ number))) →
    (number < before → number ≡ slice_index numbers router) → number < before + length origins' →
    ((k : ℕ) → number ≡ before + k → slice_index origins' k ≡ slice_index numbers router) → length origins ≤ length origins' →
    ((k : ℕ) → k < length origins → slice_index origins' k ≡ slice_index origins k) →
    ((k : ℕ) → length origins ≤ k → k < length origins' → number ≡ before + k) →
    (((u : ℕ) → u < router → slice_index numbers u ≢ slice_index numbers router) → number ≡ slice_index numbers router) →
    ((q : ℕ) → before ≤ q → q < number → (j : ℕ) × (j < length done) × (slice_index next (slice_index done j) ≡ q)) →
    Renumbering numbers classes (done ++ router ∷ []) before (slice_set next router number) origins' names'
renumbered_more numbers classes done before next origins origins' names names' router class number so_far inside stands is named others was kept below origin
    longer prefix new least earlier =
    let next' : List ℕ = slice_set next router number in
    let total = so_far.total in
    let here : slice_index next' router ≡ number = get_or-set_same next router number 0 (omega arith) in
    let there : (u : ℕ) → u ≢ router → slice_index next' u ≡ slice_index next u = λ u ne. get_or-set_other next router u number 0 ne in
    let apart : (w : ℕ) → Contains done w → w ≢ router = λ w found e. elim (stands w found) [
      | inl lt ↦ let e' = ap (slice_index numbers) e in absurd (omega arith)
      | inr same ↦ let lt = same.1 in absurd (omega arith)
    ] in
    let old : (w : ℕ) → Contains done w → slice_index next' w ≡ slice_index next w = λ w found. there w (apart w found) in
    let here_at : (u : ℕ) → router ≡ u → slice_index next' u ≡ number = λ u e. ap (slice_index next') (sym e) ∙ here in
    let numbers_at : (u : ℕ) → router ≡ u → slice_index numbers router ≡ slice_index numbers u = λ u e. ap (slice_index numbers) e in
    let cases : (u : ℕ) → Contains (done ++ router ∷ []) u → Contains done u ⊎ (router ≡ u) = λ u found. Contains-push_cases done router u found in
    let by_class : (a n : ℕ) → names' a ≡ Some n → ((a ≡ class) × (n ≡ number)) ⊎ ((a ≢ class) × (names a ≡ Some n)) = λ a n found. elim (cases_eq a class) [
      | inl e ↦ inl (e, let found' = ap names' (sym e) ∙ found in cc)
      | inr ne ↦ inr (ne, sym (others a ne) ∙ found)
    ] in
    let only_one : (b : ℕ) → names b ≡ Some number → b ≡ class = λ b found. elim was [
      | inl known ↦ so_far.one b class number found known
      | inr fresh ↦ let (w, has, at, n) = so_far.back b number found in absurd (fresh.1 w has n)
    ] in
    record {
      total = length-set next router number ∙ total;
      rest = λ u hu away. there u (λ e. away (subst (Contains (done ++ router ∷ [])) (sym e) (Contains-push done router)))
          ∙ so_far.rest u hu (λ found. away (Contains-append_left done (router ∷ []) u found));
      named = λ u found. elim (cases u found) [
        | inl earlier' ↦
            let was_named = so_far.named u earlier' in
            let v = old u earlier' in
            elim (cases_eq (slice_index classes u) class) [
              | inl e ↦
                  let was_named' : names class ≡ Some (slice_index next u) = ap names (sym e) ∙ was_named in
                  elim was [
                    | inl known ↦ ap names' e ∙ named ∙ sym known ∙ was_named' ∙ ap (λ n. Some n) (sym v)
                    | inr fresh ↦ let none = fresh.0 in absurd cc
                  ]
              | inr ne ↦ others _ ne ∙ was_named ∙ ap (λ n. Some n) (sym v)
            ]
        | inr e ↦ ap names' (ap (slice_index classes) (sym e) ∙ is) ∙ named ∙ ap (λ n. Some n) (sym (here_at u e))
      ];
      back = λ a n found. elim (by_class a n found) [
        | inl e ↦ (router, Contains-push done router, is ∙ sym e.0, here ∙ sym e.1)
        | inr o ↦ let (w, has, at, m) = so_far.back a n o.1 in (w, Contains-append_left done (router ∷ []) w has, at, old w has ∙ m)
      ];
      one = λ a b n first second. elim (by_class a n first) [
        | inl e ↦ elim (by_class b n second) [
          | inl e' ↦ e.0 ∙ sym e'.0
          | inr o' ↦ e.0 ∙ sym (only_one b (o'.1 ∙ ap (λ m. Some m) e.1))
        ]
        | inr o ↦ elim (by_class b n second) [
          | inl e' ↦ only_one a (o.1 ∙ ap (λ m. Some m) e'.1) ∙ sym e'.0
          | inr o' ↦ so_far.one a b n o.1 o'.1
        ]
      ];
      kept = λ u found low. elim (cases u found) [
        | inl h ↦ let v = old u h in v ∙ so_far.kept u h (omega arith)
        | inr e ↦ let v = here_at u e in v ∙ kept (omega arith) ∙ numbers_at u e
      ];
      below = λ u found. elim (cases u found) [
        | inl h ↦ let v = old u h in let lt = so_far.below u h in omega arith
        | inr e ↦ let v = here_at u e in omega arith
      ];
      origin = λ u k found at. elim (cases u found) [
        | inl h ↦ let v = old u h in let lt = so_far.below u h in prefix k (omega arith) ∙ so_far.origin u k h (sym v ∙ at)
        | inr e ↦ let v = here_at u e in origin k (sym v ∙ at) ∙ numbers_at u e
      ];
      least = λ v hv first. elim (cases_eq v router) [
        | inl e ↦ here_at v (sym e) ∙ least (λ u less same. first u (omega arith) (same ∙ numbers_at v (sym e))) ∙ numbers_at v (sym e)
        | inr ne ↦ there v ne ∙ so_far.least v hv first
      ];
      used = λ k within. elim (cases_lt k (length origins)) [
        | inl lt ↦ let (w, has, at) = so_far.used k lt in (w, Contains-append_left done (router ∷ []) w has, old w has ∙ at)
        | inr le ↦ (router, Contains-push done router, here ∙ new k le within)
      ];
      in_order = λ i q within low high.
          let size = length_push done router in
          elim (cases_lt i (length done)) [
            | inl lt ↦
                let at_i : slice_index (done ++ router ∷ []) i ≡ slice_index done i = get_or_append_left done (router ∷ []) 0 i lt in
                let v = old (slice_index done i) (Contains-get_or done i 0 lt) in
                let high' : q < slice_index next (slice_index done i) = subst (λ n. q < n) (ap (slice_index next') at_i ∙ v) high in
                let (j, less, at) = so_far.in_order i q lt low high' in (
                  j,
                  less,
                  ap (slice_index next') (get_or_append_left done (router ∷ []) 0 j (omega arith))
                      ∙ old (slice_index done j) (Contains-get_or done j 0 (omega arith)) ∙ at,
                )
            | inr le ↦
                let at_i : slice_index (done ++ router ∷ []) i ≡ router = get_or_push done router 0 i (omega arith) in
                let high' : q < number = subst (λ n. q < n) (ap (slice_index next') at_i ∙ here) high in
                let (j, less, at) = earlier q low high' in (
                  j,
                  omega arith,
                  ap (slice_index next') (get_or_append_left done (router ∷ []) 0 j less)
                      ∙ old (slice_index done j) (Contains-get_or done j 0 less) ∙ at,
                )
          ];
    }

-- the first routers of a queue stand before the next one
stands_before : (numbers queue : List ℕ) (k w : ℕ) → IsQueueOf numbers queue → k < length queue → Contains (take k queue) w →
    StandsBeforeByBlock numbers w (slice_index queue k)
stands_before numbers queue k w queued here (i, inside, at) =
    let size = length-take k queue in
    let less : i < k = omega arith in
    let at' : slice_index queue i ≡ w = sym (get_or-take k queue i 0 less) ∙ get_or_default (take k queue) i 0 w inside ∙ at in
    subst (λ u. StandsBeforeByBlock numbers u (slice_index queue k)) at' (queued.in_order i k less here)

pub place_of : (done : List ℕ) (w : ℕ) → Contains done w → (j : ℕ) × (j < length done) × (slice_index done j ≡ w)
place_of done w (j, inside, at) = (j, inside, get_or_default done j 0 w inside ∙ at)

pub renumbered_next : (numbers classes queue : List ℕ) (before k : ℕ) (next origins origins' : List ℕ) (names names' : ℕ → Option ℕ) (number : ℕ) →
    All (λ n. n < before) numbers → ((u v : ℕ) → u < length numbers → v < length numbers → slice_index classes u ≡ slice_index classes v →
    slice_index numbers u ≡ slice_index numbers v) → IsQueueOf numbers queue → k < length queue →
    Renumbering numbers classes (take k queue) before next origins names →
    IsNextNumber (names (slice_index classes (slice_index queue k))) numbers (slice_index queue k) before origins origins' number →
    names' (slice_index classes (slice_index queue k)) ≡ Some number → ((other : ℕ) → other ≢ slice_index classes (slice_index queue k) →
    names' other ≡ names other) → Renumbering numbers classes (take (k + 1) queue) before (slice_set next (slice_index queue k) number) origins' names'
renumbered_next numbers classes queue before k next origins origins' names names' number below same queued here so_far chosen named others =
    let block : ℕ = slice_index numbers (slice_index queue k) in
    let router : ℕ = slice_index queue k in
    let class : ℕ = slice_index classes router in
    let done : List ℕ = take k queue in
    let inside : router < length numbers = queued.below k 0 here in
    let stands : (w : ℕ) → Contains done w → StandsBeforeByBlock numbers w router = λ w found. stands_before numbers queue k w queued here found in
    let in_range : (w : ℕ) → Contains done w → w < length numbers =
    λ w found. All-contains (λ u. u < length numbers) done w (All-take (λ u. u < length numbers) k queue queued.below) found in
    let not_first : (w : ℕ) → Contains done w → slice_index numbers w ≡ slice_index numbers router → w < router = λ w found same. elim (stands w found) [
      | inl lt ↦ absurd (omega arith)
      | inr e ↦ e.1
    ] in
    let low : slice_index numbers router < before = below router 0 inside in
    rw (take_more queue k 0 here)
    (elim chosen [
      | inl old ↦
          let (w, found, at, is) = so_far.back class number old.0 in
          let together : slice_index numbers w ≡ slice_index numbers router = same w router (in_range w found) inside at in
          let lt = so_far.below w found in
          renumbered_more numbers classes done before next origins origins' names names' router class number so_far inside stands refl named others
          (inl old.0)
          (λ small. sym is ∙ so_far.kept w found (omega arith) ∙ together)
          (let e = ap length old.1 in omega arith)
          (λ j at_j. ap (λ (xs : List ℕ). slice_index xs j) old.1 ∙ so_far.origin w j found (is ∙ at_j) ∙ together)
          (let e = ap length old.1 in omega arith)
          (λ j within. ap (λ (xs : List ℕ). slice_index xs j) old.1)
          (λ j le within. let e = ap length old.1 in absurd (omega arith))
          (λ first. absurd (first w (not_first w found together) together))
          (λ q le less. let (i, at_i, is_w) = place_of done w found in
          let (j, before_i, e) = so_far.in_order i q at_i le (let e' = ap (slice_index next) is_w in omega arith) in (j, omega arith, e))
      | inr (none, inl own) ↦
          let is : number ≡ slice_index numbers router = own.1 in
          renumbered_more numbers classes done before next origins origins' names names' router class number so_far inside stands refl named others
          (inr (
            none,
            λ w found same.
                let kept = so_far.kept w found (omega arith) in
                let together : slice_index numbers w ≡ slice_index numbers router = sym kept ∙ same ∙ is in
                own.0 w (not_first w found together) together,
          ))
          (λ small. is)
          (omega arith)
          (λ j at_j. absurd (omega arith))
          (let e = ap length own.2 in omega arith)
          (λ j within. ap (λ (xs : List ℕ). slice_index xs j) own.2)
          (λ j le within. let e = ap length own.2 in absurd (omega arith))
          (λ first. is)
          (λ q le less. absurd (omega arith))
      | inr (none, inr new) ↦
          let is : number ≡ before + length origins = new.1 in
          let size : length origins' ≡ length origins + 1 = ap length new.2 ∙ length_push origins block in
          renumbered_more numbers classes done before next origins origins' names names' router class number so_far inside stands refl named others
          (inr (none, λ w found same. let lt = so_far.below w found in absurd (omega arith)))
          (λ small. absurd (omega arith))
          (omega arith)
          (λ j at_j. ap (λ (xs : List ℕ). slice_index xs j) new.2 ∙ get_or_push origins block 0 j (omega arith))
          (omega arith)
          (λ j within. ap (λ (xs : List ℕ). slice_index xs j) new.2 ∙ get_or_append_left origins (block ∷ []) 0 j within)
          (λ j le within. omega arith)
          (λ first. let (u, less, same) = new.0 in absurd (first u less same))
          (λ q le less.
          let (w, found, e) = so_far.used (q - before) (omega arith) in
          let (j, at_j, is_w) = place_of done w found in
          (j, at_j, ap (slice_index next) is_w ∙ e ∙ omega arith))
    ])
