-- The members of the blocks after a split.
use Rattle.std.proofs.Common.{◌≡◌, ◌≢◌, ℕ, suc, ◌+◌, ◌-◌, ◌<◌, ◌≤◌, Bool, true, false, cond, nat_eq, nat_lt, List, [], ◌∷◌, ◌++◌, length, get_or, slice_set, take, filter, All, Contains, Vec, refl, sym, ◌∙◌, ap, subst, arith, inl, inr}
use Rattle.std.specs.Prelude.{slice_index, ◌==◌}
use Rattle.std.specs.List.{range_with_len}
use Rattle.std.specs.List.Sorted.{IsStrictlyIncreasing}
use Rattle.std.specs.declared.alloc.Global.{Global}
use Rattle.std.proofs.lemmas.Bool.{cases_eq, cases_lt, lt-ltb}
use Rattle.std.proofs.lemmas.List.{get_or-set_same, get_or-set_other, length-append, get_or_append_left, get_or-append_right, get_or_default, get_or-take, length-take, take_more}
use Rattle.std.proofs.lemmas.List.FromFn.{length-range_with_len, get_or-range_with_len}
use Rattle.std.proofs.lemmas.List.Elements.{All-contains, All-from_get_or, Contains-push_cases, Contains-push, Contains-append_left}
use Rattle.std.proofs.lemmas.Map.Steps.{le-length_from_below}
use Rattle.std.proofs.Math.ListN.{length-set}
use Rattle.base_kit.specs.declared.act_graph.ActGraph.{ActGraph}
use Rattle.base_kit.specs.Partition.{members_of}
use Rattle.refine_partition.specs.Planned.{AreNumbered, IsPlanned}
use Rattle.refine_partition.specs.Kept.{is_numbered, AreFurther, AreKept}
use Rattle.refine_partition.proofs.MemberLemmas.{same_test, other_test}
use Rattle.refine_partition.proofs.QueueLemmas.{rising}
use Rattle.refine_partition.proofs.RenumberLemmas.{first_least, first_member, any_at}
use Rattle.refine_partition.proofs.PlanLemmas.{contains_or_not}

-- two filters in turn are one
filter_filter : (p q r : ℕ → Bool) (xs : List ℕ) → ((k : ℕ) → k < length xs → cond (q (slice_index xs k)) (p (slice_index xs k)) false ≡ r (slice_index xs k)) →
    filter p (filter q xs) ≡ filter r xs
filter_filter p q r [] agree = refl
filter_filter p q r (x ∷ xs) agree = by (q x) (agree 0 (omega arith)) (filter_filter p q r xs (λ k inside. agree (suc k) (omega arith)))
  where
    by : (b : Bool) → cond b (p x) false ≡ r x → filter p (filter q xs) ≡ filter r xs →
        filter p (cond b (x ∷ filter q xs) (filter q xs)) ≡ cond (r x) (x ∷ filter r xs) (filter r xs)
    by true e same = ap (λ b. cond b (x ∷ filter p (filter q xs)) (filter p (filter q xs))) e ∙ ap (λ (ys : List ℕ). cond (r x) (x ∷ ys) ys) same
    by false e same = same ∙ ap (λ b. cond b (x ∷ filter r xs) (filter r xs)) e

filter_same_tests : (p r : ℕ → Bool) (xs : List ℕ) → ((k : ℕ) → k < length xs → p (slice_index xs k) ≡ r (slice_index xs k)) → filter p xs ≡ filter r xs
filter_same_tests p r [] agree = refl
filter_same_tests p r (x ∷ xs) agree =
    ap (λ b. cond b (x ∷ filter p xs) (filter p xs)) (agree 0 (omega arith))
    ∙ ap (λ (ys : List ℕ). cond (r x) (x ∷ ys) ys) (filter_same_tests p r xs (λ k inside. agree (suc k) (omega arith)))

in_range_at : (n k : ℕ) → k < length (range_with_len 0 n) → slice_index (range_with_len 0 n) k < n
in_range_at n k inside =
    let size = length-range_with_len 0 n in
    let at = get_or-range_with_len 0 n k 0 (omega arith) in
    omega arith

either : (b : Bool) → cond b false false ≡ false
either true = refl
either false = refl

-- the members of a block that get a number are all that have it, if it goes to that block alone
pub filter_members : (numbers next : List ℕ) (from number : ℕ) → length next ≡ length numbers →
    ((u : ℕ) → u < length numbers → slice_index next u ≡ number → slice_index numbers u ≡ from) →
    filter (is_numbered next number) (members_of numbers from) ≡ members_of next number
filter_members numbers next from number total only =
    filter_filter (is_numbered next number) (λ u. slice_index numbers u == from) (λ u. slice_index next u == number) (range_with_len 0 (length numbers))
    (λ k inside. by (slice_index (range_with_len 0 (length numbers)) k) (in_range_at (length numbers) k inside))
    ∙ ap (λ n. filter (λ u. slice_index next u == number) (range_with_len 0 n)) (sym total)
  where
    by : (u : ℕ) → u < length numbers → cond (nat_eq (slice_index numbers u) from) (is_numbered next number u) false ≡ nat_eq (slice_index next u) number
    by u hu =
        let within : nat_lt u (length next) ≡ true = lt-ltb u (length next) (omega arith) in
        elim (cases_eq (slice_index next u) number) [
          | inl e ↦
              let first : nat_eq (slice_index numbers u) from ≡ true = same_test _ _ (only u hu e) in
              let second : nat_eq (slice_index next u) number ≡ true = same_test _ _ e in
              rw (first, within, second) refl
          | inr ne ↦
              let second : nat_eq (slice_index next u) number ≡ false = other_test _ _ ne in
              rw (within, second) (either (nat_eq (slice_index numbers u) from))
        ]

pub members_same : (numbers next : List ℕ) (old number : ℕ) → length next ≡ length numbers →
    ((u : ℕ) → u < length numbers → slice_index next u ≡ number → slice_index numbers u ≡ old) →
    ((u : ℕ) → u < length numbers → slice_index numbers u ≡ old → slice_index next u ≡ number) → members_of numbers old ≡ members_of next number
members_same numbers next old number total back there =
    filter_same_tests (λ u. slice_index numbers u == old) (λ u. slice_index next u == number) (range_with_len 0 (length numbers))
    (λ k inside. by (slice_index (range_with_len 0 (length numbers)) k) (in_range_at (length numbers) k inside))
    ∙ ap (λ n. filter (λ u. slice_index next u == number) (range_with_len 0 n)) (sym total)
  where
    by : (u : ℕ) → u < length numbers → nat_eq (slice_index numbers u) old ≡ nat_eq (slice_index next u) number
    by u hu = elim (cases_eq (slice_index next u) number) [
      | inl e ↦ same_test _ _ (back u hu e) ∙ sym (same_test _ _ e)
      | inr ne ↦ other_test _ _ (λ e. ne (there u hu e)) ∙ sym (other_test _ _ ne)
    ]

pub kept_more : (next touched : List ℕ) (old blocks : List (Vec ℕ Global)) (k : ℕ) (members members' : Vec ℕ Global) →
    AreKept next (take k touched) old blocks → k < length touched → IsStrictlyIncreasing touched → slice_index touched k < length old →
    members ≡ get_or blocks (slice_index touched k) members → members'.items ≡ filter (is_numbered next (slice_index touched k)) members.items →
    AreKept next (take (k + 1) touched) old (slice_set blocks (slice_index touched k) members')
kept_more next touched old blocks k members members' are here up inside read made =
    let block : ℕ = slice_index touched k in
    let total = are.total in
    let not_before : ¬ Contains (take k touched) block = λ found.
    let (i, within, at) = found in
    let size = length-take k touched in
    let at' : slice_index touched i ≡ block = sym (get_or-take k touched i 0 (omega arith)) ∙ get_or_default (take k touched) i 0 block within ∙ at in
    let less = rising touched i k up (omega arith) here in
    omega arith in
    rw (take_more touched k 0 here) (record {
      total = length-set blocks block members' ∙ total;
      touched_blocks = λ b d hb found. elim (cases_eq b block) [
        | inl e ↦
            let set : get_or (slice_set blocks block members') b d ≡ members' = ap (λ i. get_or (slice_set blocks block members') i d) e
            ∙ get_or-set_same blocks block members' d (omega arith) in
            let was : members.items ≡ (get_or old b d).items = ap (λ (v : Vec ℕ Global). v.items) (read ∙ get_or_default blocks block members d (omega arith))
            ∙ are.rest block d inside not_before ∙ ap (λ i. (get_or old i d).items) (sym e) in
            ap (λ (v : Vec ℕ Global). v.items) set ∙ made ∙ ap (λ i. filter (is_numbered next i) members.items) (sym e) ∙ ap (filter (is_numbered next b)) was
        | inr ne ↦ ap (λ (v : Vec ℕ Global). v.items) (get_or-set_other blocks block b members' d ne)
            ∙ are.touched_blocks b d hb (elim (Contains-push_cases (take k touched) block b found) [ inl earlier ↦ earlier | inr e ↦ absurd (ne (sym e)) ])
      ];
      rest = λ b d hb none.
          let ne : b ≢ block = λ e. none (subst (Contains (take k touched ++ block ∷ [])) (sym e) (Contains-push (take k touched) block)) in
          ap (λ (v : Vec ℕ Global). v.items) (get_or-set_other blocks block b members' d ne)
          ∙ are.rest b d hb (λ found. none (Contains-append_left (take k touched) (block ∷ []) b found));
    })

pub origin_known : (graph : ActGraph) (taken : ℕ) (numbers next origins touched : List ℕ) (blocks : List (Vec ℕ Global)) → length numbers ≡ graph.count →
    AreNumbered numbers blocks → IsPlanned graph taken numbers (length blocks) next origins touched → All (λ origin. origin < length blocks) origins
origin_known graph taken numbers next origins touched blocks total numbered planned = All-from_get_or (λ origin. origin < length blocks) origins 0 (λ k inside.
    let (u, hu, is) = planned.split.used (length blocks + k) (omega arith) (omega arith) in
    let from = planned.origin u k hu is in
    let lt = numbered.below u 0 (omega arith) in
    omega arith)

-- there are no more blocks than routers
pub few_blocks : (graph : ActGraph) (taken : ℕ) (numbers next origins touched : List ℕ) (blocks : List (Vec ℕ Global)) → length numbers ≡ graph.count →
    AreNumbered numbers blocks → IsPlanned graph taken numbers (length blocks) next origins touched → length blocks + length origins ≤ graph.count
few_blocks graph taken numbers next origins touched blocks total numbered planned =
    let split = planned.split in
    let total' = split.total in
    let bound : length blocks + length origins ≤ length next =
    le-length_from_below next (length blocks + length origins) (λ q inside. elim (cases_lt q (length blocks)) [
      | inl old ↦
          let (u, hu, is) = numbered.nonempty q old in
          let first = first_member numbers q u hu is in
          let v : ℕ = slice_index (members_of numbers q) 0 in
          let hv = first.below in
          any_at next q v (omega arith) (split.least v (omega arith) (λ w less same. let le = first_least numbers q w (omega arith) (same ∙ first.is) in
          omega arith) ∙ first.is)
      | inr new ↦ let (u, hu, is) = split.used q new inside in any_at next q u (omega arith) is
    ]) in
    omega arith

pub divided_blocks : (graph : ActGraph) (taken : ℕ) (numbers next origins touched : List ℕ) (blocks further both after : List (Vec ℕ Global)) →
    length numbers ≡ graph.count → AreNumbered numbers blocks → IsPlanned graph taken numbers (length blocks) next origins touched →
    length further ≡ length origins → AreFurther next origins blocks further → both ≡ blocks ++ further → AreKept next touched both after →
    AreNumbered next after
divided_blocks graph taken numbers next origins touched blocks further both after total numbered planned size are joined kept =
    let split = planned.split in
    let total' = split.total in
    let before : ℕ = length blocks in
    let both_size : length both ≡ before + length further = ap length joined ∙ length-append blocks further in
    let after_size = kept.total in
    let same_size : length next ≡ length numbers = omega arith in
    record {
      members = record {
        each = λ b d inside. elim (cases_lt b before) [
          | inl old ↦
              let at : (get_or both b d).items ≡ members_of numbers b = ap (λ (xs : List (Vec ℕ Global)). (get_or xs b d).items) joined
              ∙ ap (λ (v : Vec ℕ Global). v.items) (get_or_append_left blocks further d b old) ∙ numbered.members.each b d old in
              let back : (u : ℕ) → u < length numbers → slice_index next u ≡ b → slice_index numbers u ≡ b =
              λ u hu is. sym (split.kept u (omega arith) (omega arith)) ∙ is in
              elim (contains_or_not touched b) [
                | inl there ↦ kept.touched_blocks b d (omega arith) there ∙ ap (filter (is_numbered next b)) at ∙ filter_members numbers next b b same_size back
                | inr none ↦ kept.rest b d (omega arith) none ∙ at
                    ∙ members_same numbers next b b same_size back (λ u hu is. planned.rest u (omega arith) (λ found. none (subst (Contains touched) is found))
                    ∙ is)
              ]
          | inr new ↦
              let k : ℕ = b - before in
              let is : before + k ≡ b = omega arith in
              let none : ¬ Contains touched b = λ found. let lt = All-contains (λ x. x < before) touched b planned.known found in omega arith in
              let known : slice_index origins k < before =
              origin_known graph taken numbers next origins touched blocks total numbered planned k 0 (omega arith) in
              kept.rest b d (omega arith) none
              ∙ ap (λ (xs : List (Vec ℕ Global)). (get_or xs b d).items) joined
              ∙ ap (λ (v : Vec ℕ Global). v.items) (get_or-append_right blocks further before b d refl new)
              ∙ are.each k d d (omega arith)
              ∙ ap (filter (is_numbered next (before + k))) (numbered.members.each (slice_index origins k) d known)
              ∙ filter_members numbers next (slice_index origins k) (before + k) same_size (λ u hu at. sym (planned.origin u k (omega arith) at))
              ∙ ap (members_of next) is
        ];
      };
      below = All-from_get_or (λ n. n < length after) next 0 (λ u hu. let lt = split.below u (omega arith) in omega arith);
      nonempty = λ b inside. elim (cases_lt b before) [
        | inl old ↦
            let (u, hu, is) = numbered.nonempty b old in
            let first = first_member numbers b u hu is in
            let v : ℕ = slice_index (members_of numbers b) 0 in
            let hv = first.below in (
              v,
              omega arith,
              split.least v (omega arith) (λ w less same. let le = first_least numbers b w (omega arith) (same ∙ first.is) in omega arith)
                  ∙ first.is,
            )
        | inr new ↦ let (u, hu, is) = split.used b new (omega arith) in (u, omega arith, is)
      ];
    }
