-- The numbers that a split gives to blocks that were divided under other numbers.
--
-- Plan. All routers stand in a queue in the order of their blocks (`whole_queue`). One after the other takes the number of
-- its piece or a fresh one, as the routers of a split do (`pinned_more`). So the pieces have the numbers of a split
-- (`pinned_split`). They are as many as the pieces that were made, since two lists of numbers that are equal at the same
-- routers, and use each number below a bound, have one bound (`no_more`).
use Rattle.std.proofs.Common.{◌≡◌, ◌≢◌, ℕ, zero, suc, ◌+◌, ◌-◌, ◌<◌, ◌≤◌, cond, nat_eq, List, [], ◌∷◌, ◌++◌, length, get_or, slice_set, take, All, Contains, Option, Some, None, refl, sym, ◌∙◌, ap, subst, arith, inl, inr}
use Rattle.std.specs.Prelude.{slice_index, ◌⊎◌}
use Rattle.std.specs.List.{range_with_len}
use Rattle.std.proofs.lemmas.Bool.{cases_eq, cases_lt}
use Rattle.std.proofs.lemmas.List.{length_push, get_or_push, get_or_append_left, take_all}
use Rattle.std.proofs.lemmas.List.FromFn.{length-range_with_len, get_or-range_with_len}
use Rattle.std.proofs.lemmas.List.Elements.{All-contains, All-from_get_or, All-get_or}
use Rattle.std.proofs.lemmas.Map.Steps.{le-length_from_below}
use Rattle.base_kit.specs.declared.act_graph.Edge.{Edge}
use Rattle.base_kit.specs.declared.act_graph.ActGraph.{ActGraph}
use Rattle.base_kit.specs.Partition.{members_of}
use Rattle.refine_partition.specs.Splits.{HasAct, ActAlike, StandsBeforeByBlock}
use Rattle.refine_partition.specs.Touched.{IsQueue}
use Rattle.refine_partition.specs.Renumbering.{IsFirstOfBlock, HasEarlierMember, IsNextNumber, IsQueueOf}
use Rattle.refine_partition.specs.Loose.{AreUsed, AreFiner, AreParted, AreRenamed, IsSplitFrom}
use Rattle.refine_partition.proofs.MemberLemmas.{same_test, other_test, range_more}
use Rattle.refine_partition.proofs.QueueLemmas.{queue_none, queue_more}
use Rattle.refine_partition.proofs.RenumberLemmas.{Renumbering, renumbered_none, renumbered_next, any_at, place_of}
use Rattle.refine_partition.proofs.PlanLemmas.{queue_is}

-- a least member of the block below the bound
abbrev HasLeastBelow : List ℕ → ℕ → ℕ → Type 0
HasLeastBelow numbers block bound =
    (u : ℕ) × (u < bound) × (slice_index numbers u ≡ block) × ((w : ℕ) → w < u → slice_index numbers w ≢ block)

least_below : (numbers : List ℕ) (block bound : ℕ) → ((u : ℕ) → u < bound → slice_index numbers u ≢ block) ⊎ HasLeastBelow numbers block bound
least_below numbers block zero = inl (λ u less same. absurd (omega arith))
least_below numbers block (suc n) = elim (least_below numbers block n) [
  | inl none ↦ elim (cases_eq (slice_index numbers n) block) [
    | inl e ↦ inr (n, omega arith, e, none)
    | inr ne ↦ inl (λ u less same. elim (cases_eq u n) [
      | inl is ↦ ne (ap (slice_index numbers) (sym is) ∙ same)
      | inr other ↦ none u (omega arith) same
    ])
  ]
  | inr (u, less, is, first) ↦ inr (u, omega arith, is, first)
]

least_member : (numbers : List ℕ) (u : ℕ) → HasLeastBelow numbers (slice_index numbers u) (u + 1)
least_member numbers u = elim (least_below numbers (slice_index numbers u) (u + 1)) [
  | inl none ↦ absurd (none u (omega arith) refl)
  | inr least ↦ least
]

first_or_later : (numbers : List ℕ) (router : ℕ) → IsFirstOfBlock numbers router ⊎ HasEarlierMember numbers router
first_or_later numbers router = elim (least_below numbers (slice_index numbers router) router) [
  | inl none ↦ inl none
  | inr (u, less, is, first) ↦ inr (u, less, is)
]

below_range : (count : ℕ) → All (λ b. b < count) (range_with_len 0 count)
below_range count = All-from_get_or (λ b. b < count) (range_with_len 0 count) 0 (λ i inside.
    let size = length-range_with_len 0 count in
    let inside' : i < count = omega arith in
    let at = get_or-range_with_len 0 count i 0 inside' in
    omega arith)

in_range : (count block : ℕ) → block < count → Contains (range_with_len 0 count) block
in_range count block inside =
    let size = length-range_with_len 0 count in
    let at : get_or (range_with_len 0 count) block block ≡ block = get_or-range_with_len 0 count block block inside ∙ omega arith in
    (block, omega arith, at)

-- the routers of the first blocks in their order
record Queued (numbers : List ℕ) (count : ℕ) : Type 0 where
  routers : List ℕ
  queue : IsQueue numbers (range_with_len 0 count) routers

whole_queue : (numbers : List ℕ) (count : ℕ) → Queued numbers count
whole_queue numbers zero = record { routers = []; queue = queue_none numbers [] }
whole_queue numbers (suc n) =
    let before = whole_queue numbers n in
    record {
      routers = before.routers ++ members_of numbers n;
      queue = rw (range_more 0 n n (omega arith)) (queue_more numbers (range_with_len 0 n) before.routers _ n before.queue (below_range n) refl);
    }

-- the routers that are done have the numbers of a split
record Pinned (numbers classes done : List ℕ) (before : ℕ) : Type 0 where
  next : List ℕ
  origins : List ℕ
  names : ℕ → Option ℕ
  so_far : Renumbering numbers classes done before next origins names

known_or_not : (o : Option ℕ) → ((n : ℕ) × (o ≡ Some n)) ⊎ (o ≡ None)
known_or_not (Some n) = inl (n, refl)
known_or_not None = inr refl

abbrev named_too : (ℕ → Option ℕ) → ℕ → ℕ → ℕ → Option ℕ
named_too names class number x = cond (nat_eq x class) (Some number) (names x)

named_here : (names : ℕ → Option ℕ) (class number : ℕ) → named_too names class number class ≡ Some number
named_here names class number = rw (same_test class class refl) refl

named_there : (names : ℕ → Option ℕ) (class number other : ℕ) → other ≢ class → named_too names class number other ≡ names other
named_there names class number other ne = rw (other_test other class ne) refl

pin : (numbers classes queue : List ℕ) (before k : ℕ) → All (λ n. n < before) numbers → AreFiner numbers classes → IsQueueOf numbers queue →
    k < length queue → (p : Pinned numbers classes (take k queue) before) → (origins' : List ℕ) (number : ℕ) →
    IsNextNumber (p.names (slice_index classes (slice_index queue k))) numbers (slice_index queue k) before p.origins origins' number →
    Pinned numbers classes (take (k + 1) queue) before
pin numbers classes queue before k low within queued here p origins' number chosen =
    let class : ℕ = slice_index classes (slice_index queue k) in
    record {
      next = slice_set p.next (slice_index queue k) number;
      origins = origins';
      names = named_too p.names class number;
      so_far = renumbered_next numbers classes queue before k p.next p.origins origins' p.names (named_too p.names class number) number
          low within queued here p.so_far chosen
          (named_here p.names class number)
          (named_there p.names class number);
    }

pinned_more : (numbers classes queue : List ℕ) (before k : ℕ) → All (λ n. n < before) numbers → AreFiner numbers classes → IsQueueOf numbers queue →
    k < length queue → Pinned numbers classes (take k queue) before → Pinned numbers classes (take (k + 1) queue) before
pinned_more numbers classes queue before k low within queued here p =
    let router : ℕ = slice_index queue k in
    elim (known_or_not (p.names (slice_index classes router))) [
      | inl (number, known) ↦ pin numbers classes queue before k low within queued here p p.origins number (inl (known, refl))
      | inr none ↦ elim (first_or_later numbers router) [
        | inl first ↦ pin numbers classes queue before k low within queued here p p.origins (slice_index numbers router) (inr (none, inl (first, refl, refl)))
        | inr later ↦ pin numbers classes queue before k low within queued here p (p.origins ++ slice_index numbers router ∷ []) (before + length p.origins)
            (inr (none, inr (later, refl, refl)))
      ]
    ]

pinned_all : (numbers classes queue : List ℕ) (before : ℕ) → All (λ n. n < before) numbers → AreFiner numbers classes → IsQueueOf numbers queue → (k : ℕ) →
    k ≤ length queue → Pinned numbers classes (take k queue) before
pinned_all numbers classes queue before low within queued zero le = record {
  next = numbers;
  origins = [];
  names = λ class. None;
  so_far = renumbered_none numbers classes queue before (λ class. None) (λ class. refl) low;
}
pinned_all numbers classes queue before low within queued (suc k) le =
    let more : Pinned numbers classes (take (k + 1) queue) before =
    pinned_more numbers classes queue before k low within queued (omega arith) (pinned_all numbers classes queue before low within queued k (omega arith)) in
    let next : k + 1 ≡ suc k = omega arith in
    subst (λ i. Pinned numbers classes (take i queue) before) next more

-- a list of chosen values
record Chosen (P : ℕ → ℕ → Type 0) (bound : ℕ) : Type 0 where
  values : List ℕ
  size : length values ≡ bound
  each : (t : ℕ) → t < bound → P t (slice_index values t)

choose : (P : ℕ → ℕ → Type 0) (bound : ℕ) → ((t : ℕ) → t < bound → (x : ℕ) × P t x) → Chosen P bound
choose P zero from = record { values = []; size = refl; each = λ t inside. absurd (omega arith) }
choose P (suc n) from =
    let before = choose P n (λ t inside. from t (omega arith)) in
    let (x, holds) = from n (omega arith) in
    let size = before.size in
    let more = length_push before.values x in
    record {
      values = before.values ++ x ∷ [];
      size = omega arith;
      each = λ t inside. elim (cases_eq t n) [
        | inl e ↦
            let at : slice_index (before.values ++ x ∷ []) t ≡ x = get_or_push before.values x 0 t (omega arith) in
            subst (λ i. P i (slice_index (before.values ++ x ∷ []) t)) (sym e) (subst (P n) (sym at) holds)
        | inr ne ↦
            let at : slice_index (before.values ++ x ∷ []) t ≡ slice_index before.values t = get_or_append_left before.values (x ∷ []) 0 t (omega arith) in
            subst (P t) (sym at) (before.each t (omega arith))
      ];
    }

-- a router that has the one number in the first list and the other in the second
record HasBoth (a b : List ℕ) (t x : ℕ) : Type 0 where
  router : ℕ
  below : router < length a
  first : slice_index a router ≡ t
  second : slice_index b router ≡ x

-- no more numbers in the second list than in the first, where it joins what the first joins
no_more : (a b : List ℕ) (m n : ℕ) → length b ≡ length a → ((u v : ℕ) → u < length a → v < length a → slice_index a u ≡ slice_index a v →
    slice_index b u ≡ slice_index b v) → All (λ x. x < m) a → AreUsed m a → AreUsed n b → n ≤ m
no_more a b m n size joins low used used' =
    let chosen = choose (HasBoth a b) m (λ t inside.
    let (u, hu, is) = used t inside in
    (slice_index b u, record { router = u; below = hu; first = is; second = refl })) in
    let total = chosen.size in
    let bound : n ≤ length chosen.values = le-length_from_below chosen.values n (λ q inside.
    let (u, hu, is) = used' q inside in
    let hu' : u < length a = omega arith in
    let t : ℕ = slice_index a u in
    let lt : t < m = All-get_or (λ x. x < m) a u 0 hu' low in
    let both = chosen.each t lt in
    any_at chosen.values q t (omega arith) (sym both.second ∙ joins both.router u both.below hu' both.first ∙ is)) in
    omega arith

-- acts into a block are the same under other numbers
acts_renamed : (graph : ActGraph) (a b : List ℕ) (slot number u act : ℕ) → ((w : ℕ) → w < graph.count → slice_index a w ≡ slot →
    slice_index b w ≡ number) → HasAct graph.edges a slot u act → HasAct graph.edges b number u act
acts_renamed graph a b slot number u act there has =
    let (k, e, inside, at, (importer, acts, into)) = has.edge in
    let exporter : e.exporter < graph.count = subst (λ (x : Edge). x.exporter < graph.count) at (graph.exporters_in_range k e inside) in
    record { edge = (k, e, inside, at, (importer, acts, there e.exporter exporter into)) }

alike_renamed : (graph : ActGraph) (a b : List ℕ) (slot number u v : ℕ) → ((w : ℕ) → w < graph.count → slice_index a w ≡ slot →
    slice_index b w ≡ number) → ((w : ℕ) → w < graph.count → slice_index b w ≡ number → slice_index a w ≡ slot) → ActAlike graph.edges a slot u v →
    ActAlike graph.edges b number u v
alike_renamed graph a b slot number u v there back alike = record {
  there = λ act has. acts_renamed graph a b slot number v act there (alike.there act (acts_renamed graph b a number slot u act back has));
  back = λ act has. acts_renamed graph a b slot number u act there (alike.back act (acts_renamed graph b a number slot v act back has));
}

-- the pieces of divided blocks under the numbers of a split
pub pinned_split : (graph : ActGraph) (taken : ℕ) (old new origins : List ℕ) (before after : ℕ) → length old ≡ graph.count →
    AreParted graph taken old new before after origins → AreUsed after new → (numbers : List ℕ) → AreRenamed before old numbers →
    IsSplitFrom graph taken old numbers new before after
pinned_split graph taken old new origins before after total parted used numbers renamed =
    let size : length numbers ≡ graph.count = renamed.total ∙ total in
    let new_total = parted.total in
    let within : AreFiner numbers new = λ u v hu hv same.
    renamed.together u v (omega arith) (omega arith) (parted.apart u v (omega arith) (omega arith) same).same in
    let queued = whole_queue numbers before in
    let routers : List ℕ = queued.routers in
    let queue : IsQueue numbers (range_with_len 0 before) routers = queued.queue in
    let ordered : IsQueueOf numbers routers = queue_is numbers (range_with_len 0 before) routers queue in
    let in_queue : (u : ℕ) → u < graph.count → Contains routers u = λ u hu. queue.all u (record {
      below = omega arith;
      block = in_range before (slice_index numbers u) (All-get_or (λ n. n < before) numbers u 0 (omega arith) renamed.below);
    }) in
    let from_queue : (u : ℕ) → Contains routers u → u < graph.count = λ u found.
    let lt = All-contains (λ w. w < length numbers) routers u ordered.below found in omega arith in
    let pinned : Pinned numbers new (take (length routers) routers) before =
    pinned_all numbers new routers before renamed.below within ordered (length routers) (omega arith) in
    let next : List ℕ = pinned.next in
    let so_far : Renumbering numbers new routers before next pinned.origins pinned.names =
    subst (λ (done : List ℕ). Renumbering numbers new done before next pinned.origins pinned.names)
    (take_all (length routers) routers (omega arith)) pinned.so_far in
    let next_total : length next ≡ graph.count = so_far.total ∙ size in
    let together : (u v : ℕ) → u < graph.count → v < graph.count → slice_index new u ≡ slice_index new v →
    slice_index next u ≡ slice_index next v = λ u v hu hv same.
    let a = so_far.named u (in_queue u hu) in let b = so_far.named v (in_queue v hv) in let e = ap pinned.names same in cc in
    let apart : (u v : ℕ) → u < graph.count → v < graph.count → slice_index next u ≡ slice_index next v →
    slice_index new u ≡ slice_index new v = λ u v hu hv same.
    so_far.one _ _ (slice_index next u) (so_far.named u (in_queue u hu)) (so_far.named v (in_queue v hv) ∙ ap (λ n. Some n) (sym same)) in
    let end : ℕ = before + length pinned.origins in
    let low : All (λ n. n < end) next = All-from_get_or (λ n. n < end) next 0 (λ u inside. so_far.below u (in_queue u (omega arith))) in
    let low_new : All (λ n. n < after) new = All-from_get_or (λ n. n < after) new 0 (λ u inside. parted.below u (omega arith)) in
    let further : (number : ℕ) → before ≤ number → number < end → (u : ℕ) × (u < graph.count) × (slice_index next u ≡ number) = λ number le less.
    let (u, found, is) = so_far.used (number - before) (omega arith) in (u, from_queue u found, is ∙ omega arith) in
    let used_next : AreUsed end next = λ number inside. elim (cases_lt number before) [
      | inl lt ↦
          let (u, hu, is) = renamed.used number lt in
          let (v, less, at, first) = least_member numbers u in
          let hv : v < length numbers = omega arith in
          (v, omega arith, so_far.least v hv (λ w before_v same. first w before_v (same ∙ at)) ∙ at ∙ is)
      | inr le ↦ let (u, hu, is) = further number le inside in (u, omega arith, is)
    ] in
    let count : end ≡ after =
    let one = no_more next new end after (new_total ∙ sym next_total)
    (λ u v hu hv same. apart u v (omega arith) (omega arith) same) low used_next used in
    let two = no_more new next after end (next_total ∙ sym new_total)
    (λ u v hu hv same. together u v (omega arith) (omega arith) same) low_new used used_next in
    omega arith in
    record {
      next = next;
      renamed = record {
        total = next_total ∙ sym new_total;
        below = subst (λ n. All (λ x. x < n) next) count low;
        used = subst (λ n. AreUsed n next) count used_next;
        together = λ u v hu hv same. together u v (omega arith) (omega arith) same;
        apart = λ u v hu hv same. apart u v (omega arith) (omega arith) same;
      };
      split = λ t ht is_taken.
          let number : ℕ = slice_index numbers t in
          let there : (w : ℕ) → w < graph.count → slice_index old w ≡ taken → slice_index numbers w ≡ number = λ w hw is.
          renamed.together w t (omega arith) (omega arith) (is ∙ sym is_taken) in
          let back : (w : ℕ) → w < graph.count → slice_index numbers w ≡ number → slice_index old w ≡ taken = λ w hw is.
          renamed.apart w t (omega arith) (omega arith) is ∙ is_taken in
          record {
            total = next_total;
            together = λ u v hu hv stay. together u v hu hv (parted.together u v hu hv (record {
              same = renamed.apart u v (omega arith) (omega arith) stay.same;
              alike = λ outside. alike_renamed graph numbers old number taken u v back there (stay.alike (λ is. outside (back u hu is)));
            }));
            apart = λ u v hu hv same.
                let stay = parted.apart u v hu hv (apart u v hu hv same) in
                record {
                  same = renamed.together u v (omega arith) (omega arith) stay.same;
                  alike = λ outside. alike_renamed graph old numbers taken number u v there back (stay.alike (λ is. outside (there u hu is)));
                };
            least = λ v hv first. so_far.least v (omega arith) first;
            kept = λ v hv small. so_far.kept v (in_queue v hv) small;
            more = omega arith;
            below = λ v hv. let lt = so_far.below v (in_queue v hv) in omega arith;
            used = λ q le less. further q le (omega arith);
            in_order = λ v q hv le less.
                let (i, inside, at) = place_of routers v (in_queue v hv) in
                let (j, earlier, is) = so_far.in_order i q inside le (subst (λ w. q < slice_index next w) (sym at) less) in
                let hj : slice_index routers j < length numbers = ordered.below j 0 (omega arith) in (
                  slice_index routers j,
                  omega arith,
                  subst (λ w. StandsBeforeByBlock numbers (slice_index routers j) w) at
                      (ordered.in_order j i earlier inside),
                  is,
                );
          };
    }
