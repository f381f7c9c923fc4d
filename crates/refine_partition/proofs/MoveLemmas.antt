-- The reached routers move into the pieces of their classes.
use Rattle.std.proofs.Common.{◌≡◌, ◌≢◌, ℕ, ◌+◌, ◌-◌, ◌<◌, ◌≤◌, List, [], ◌∷◌, ◌++◌, length, slice_index_or, slice_set, take, All, Contains, Option, Some, None, Vec, refl, sym, ◌∙◌, ap, subst, arith, inl, inr}
use Rattle.std.specs.Prelude.{slice_index, ◌⊎◌}
use Rattle.std.specs.declared.alloc.Global.{Global}
use Rattle.std.proofs.lemmas.Bool.{cases_eq, cases_lt}
use Rattle.std.proofs.lemmas.List.{get_or-set_same, get_or-set_other, length_push, get_or_push, get_or_append_left, get_or_default}
use Rattle.std.proofs.lemmas.List.Elements.{All-contains, All-weaker, All-push, All-get_or, Contains-append_left, Contains-push, Contains-push_cases}
use Rattle.std.proofs.lemmas.Map.Steps.{le-length_from_below}
use Rattle.std.proofs.Math.ListN.{length-set}
use Rattle.refine_partition.specs.ClassNames.{ClassNames, class_name}
use Rattle.refine_partition.specs.Classes.{AreNewClasses}
use Rattle.refine_partition.specs.Loose.{AreListed, AreUsed, AreStaying, IsPieceOf, IsMoved, AreMoved}
use Rattle.refine_partition.proofs.PlanLemmas.{contains_or_not}
use Rattle.refine_partition.proofs.RenumberLemmas.{any_at}

last_at : (done : List ℕ) (router u : ℕ) → u ≡ router → Contains (done ++ router ∷ []) u
last_at done router u e = subst (Contains (done ++ router ∷ [])) (sym e) (Contains-push done router)

-- a router of the class: it had the number, or the new block comes from its block
pub record IsNamer (numbers classes : List ℕ) (before : ℕ) (origins : List ℕ) (class number : ℕ) : Type 0 where
  pub router : ℕ
  pub below : router < length numbers
  pub class_is : slice_index classes router ≡ class
  pub old : number < before → slice_index numbers router ≡ number
  pub new : (k : ℕ) → number ≡ before + k → k < length origins → slice_index origins k ≡ slice_index numbers router

-- what holds while the first routers have moved, with the numbers of their classes
pub record Moving (numbers classes touched done : List ℕ) (before : ℕ) (next origins : List ℕ) (names : ℕ → Option ℕ) : Type 0 where
  pub total : length next ≡ length numbers
  pub rest : (u : ℕ) → u < length numbers → ¬ Contains done u → slice_index next u ≡ slice_index numbers u
  pub named : (u : ℕ) → u < length numbers → Contains done u → names (slice_index classes u) ≡ Some (slice_index next u)
  pub one : (a b number : ℕ) → names a ≡ Some number → names b ≡ Some number → a ≡ b
  pub below : (class number : ℕ) → names class ≡ Some number → number < before + length origins
  pub back : (class number : ℕ) → names class ≡ Some number → IsNamer numbers classes before origins class number
  pub all_left : (class number : ℕ) → names class ≡ Some number → number < before → class ≢ number → (u : ℕ) → u < length numbers →
      slice_index numbers u ≡ number → slice_index classes u ≢ number
  pub used : (k : ℕ) → k < length origins → (u : ℕ) × (u < length numbers) × Contains done u × (slice_index next u ≡ before + k)
  pub each : All (λ block. (class : ℕ) × (names class ≡ Some block)) touched

pub moving_none : (numbers classes touched reached : List ℕ) (before : ℕ) (names : ClassNames) → AreStaying numbers classes touched names →
    All (λ n. n < before) numbers → Moving numbers classes touched (take 0 reached) before numbers [] (λ class. class_name names class)
moving_none numbers classes touched reached before names staying low =
    let lower : (class number : ℕ) → class_name names class ≡ Some number → number < before = λ class number found.
    let (u, hu, is, has) = (staying.only class number found).1.member in
    let lt : slice_index numbers u < before = All-get_or (λ n. n < before) numbers u 0 hu low in
    omega arith in
    record {
      total = refl;
      rest = λ u hu none. refl;
      named = λ u hu (k, inside, at). absurd (omega arith);
      one = staying.one;
      below = λ class number found. let lt = lower class number found in omega arith;
      back = λ class number found.
          let (u, hu, is, has) = (staying.only class number found).1.member in
          record { router = u; below = hu; class_is = has; old = λ lt. is; new = λ k at inside. absurd (omega arith) };
      all_left = λ class number found lt ne u hu is. (staying.only class number found).1.all_left ne u hu is;
      used = λ k inside. absurd (omega arith);
      each = staying.each;
    }

-- the router moves to the block of its class
pub moving_known : (numbers classes touched done : List ℕ) (router : ℕ) (before : ℕ) (next next' origins : List ℕ) (names : ℕ → Option ℕ)
    (number : ℕ) → Moving numbers classes touched done before next origins names → router < length numbers →
    names (slice_index classes router) ≡ Some number → IsMoved next next' router number →
    Moving numbers classes touched (done ++ router ∷ []) before next' origins names
moving_known numbers classes touched done router before next next' origins names number so_far inside known moved =
    let at : (u : ℕ) → router ≡ u → slice_index next' u ≡ number = λ u e. ap (slice_index next') (sym e) ∙ moved.here in
    record {
      total = moved.total ∙ so_far.total;
      rest = λ u hu none. moved.others u (λ e. none (last_at done router u e))
          ∙ so_far.rest u hu (λ found. none (Contains-append_left done (router ∷ []) u found));
      named = λ u hu found. elim (cases_eq u router) [
        | inl e ↦ ap names (ap (slice_index classes) e) ∙ known ∙ ap (λ n. Some n) (sym (at u (sym e)))
        | inr ne ↦ elim (Contains-push_cases done router u found) [
          | inl earlier ↦ so_far.named u hu earlier ∙ ap (λ n. Some n) (sym (moved.others u ne))
          | inr e ↦ absurd (ne (sym e))
        ]
      ];
      one = so_far.one;
      below = so_far.below;
      back = so_far.back;
      all_left = so_far.all_left;
      used = λ k within.
          let (u, hu, found, is) = so_far.used k within in (
            u,
            hu,
            Contains-append_left done (router ∷ []) u found,
            elim (cases_eq u router) [
              | inl e ↦
                  let named : names (slice_index classes router) ≡ Some (slice_index next u) = ap names (ap (slice_index classes) (sym e))
                  ∙ so_far.named u hu found in
                  let same : number ≡ slice_index next u = cc in
                  at u (sym e) ∙ same ∙ is
              | inr ne ↦ moved.others u ne ∙ is
            ],
          );
      each = so_far.each;
    }

-- the router moves to a new block
pub moving_new : (numbers classes touched done : List ℕ) (router : ℕ) (before : ℕ) (next next' origins origins' : List ℕ)
    (names names' : ℕ → Option ℕ) (number origin : ℕ) → Moving numbers classes touched done before next origins names → router < length numbers →
    names (slice_index classes router) ≡ None → number ≡ before + length origins → names' (slice_index classes router) ≡ Some number →
    ((other : ℕ) → other ≢ slice_index classes router → names' other ≡ names other) → origin ≡ slice_index next router →
    origins' ≡ origins ++ origin ∷ [] → IsMoved next next' router number →
    Moving numbers classes touched (done ++ router ∷ []) before next' origins' names'
moving_new numbers classes touched done router before next next' origins origins' names names' number origin so_far inside none is_next named others origin_is
    pushed moved =
    let class : ℕ = slice_index classes router in
    let size : length origins' ≡ length origins + 1 = ap length pushed ∙ length_push origins origin in
    let at : (u : ℕ) → router ≡ u → slice_index next' u ≡ number = λ u e. ap (slice_index next') (sym e) ∙ moved.here in
    let not_yet : ¬ Contains done router = λ found. let named_before = so_far.named router inside found in absurd cc in
    let apart : (u : ℕ) → Contains done u → u ≢ router = λ u found e. not_yet (subst (Contains done) e found) in
    let not_class : (u : ℕ) → u < length numbers → Contains done u → slice_index classes u ≢ class = λ u hu found e.
    let named_before : names class ≡ Some (slice_index next u) = ap names (sym e) ∙ so_far.named u hu found in absurd cc in
    let by_class : (a n : ℕ) → names' a ≡ Some n → ((a ≡ class) × (n ≡ number)) ⊎ ((a ≢ class) × (names a ≡ Some n)) = λ a n found. elim (cases_eq a class) [
      | inl e ↦ inl (e, let found' = ap names' (sym e) ∙ found in cc)
      | inr ne ↦ inr (ne, sym (others a ne) ∙ found)
    ] in
    let prefix : (k : ℕ) → k < length origins → slice_index origins' k ≡ slice_index origins k = λ k within. ap (λ (xs : List ℕ). slice_index xs k) pushed
    ∙ get_or_append_left origins (origin ∷ []) 0 k within in
    let last : (k : ℕ) → k ≡ length origins → slice_index origins' k ≡ origin = λ k e. ap (λ (xs : List ℕ). slice_index xs k) pushed
    ∙ get_or_push origins origin 0 k (sym e) in
    record {
      total = moved.total ∙ so_far.total;
      rest = λ u hu away. moved.others u (λ e. away (last_at done router u e))
          ∙ so_far.rest u hu (λ found. away (Contains-append_left done (router ∷ []) u found));
      named = λ u hu found. elim (Contains-push_cases done router u found) [
        | inl earlier ↦ others (slice_index classes u) (not_class u hu earlier) ∙ so_far.named u hu earlier
            ∙ ap (λ n. Some n) (sym (moved.others u (apart u earlier)))
        | inr e ↦ ap names' (ap (slice_index classes) (sym e)) ∙ named ∙ ap (λ n. Some n) (sym (at u e))
      ];
      one = λ a b n first second. elim (by_class a n first) [
        | inl e ↦ elim (by_class b n second) [
          | inl e' ↦ e.0 ∙ sym e'.0
          | inr o' ↦ let lt = so_far.below b n o'.1 in let e1 = e.1 in absurd (omega arith)
        ]
        | inr o ↦ elim (by_class b n second) [
          | inl e' ↦ let lt = so_far.below a n o.1 in let e1 = e'.1 in absurd (omega arith)
          | inr o' ↦ so_far.one a b n o.1 o'.1
        ]
      ];
      below = λ a n found. elim (by_class a n found) [
        | inl e ↦ let e1 = e.1 in omega arith
        | inr o ↦ let lt = so_far.below a n o.1 in omega arith
      ];
      back = λ a n found. elim (by_class a n found) [
        | inl e ↦ let e1 = e.1 in record {
          router = router;
          below = inside;
          class_is = sym e.0;
          old = λ lt. absurd (omega arith);
          new = λ k is within. last k (omega arith) ∙ origin_is ∙ so_far.rest router inside not_yet;
        }
        | inr o ↦ let lt = so_far.below a n o.1 in let namer = so_far.back a n o.1 in record {
          router = namer.router;
          below = namer.below;
          class_is = namer.class_is;
          old = namer.old;
          new = λ k is within. prefix k (omega arith) ∙ namer.new k is (omega arith);
        }
      ];
      all_left = λ a n found lt ne. elim (by_class a n found) [
        | inl e ↦ let e1 = e.1 in absurd (omega arith)
        | inr o ↦ so_far.all_left a n o.1 lt ne
      ];
      used = λ k within. elim (cases_lt k (length origins)) [
        | inl lt ↦ let (u, hu, found, is) = so_far.used k lt in (u, hu, Contains-append_left done (router ∷ []) u found, moved.others u (apart u found) ∙ is)
        | inr le ↦ (router, inside, Contains-push done router, moved.here ∙ omega arith)
      ];
      each = All-weaker (λ b. (c : ℕ) × (names c ≡ Some b)) (λ b. (c : ℕ) × (names' c ≡ Some b)) (λ b (c, found). elim (cases_eq c class) [
        | inl e ↦ let found' : names class ≡ Some b = ap names (sym e) ∙ found in absurd cc
        | inr ne ↦ (c, others c ne ∙ found)
      ]) touched so_far.each;
    }

-- no block is empty while routers move
pub moving_used : (numbers classes touched done : List ℕ) (before : ℕ) (next origins : List ℕ) (names : ℕ → Option ℕ) →
    Moving numbers classes touched done before next origins names → AreUsed before numbers → All (λ w. Contains touched (slice_index numbers w)) done →
    AreUsed (before + length origins) next
moving_used numbers classes touched done before next origins names so_far used reached = λ number inside.
    let total = so_far.total in
    elim (cases_lt number before) [
      | inl old ↦
          let (u, hu, is) = used number old in
          elim (contains_or_not done u) [
            | inl found ↦
                let there : Contains touched number = subst (Contains touched) is
                (All-contains (λ w. Contains touched (slice_index numbers w)) done u reached found) in
                let (class, named) = All-contains (λ b. (c : ℕ) × (names c ≡ Some b)) touched number so_far.each there in
                let namer = so_far.back class number named in
                let w : ℕ = namer.router in
                let hw = namer.below in (
                  w,
                  omega arith,
                  elim (contains_or_not done w) [
                    | inl moved ↦
                        let named' : names class ≡ Some (slice_index next w) = ap names (sym namer.class_is) ∙ so_far.named w hw moved in
                        cc
                    | inr none ↦ so_far.rest w hw none ∙ namer.old old
                  ],
                )
            | inr none ↦ (u, omega arith, so_far.rest u hu none ∙ is)
          ]
      | inr new ↦
          let (u, hu, found, is) = so_far.used (number - before) (omega arith) in
          (u, omega arith, is ∙ omega arith)
    ]

-- no more blocks than routers, where none is empty
pub used_few : (count : ℕ) (numbers : List ℕ) → AreUsed count numbers → count ≤ length numbers
used_few count numbers used = le-length_from_below numbers count (λ q inside. let (u, hu, is) = used q inside in any_at numbers q u hu is)

-- all reached routers have moved
pub moved_all : (numbers classes touched reached : List ℕ) (before : ℕ) (next origins : List ℕ) (names : ℕ → Option ℕ) →
    Moving numbers classes touched reached before next origins names → AreNewClasses numbers classes before reached → All (λ n. n < before) numbers →
    AreUsed before numbers → All (λ w. Contains touched (slice_index numbers w)) reached → AreMoved numbers classes reached before next origins
moved_all numbers classes touched reached before next origins names so_far are low used touches =
    let below : (u : ℕ) → u < length numbers → slice_index numbers u < before = λ u hu. All-get_or (λ n. n < before) numbers u 0 hu low in
    let high : (u : ℕ) → Contains reached u → before ≤ slice_index classes u =
    λ u found. (All-contains (λ w. (w < length classes) × (before ≤ slice_index classes w)) reached u are.new.only found).1 in
    let mixed : (u v : ℕ) → u < length numbers → v < length numbers → Contains reached u → ¬ Contains reached v → slice_index next u ≡ slice_index next v → ⊥ =
    λ u v hu hv found none same.
    let lt = below v hv in
    let stays = so_far.rest v hv none in
    let named = so_far.named u hu found in
    let at = high u found in
    so_far.all_left (slice_index classes u) (slice_index next u) named (omega arith) (λ e. omega arith) v hv (sym stays ∙ sym same)
    (are.stay v hv none ∙ sym stays ∙ sym same) in
    record {
      total = so_far.total;
      rest = so_far.rest;
      together = λ u v hu hv same. elim (contains_or_not reached u) [
        | inl first ↦ elim (contains_or_not reached v) [
          | inl second ↦
              let a = so_far.named u hu first in
              let b = so_far.named v hv second in
              let e = ap names same in cc
          | inr none ↦ let at = high u first in let e = are.stay v hv none in let lt = below v hv in absurd (omega arith)
        ]
        | inr none ↦ elim (contains_or_not reached v) [
          | inl second ↦ let at = high v second in let e = are.stay u hu none in let lt = below u hu in absurd (omega arith)
          | inr none' ↦ so_far.rest u hu none ∙ sym (are.stay u hu none) ∙ same ∙ are.stay v hv none' ∙ sym (so_far.rest v hv none')
        ]
      ];
      apart = λ u v hu hv same. elim (contains_or_not reached u) [
        | inl first ↦ elim (contains_or_not reached v) [
          | inl second ↦ so_far.one (slice_index classes u) (slice_index classes v) (slice_index next u) (so_far.named u hu first)
              (so_far.named v hv second ∙ ap (λ n. Some n) (sym same))
          | inr none ↦ absurd (mixed u v hu hv first none same)
        ]
        | inr none ↦ elim (contains_or_not reached v) [
          | inl second ↦ absurd (mixed v u hv hu second none (sym same))
          | inr none' ↦ are.stay u hu none ∙ sym (so_far.rest u hu none) ∙ same ∙ so_far.rest v hv none' ∙ sym (are.stay v hv none')
        ]
      ];
      kept = λ u hu small. elim (contains_or_not reached u) [
        | inl found ↦
            let namer = so_far.back (slice_index classes u) (slice_index next u) (so_far.named u hu found) in
            sym (namer.old small) ∙ are.same namer.router u namer.below hu namer.class_is
        | inr none ↦ so_far.rest u hu none
      ];
      below = λ u hu. elim (contains_or_not reached u) [
        | inl found ↦ so_far.below (slice_index classes u) (slice_index next u) (so_far.named u hu found)
        | inr none ↦ let lt = below u hu in let e = so_far.rest u hu none in omega arith
      ];
      origin = λ u k hu is. elim (contains_or_not reached u) [
        | inl found ↦
            let named = so_far.named u hu found in
            let lt = so_far.below (slice_index classes u) (slice_index next u) named in
            let namer = so_far.back (slice_index classes u) (slice_index next u) named in
            namer.new k is (omega arith) ∙ are.same namer.router u namer.below hu namer.class_is
        | inr none ↦ let lt = below u hu in let e = so_far.rest u hu none in absurd (omega arith)
      ];
      used = moving_used numbers classes touched reached before next origins names so_far used touches;
    }

-- a router is listed in the block that it moves to
pub listed_moved : (numbers numbers' : List ℕ) (lists : List (Vec ℕ Global)) (router number : ℕ) (list list' : Vec ℕ Global) → AreListed numbers lists →
    number < length lists → router < length numbers → IsMoved numbers numbers' router number → list ≡ slice_index_or lists number list →
    list'.items ≡ list.items ++ router ∷ [] → AreListed numbers' (slice_set lists number list')
listed_moved numbers numbers' lists router number list list' listed known inside moved read pushed =
    let size = length-set lists number list' in
    let total = moved.total in
    let here : (b : ℕ) (d : Vec ℕ Global) → b ≡ number → slice_index_or (slice_set lists number list') b d ≡ list' =
    λ b d e. ap (λ i. slice_index_or (slice_set lists number list') i d) e ∙ get_or-set_same lists number list' d known in
    record {
      below = λ u d hu. elim (cases_eq u router) [
        | inl e ↦ let at = get_or_default numbers' u d 0 hu in let is = ap (slice_index numbers') e ∙ moved.here in omega arith
        | inr ne ↦
            let at = get_or_default numbers' u d 0 hu in
            let is = moved.others u ne in
            let lt : slice_index numbers u < length lists = listed.below u 0 (omega arith) in
            omega arith
      ];
      routers = λ b d within. elim (cases_eq b number) [
        | inl e ↦
            let was : All (λ u. u < length numbers) list.items =
            subst (λ (v : Vec ℕ Global). All (λ u. u < length numbers) v.items) (sym read) (listed.routers number list known) in
            rw (here b d e, pushed, total) (All-push (λ u. u < length numbers) list.items router was inside)
        | inr ne ↦ rw (get_or-set_other lists number b list' d ne, total) (listed.routers b d (omega arith))
      ];
      members = λ u d hu. elim (cases_eq u router) [
        | inl e ↦ rw (here (slice_index numbers' u) d (ap (slice_index numbers') e ∙ moved.here), pushed)
            (subst (Contains (list.items ++ router ∷ [])) (sym e) (Contains-push list.items router))
        | inr ne ↦
            let same = moved.others u ne in
            let was : Contains (slice_index_or lists (slice_index numbers' u) d).items u = rw same (listed.members u d (omega arith)) in
            elim (cases_eq (slice_index numbers' u) number) [
              | inl e ↦
                  let was' : Contains list.items u = subst (λ (v : Vec ℕ Global). Contains v.items u)
                  (ap (λ i. slice_index_or lists i list) (sym same ∙ e) ∙ sym read) (listed.members u list (omega arith)) in
                  rw (here (slice_index numbers' u) d e, pushed) (Contains-append_left list.items (router ∷ []) u was')
              | inr other ↦ rw (get_or-set_other lists number (slice_index numbers' u) list' d other) was
            ]
      ];
    }

pub moved_here : (numbers : List ℕ) (router number : ℕ) → router < length numbers → IsMoved numbers (slice_set numbers router number) router number
moved_here numbers router number inside = record {
  total = length-set numbers router number;
  here = get_or-set_same numbers router number 0 inside;
  others = λ u ne. get_or-set_other numbers router u number 0 ne;
}

-- a new, empty block
pub listed_new : (numbers : List ℕ) (lists : List (Vec ℕ Global)) (empty : Vec ℕ Global) → AreListed numbers lists → empty.items ≡ [] →
    AreListed numbers (lists ++ empty ∷ [])
listed_new numbers lists empty listed none =
    let size = length_push lists empty in
    record {
      below = All-weaker (λ n. n < length lists) (λ n. n < length (lists ++ empty ∷ [])) (λ n lt. omega arith) numbers listed.below;
      routers = λ b d inside. elim (cases_lt b (length lists)) [
        | inl lt ↦ rw (get_or_append_left lists (empty ∷ []) d b lt) (listed.routers b d lt)
        | inr le ↦ rw (get_or_push lists empty d b (omega arith), none) (λ k e within. absurd (omega arith))
      ];
      members = λ u d hu.
          let lt : slice_index numbers u < length lists = listed.below u 0 hu in
          rw (get_or_append_left lists (empty ∷ []) d (slice_index numbers u) lt) (listed.members u d hu);
    }

-- the next router moves
pub moving_next : (numbers classes touched done : List ℕ) (router : ℕ) (before : ℕ) (next next' origins origins' : List ℕ)
    (names names' : ClassNames) (lists lists' : List (Vec ℕ Global)) (class number origin : ℕ) →
    Moving numbers classes touched done before next origins (λ c. class_name names c) → length lists ≡ before + length origins →
    router < length numbers → slice_index classes router ≡ class → slice_index next router ≡ origin →
    IsPieceOf names names' lists lists' origins origins' class origin number → IsMoved next next' router number →
    Moving numbers classes touched (done ++ router ∷ []) before next' origins' (λ c. class_name names' c)
moving_next numbers classes touched done router before next next' origins origins' names names' lists lists' class number origin so_far size inside class_is
    origin_is piece moved = elim piece [
      | inl (found, same_names, same_lists, same_origins) ↦
          rw (same_names, same_origins) (moving_known numbers classes touched done router before next next' origins (λ c. class_name names c) number so_far
          inside
          (ap (λ c. class_name names c) class_is ∙ found) moved)
      | inr new ↦
          moving_new numbers classes touched done router before next next' origins origins' (λ c. class_name names c) (λ c. class_name names' c) number origin
          so_far inside
          (ap (λ c. class_name names c) class_is ∙ new.none)
          (new.number_is ∙ size)
          (ap (λ c. class_name names' c) class_is ∙ new.named.named)
          (λ other ne. new.named.others other (λ e. ne (e ∙ sym class_is)))
          (sym origin_is)
          new.origins_are
          moved
    ]

-- the class has its piece's number
pub piece_named : (names names' : ClassNames) (lists lists' : List (Vec ℕ Global)) (origins origins' : List ℕ) (class origin number : ℕ) →
    IsPieceOf names names' lists lists' origins origins' class origin number → class_name names' class ≡ Some number
piece_named names names' lists lists' origins origins' class origin number piece = elim piece [
  | inl (found, same_names, same_lists, same_origins) ↦ rw same_names found
  | inr new ↦ new.named.named
]

-- the lists with the piece of a class
pub piece_listed : (numbers : List ℕ) (names names' : ClassNames) (lists lists' : List (Vec ℕ Global)) (origins origins' : List ℕ) (class origin number : ℕ) →
    AreListed numbers lists → IsPieceOf names names' lists lists' origins origins' class origin number → AreListed numbers lists'
piece_listed numbers names names' lists lists' origins origins' class origin number listed piece = elim piece [
  | inl (found, same_names, same_lists, same_origins) ↦ rw same_lists listed
  | inr new ↦ let (empty, none, pushed) = new.list in rw pushed (listed_new numbers lists empty listed none)
]

pub piece_size : (names names' : ClassNames) (lists lists' : List (Vec ℕ Global)) (origins origins' : List ℕ) (class origin number before : ℕ) →
    length lists ≡ before + length origins → IsPieceOf names names' lists lists' origins origins' class origin number → length lists' ≡ before + length origins'
piece_size names names' lists lists' origins origins' class origin number before size piece = elim piece [
  | inl (found, same_names, same_lists, same_origins) ↦ ap length same_lists ∙ size ∙ ap (λ (xs : List ℕ). before + length xs) (sym same_origins)
  | inr new ↦
      let (empty, none, pushed) = new.list in
      let more = ap length pushed ∙ length_push lists empty in
      let more' = ap length new.origins_are ∙ length_push origins origin in
      omega arith
]

pub piece_known : (numbers classes touched done : List ℕ) (before : ℕ) (next : List ℕ) (names names' : ClassNames)
    (lists lists' : List (Vec ℕ Global)) (origins origins' : List ℕ) (class origin number : ℕ) →
    Moving numbers classes touched done before next origins (λ c. class_name names c) → length lists ≡ before + length origins →
    IsPieceOf names names' lists lists' origins origins' class origin number → number < length lists'
piece_known numbers classes touched done before next names names' lists lists' origins origins' class origin number so_far size piece = elim piece [
  | inl (found, same_names, same_lists, same_origins) ↦ let lt = so_far.below class number found in let e = ap length same_lists in omega arith
  | inr new ↦
      let (empty, none, pushed) = new.list in
      let more = ap length pushed ∙ length_push lists empty in
      let is = new.number_is in
      omega arith
]
