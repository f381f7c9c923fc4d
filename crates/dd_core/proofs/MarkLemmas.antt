-- Marks of the places that are reached, and of their variables.
use Rattle.std.proofs.Common.{◌≡◌, ℕ, zero, suc, ◌<◌, ◌≤◌, ◌+◌, Bool, true, false, ◌&&◌, cond, List, [], ◌∷◌, ◌++◌, length, get_or, set, take, drop, replicate, filter, slice_get, Some, refl, sym, ◌∙◌, ap, arith, inl, inr}
use Rattle.std.specs.Prelude.{◌⊎◌}
use Rattle.std.specs.List.{range_with_len}
use Rattle.std.proofs.lemmas.Bool.{cases_lt, cases_eq}
use Rattle.std.proofs.lemmas.List.{get_or-set_same, get_or-set_other, get_or_past, get_or-replicate, length-append, append-nil, take_all}
use Rattle.std.proofs.Math.ListN.{drop_of_length-le}
use Rattle.std.proofs.lemmas.List.Elements.{filter-append}
use Rattle.std.proofs.lemmas.Option.{get_or_from_slice_get, slice_get-get_or, slice_get_read}
use Rattle.std.proofs.lemmas.Grind.{get_or-set_at, common_steps}
use Rattle.base_kit.specs.Sets.{has, AllAbove, IsAscending}
use Rattle.base_kit.proofs.SetFacts.{has-filter, ascending_filter, same_number, other_number}
use Rattle.dd_core.specs.declared.table.Node.{Node}
use Rattle.dd_core.specs.declared.table.Node.TheVariants.{Constant, Choice}
use Rattle.dd_core.specs.Reach.{IsReached, IsChoiceReached, IsSize}
use Rattle.dd_core.specs.Reach.IsReached.{itself, by_high, by_low}
use Rattle.dd_core.specs.Marks.{is_marked, AreMarks, IsMarking, MarksSons, is_choice, is_marked_choice, choices_before, AreUsedVariables, AreUsedBefore, MarksVariable}

marked_inside : (marks : List Bool) (i : ℕ) → is_marked marks i ≡ true → i < length marks
marked_inside marks i marked = elim (cases_lt i (length marks)) [
  | inl lt ↦ lt
  | inr ge ↦ let past = get_or_past marks i false ge in absurd cc
]

set_kept : (marks : List Bool) (i j : ℕ) → i < length marks → is_marked marks j ≡ true → is_marked (set marks i true) j ≡ true
set_kept marks i j inside marked = elim (cases_eq j i) [
  | inl e ↦ get_or-set_at marks i j true false e inside
  | inr ne ↦ get_or-set_other marks i j true false ne ∙ marked
]

set_only : (marks : List Bool) (i j : ℕ) → is_marked (set marks i true) j ≡ true → (is_marked marks j ≡ true) ⊎ (j ≡ i)
set_only marks i j marked = elim (cases_eq j i) [
  | inl e ↦ inr e
  | inr ne ↦ inl (sym (get_or-set_other marks i j true false ne) ∙ marked)
]

pub length-set : {X : Type 0} (xs : List X) (i : ℕ) (x : X) → length (set xs i x) ≡ length xs
length-set xs i x = grind (arith, common_steps)

module _ (nodes : List Node) (marks : List Bool) (place : ℕ) where
  pub unmarked_sons : is_marked marks place ≡ false → MarksSons nodes marks marks place
  unmarked_sons none = record {
    total = refl;
    later = λ other le. refl;
    kept = λ other marked. marked;
    sons = λ variable high low marked at. absurd cc;
    only = λ from other reached marked. inl marked;
  }

  pub constant_sons : (b : Bool) → slice_get nodes place ≡ Some (Constant b) → MarksSons nodes marks marks place
  constant_sons b at = record {
    total = refl;
    later = λ other le. refl;
    kept = λ other marked. marked;
    sons = λ variable high low marked at'. absurd cc;
    only = λ from other reached marked. inl marked;
  }

  pub marked_sons : (c high low : ℕ) → place < length marks → is_marked marks place ≡ true → slice_get nodes place ≡ Some (Choice c high low) → high < place →
      low < place → MarksSons nodes marks (set (set marks high true) low true) place
  marked_sons c high low inside marked at hb lb =
      let once : List Bool = set marks high true in
      let size : length once ≡ length marks = length-set marks high true in
      record {
        total = length-set once low true ∙ size;
        later = λ other le. get_or-set_other once low other true false (omega arith) ∙ get_or-set_other marks high other true false (omega arith);
        kept = λ other there. set_kept once low other (omega arith) (set_kept marks high other (omega arith) there);
        sons = λ variable high' low' there at'.
            let eh : high ≡ high' = cc in
            let el : low ≡ low' = cc in (
              rw (← eh) (set_kept once low high (omega arith) (get_or-set_same marks high true false (omega arith))),
              rw (← el) (get_or-set_same once low true false (omega arith)),
            );
        only = λ from other reached there. elim (set_only once low other there) [
          | inl before ↦ elim (set_only marks high other before) [
            | inl old ↦ inl old
            | inr e ↦ inr (rw e (by_high place c high low (reached marked) at))
          ]
          | inr e ↦ inr (rw e (by_low place c high low (reached marked) at))
        ];
      }

  marking_closed : (new : List Bool) (from q variable high low : ℕ) → MarksSons nodes marks new place → IsMarking nodes from marks (place + 1) → place ≤ q →
      is_marked new q ≡ true → slice_get nodes q ≡ Some (Choice variable high low) → (is_marked new high ≡ true) × (is_marked new low ≡ true)
  marking_closed new from q variable high low step before le marked at =
      let was : is_marked marks q ≡ true = sym (step.later q le) ∙ marked in
      elim (cases_eq q place) [
        | inl e ↦ step.sons variable high low (rw e at was) (rw e at at)
        | inr ne ↦
            let sons = before.closed q variable high low (omega arith) was at in
            (step.kept high sons.0, step.kept low sons.1)
      ]

  pub marking_step : (new : List Bool) (from : ℕ) → MarksSons nodes marks new place → IsMarking nodes from marks (place + 1) → IsMarking nodes from new place
  marking_step new from step before = record {
    total = step.total ∙ before.total;
    start = step.kept from before.start;
    reached = λ other there. elim (step.only from other (λ marked. before.reached place marked) there) [
      | inl old ↦ before.reached other old
      | inr new' ↦ new'
    ];
    closed = λ q variable high low le marked at. marking_closed new from q variable high low step before le marked at;
  }

pub marking_start : (nodes : List Node) (from : ℕ) (unmarked : List Bool) → unmarked ≡ replicate (from + 1) false → length unmarked ≡ from + 1 →
    IsMarking nodes from (set unmarked from true) (from + 1)
marking_start nodes from unmarked e size =
    let marks : List Bool = set unmarked from true in
    let size' : length marks ≡ from + 1 = length-set unmarked from true ∙ size in
    record {
      total = size';
      start = get_or-set_same unmarked from true false (omega arith);
      reached = λ place marked. elim (set_only unmarked from place marked) [
        | inl old ↦
            let inside = marked_inside unmarked place old in
            let none : is_marked unmarked place ≡ false = rw e (get_or-replicate (from + 1) place false false (omega arith)) in
            absurd cc
        | inr same ↦ rw same itself
      ];
      closed = λ place variable high low le marked at. let inside = marked_inside marks place marked in absurd (omega arith);
    }

all_marked : (nodes : List Node) (from : ℕ) (marks : List Bool) → IsMarking nodes from marks 0 → (place : ℕ) → IsReached nodes from place →
    is_marked marks place ≡ true
all_marked nodes from marks done _ itself = done.start
all_marked nodes from marks done _ (by_high place c high low reached at) =
    (done.closed place c high low (omega arith) (all_marked nodes from marks done place reached) at).0
all_marked nodes from marks done _ (by_low place c high low reached at) =
    (done.closed place c high low (omega arith) (all_marked nodes from marks done place reached) at).1

pub marking_done : (nodes : List Node) (from : ℕ) (marks : List Bool) (place : ℕ) → place ≡ 0 → IsMarking nodes from marks place → AreMarks nodes from marks
marking_done nodes from marks place e marking =
    let done : IsMarking nodes from marks 0 = rw e at marking in
    record { total = done.total; reached = done.reached; all = all_marked nodes from marks done }

above_range : (m a n : ℕ) → m < a → AllAbove m (range_with_len a n)
above_range m a zero lt = tt
above_range m a (suc n) lt = (lt, above_range m (a + 1) n (omega arith))

ascending_range : (a n : ℕ) → IsAscending (range_with_len a n)
ascending_range a zero = tt
ascending_range a (suc n) = (above_range a (a + 1) n (omega arith), ascending_range (a + 1) n)

has-range : (a n q : ℕ) → a ≤ q → q < a + n → has (range_with_len a n) q ≡ true
has-range a zero q le lt = absurd (omega arith)
has-range a (suc n) q le lt = elim (cases_eq a q) [
  | inl e ↦ rw (same_number a q e) refl
  | inr ne ↦ rw (other_number a q ne) (has-range (a + 1) n q (omega arith) (omega arith))
]

both_true : (a b : Bool) → a && b ≡ true → (a ≡ true) × (b ≡ true)
both_true true true e = (refl, refl)
both_true true false e = absurd cc
both_true false b e = absurd cc

-- a node that passes the test is a choice
choice_reached : (nodes : List Node) (from place : ℕ) (node : Node) → IsReached nodes from place → slice_get nodes place ≡ Some node → is_choice node ≡ true →
    IsChoiceReached nodes from place
choice_reached nodes from place (Constant b) reached at is = absurd cc
choice_reached nodes from place (Choice variable high low) reached at is = record { reached = reached; variable = variable; high = high; low = low; node = at }

pub size_is : (nodes : List Node) (from : ℕ) (marks : List Bool) (bound : ℕ) → bound ≡ length marks → bound ≤ length nodes → AreMarks nodes from marks →
    IsSize nodes from (length (choices_before nodes marks bound))
size_is nodes from marks bound e le are =
    let test : ℕ → Bool = is_marked_choice nodes marks in
    let range : List ℕ = range_with_len 0 bound in
    record {
      places = choices_before nodes marks bound;
      ascending = ascending_filter test range (ascending_range 0 bound);
      reached = λ place there.
          let (passes, _) = both_true (test place) (has range place) (sym (has-filter test range place) ∙ there) in
          let (marked, is) = both_true (is_marked marks place) (is_choice (get_or nodes place (Constant false))) passes in
          let inside = marked_inside marks place marked in
          choice_reached nodes from place (get_or nodes place (Constant false)) (are.reached place marked)
          (slice_get-get_or nodes place (Constant false) (omega arith)) is;
      all = λ place choice.
          let marked = are.all place choice.reached in
          let inside = marked_inside marks place marked in
          let read = get_or_from_slice_get nodes place (Choice choice.variable choice.high choice.low) (Constant false) choice.node in
          let is : is_choice (get_or nodes place (Constant false)) ≡ true = rw read refl in
          let passes : test place ≡ true = rw (marked, is) refl in
          let there = has-range 0 bound place (omega arith) (omega arith) in
          has-filter test range place ∙ rw (passes, there) refl;
      count = refl;
    }

range_more : (a n : ℕ) → range_with_len a (n + 1) ≡ range_with_len a n ++ (a + n) ∷ []
range_more a zero = ap (λ (k : ℕ). k ∷ []) (omega arith)
range_more a (suc n) =
    let e : suc n + 1 ≡ suc (n + 1) = omega arith in
    let last : a + 1 + n ≡ a + suc n = omega arith in
    rw e (ap (λ (l : List ℕ). a ∷ l) (range_more (a + 1) n ∙ ap (λ (k : ℕ). range_with_len (a + 1) n ++ k ∷ []) last))

module _ (nodes : List Node) (marks : List Bool) (n : ℕ) where
  choices_more : (b : Bool) → is_marked_choice nodes marks n ≡ b → choices_before nodes marks (n + 1) ≡ choices_before nodes marks n ++ cond b (n ∷ []) []
  choices_more b e =
      let test : ℕ → Bool = is_marked_choice nodes marks in
      let last : range_with_len 0 (n + 1) ≡ range_with_len 0 n ++ n ∷ [] = range_more 0 n ∙ ap (λ (k : ℕ). range_with_len 0 n ++ k ∷ []) (omega arith) in
      ap (filter test) last ∙ filter-append test (range_with_len 0 n) (n ∷ []) ∙ ap (λ d. filter test (range_with_len 0 n) ++ cond d (n ∷ []) []) e

  pub counted_more : is_marked_choice nodes marks n ≡ true → length (choices_before nodes marks (n + 1)) ≡ length (choices_before nodes marks n) + 1
  counted_more e = ap (λ (l : List ℕ). length l) (choices_more true e) ∙ length-append (choices_before nodes marks n) (n ∷ []) ∙ omega arith

  pub counted_same : is_marked_choice nodes marks n ≡ false → length (choices_before nodes marks (n + 1)) ≡ length (choices_before nodes marks n)
  counted_same e = ap (λ (l : List ℕ). length l) (choices_more false e ∙ append-nil (choices_before nodes marks n))

-- marks of variables
pub variable_marked : (nodes : List Node) (used : List Bool) (place c high low : ℕ) → slice_get nodes place ≡ Some (Choice c high low) → c < length used →
    MarksVariable nodes used (set used c true) place
variable_marked nodes used place c high low at inside = record {
  total = length-set used c true;
  kept = λ variable there. set_kept used c variable inside there;
  added = λ variable high' low' at'. let e : variable ≡ c = cc in rw e (get_or-set_same used c true false inside);
  only = λ from variable reached there. elim (set_only used c variable there) [
    | inl old ↦ inl old
    | inr e ↦ inr (record { place = place; high = high; low = low; reached = reached; node = rw e at })
  ];
}

pub no_variable : (nodes : List Node) (used : List Bool) (place : ℕ) (b : Bool) → slice_get nodes place ≡ Some (Constant b) →
    MarksVariable nodes used used place
no_variable nodes used place b at = record {
  total = refl;
  kept = λ variable there. there;
  added = λ variable high low at'. absurd cc;
  only = λ from variable reached there. inl there;
}

pub used_start : (nodes : List Node) (from bound : ℕ) (marks used : List Bool) → used ≡ replicate (bound + 1) false → length used ≡ bound + 1 →
    AreUsedBefore nodes from bound marks used 0
used_start nodes from bound marks used e size = record {
  total = size;
  reached = λ variable there.
      let inside = marked_inside used variable there in
      let none : is_marked used variable ≡ false = rw e (get_or-replicate (bound + 1) variable false false (omega arith)) in
      absurd cc;
  all = λ place variable high low lt marked at. absurd (omega arith);
}

module _ (nodes : List Node) (from bound : ℕ) (marks used : List Bool) (place : ℕ) (before : AreUsedBefore nodes from bound marks used place) where
  pub used_step : (new : List Bool) → AreMarks nodes from marks → is_marked marks place ≡ true → MarksVariable nodes used new place →
      AreUsedBefore nodes from bound marks new (place + 1)
  used_step new are marked step = record {
    total = step.total ∙ before.total;
    reached = λ variable there. elim (step.only from variable (are.reached place marked) there) [
      | inl old ↦ before.reached variable old
      | inr new' ↦ new'
    ];
    all = λ q variable high low lt marked' at. elim (cases_eq q place) [
      | inl e ↦ step.added variable high low (rw e at at)
      | inr ne ↦ step.kept variable (before.all q variable high low (omega arith) marked' at)
    ];
  }

  pub used_skip : is_marked marks place ≡ false → AreUsedBefore nodes from bound marks used (place + 1)
  used_skip none = record {
    total = before.total;
    reached = before.reached;
    all = λ q variable high low lt marked' at. elim (cases_eq q place) [
      | inl e ↦ let none' : is_marked marks q ≡ false = rw e none in absurd cc
      | inr ne ↦ before.all q variable high low (omega arith) marked' at
    ];
  }

  pub used_done : AreMarks nodes from marks → place ≡ length marks → AreUsedVariables nodes from bound used
  used_done are e = record {
    total = before.total;
    reached = before.reached;
    all = λ variable there.
        let marked = are.all there.place there.reached in
        let inside = marked_inside marks there.place marked in
        before.all there.place variable there.high there.low (omega arith) marked there.node;
  }

-- a vector that was lent as a slice, after the slice came back with its length
pub lent_back : {X : Type 0} (n : ℕ) (items new : List X) → length new ≡ n → length items ≡ n → take n (new ++ drop (length new) items) ≡ new
lent_back n items new size size' =
    let none : drop (length new) items ≡ [] = drop_of_length-le items (omega arith) in
    rw (none, append-nil new) (take_all n new (omega arith))

pub read_mark : (marks : List Bool) (i : ℕ) (b : Bool) → i < length marks → b ≡ get_or marks i b → is_marked marks i ≡ b
read_mark marks i b inside e = get_or_from_slice_get marks i b false (slice_get_read marks (length marks) i b refl inside e)
