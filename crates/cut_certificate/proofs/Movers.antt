-- The members of a block that a split moves.
use Rattle.std.proofs.Common.{◌≡◌, ◌≢◌, ℕ, zero, suc, ◌+◌, ◌<◌, ◌≤◌, Bool, true, false, cond, ◌&&◌, nat_eq, nat_lt, List, [], ◌∷◌, ◌++◌, length, get_or, slice_index_or, slice_set, take, All, Contains, Vec, refl, sym, ◌∙◌, ap, subst, arith, inl, inr, Option, Some, None, Result, Ok, Err}
use Rattle.std.specs.Prelude.{slice_index, is_some, ◌⊎◌}
use Rattle.std.specs.List.{dedup, filter}
use Rattle.std.specs.List.Sorted.{IsPermutation}
use Rattle.std.specs.declared.alloc.Global.{Global}
use Rattle.std.proofs.lemmas.Bool.{cases_eq, lt-ltb}
use Rattle.std.proofs.lemmas.Bool.Decides.{nat_tests}
use Rattle.std.proofs.lemmas.List.{ext_get_or, get_or-set_same, get_or-set_other, get_or_append_left, get_or_push, length_push}
use Rattle.std.proofs.lemmas.List.Elements.{All-contains, All-from_get_or, All-get_or, All-weaker, Contains-append_left, Contains-push, Contains-push_cases, filter_passes}
use Rattle.std.proofs.lemmas.List.Filters.{All-dedup}
use Rattle.std.proofs.lemmas.List.Kept.{Contains-dedup_nat}
use Rattle.std.proofs.lemmas.List.Sorted.{All-permutation, Contains-permutation}
use Rattle.std.proofs.Math.ListN.{length-set}
use Rattle.base_kit.specs.declared.act_graph.Edge.{Edge}
use Rattle.base_kit.specs.declared.act_graph.ActGraph.{ActGraph}
use Rattle.base_kit.specs.Sets.{has}
use Rattle.cut_certificate.specs.declared.certificate.Split.{Split}
use Rattle.cut_certificate.specs.declared.outgoing.Placed.{Placed}
use Rattle.cut_certificate.specs.declared.refusal.CutKind.{CutKind}
use Rattle.cut_certificate.specs.Blocks.{Blocks, edge_act, first_blocks, reaches, number_after, numbers_after, split_by}
use Rattle.cut_certificate.specs.Moves.{is_mover, HasMovers, AreMovers, HasStayer, AreMembersListed, AreStillMembersListed, AreIncoming, HasImporters, AreRenumbered, IsSplitOrFault, IsCourse}
use Rattle.cut_certificate.proofs.Leaders.{after_total, grown}
use Rattle.cut_certificate.proofs.Reached.{and_first, and_second, both, reaches_by}
use Rattle.cut_certificate.proofs.Seen.{same_test, other_test, test_same, has_at}
use Rattle.cut_certificate.proofs.Used.{after_at, after_long}

-- ---- the test

pub mover_as : (edges : List Edge) (numbers : List ℕ) (block by act u : ℕ) (b : Bool) → u < length numbers → slice_index numbers u ≡ block
    → reaches edges numbers by act u ≡ b → is_mover edges numbers block by act u ≡ b
mover_as edges numbers block by act u b inside here reach = rw (lt-ltb u (length numbers) inside, same_test (slice_index numbers u) block here, reach) refl

pub mover_elsewhere : (edges : List Edge) (numbers : List ℕ) (block by act u : ℕ) → slice_index numbers u ≢ block
    → is_mover edges numbers block by act u ≡ false
mover_elsewhere edges numbers block by act u ne = ap (λ b. nat_lt u (length numbers) && (b && reaches edges numbers by act u))
    (other_test (slice_index numbers u) block ne) ∙ no (nat_lt u (length numbers))
  where
    no : (b : Bool) → (b && false) ≡ false
    no true = refl
    no false = refl

pub mover_outside : (edges : List Edge) (numbers : List ℕ) (block by act u : ℕ) → length numbers ≤ u → is_mover edges numbers block by act u ≡ false
mover_outside edges numbers block by act u le =
    let test : nat_lt u (length numbers) ≡ false = grind (arith, nat_tests) in
    ap (λ b. b && (nat_eq (slice_index numbers u) block && reaches edges numbers by act u)) test

pub mover_below : (edges : List Edge) (numbers : List ℕ) (block by act u : ℕ) → is_mover edges numbers block by act u ≡ true → u < length numbers
mover_below edges numbers block by act u e =
    let test = and_first (nat_lt u (length numbers)) (nat_eq (slice_index numbers u) block && reaches edges numbers by act u) e in
    let lt : u < length numbers = grind (arith, nat_tests) in lt

pub mover_member : (edges : List Edge) (numbers : List ℕ) (block by act u : ℕ) → is_mover edges numbers block by act u ≡ true → slice_index numbers u ≡ block
mover_member edges numbers block by act u e =
    test_same _ _ (and_first (nat_eq (slice_index numbers u) block) (reaches edges numbers by act u)
    (and_second (nat_lt u (length numbers)) (nat_eq (slice_index numbers u) block && reaches edges numbers by act u) e))

pub mover_reaches : (edges : List Edge) (numbers : List ℕ) (block by act u : ℕ) → is_mover edges numbers block by act u ≡ true
    → reaches edges numbers by act u ≡ true
mover_reaches edges numbers block by act u e =
    and_second (nat_eq (slice_index numbers u) block) (reaches edges numbers by act u)
    (and_second (nat_lt u (length numbers)) (nat_eq (slice_index numbers u) block && reaches edges numbers by act u) e)

-- ---- all movers are candidates

pub movers_in_block : (edges : List Edge) (numbers : List ℕ) (lists : List (Vec ℕ Global)) (block by act : ℕ) (list : Vec ℕ Global)
    → AreMembersListed numbers lists → list ≡ slice_index_or lists block list → HasMovers edges numbers block by act list.items
movers_in_block edges numbers lists block by act list listed read = record {
  all = λ u e.
      let h = mover_below edges numbers block by act u e in
      subst (λ (v : Vec ℕ Global). Contains v.items u) (ap (λ i. slice_index_or lists i list) (mover_member edges numbers block by act u e) ∙ sym read)
      (listed.members u list h);
}

an_item : {X : Type 0} (xs : List X) (k : ℕ) → k < length xs → X
an_item [] k h = absurd (omega arith)
an_item (x ∷ xs) k h = x

pub movers_import : (graph : ActGraph) (numbers : List ℕ) (lists : List (Vec ℕ Global)) (incoming : List (Vec Placed Global)) (block by act : ℕ)
    (list : Vec ℕ Global) (found : List ℕ) → AreIncoming graph incoming → length numbers ≡ graph.count → AreMembersListed numbers lists
    → list ≡ slice_index_or lists by list
    → HasImporters incoming list.items act found → HasMovers graph.edges numbers block by act found
movers_import graph numbers lists incoming block by act list found are total listed read importers = record {
  all = λ u e.
      let l = reaches_by graph.edges numbers by act u (mover_reaches graph.edges numbers block by act u e) in
      let exporter : l.edge.exporter < graph.count = rw (l.at) at (graph.exporters_in_range l.place l.edge l.inside) in
      let inside : l.edge.exporter < length incoming = omega (arith, are.total) in
      let d = an_item incoming l.edge.exporter inside in
      let (p, within, is) = are.each.each l.edge d (l.place, l.inside, l.at) inside in
      let there : Contains list.items l.edge.exporter = subst (λ (v : Vec ℕ Global). Contains v.items l.edge.exporter)
      (ap (λ i. slice_index_or lists i list) l.into ∙ sym read) (listed.members l.edge.exporter list (omega (arith, total))) in
      subst (Contains found) (ap (λ (x : Edge). x.importer) is ∙ l.importer)
      (importers.each l.edge.exporter d p there within (ap (λ (x : Edge). x.act) is ∙ l.acts));
}

filter_contains : (p : ℕ → Bool) (xs : List ℕ) (x : ℕ) → p x ≡ true → Contains xs x → Contains (filter p xs) x
filter_contains p [] x pass (k, inside, at) = absurd (omega arith)
filter_contains p (y ∷ ys) x pass (zero, inside, at) =
    let e : p y ≡ true = ap p at ∙ pass in rw e (0, omega arith, at)
filter_contains p (y ∷ ys) x pass (suc k, inside, at) = by (p y) (filter_contains p ys x pass (k, omega arith, at))
  where
    by : (b : Bool) → Contains (filter p ys) x → Contains (cond b (y ∷ filter p ys) (filter p ys)) x
    by true (j, within, at') = (suc j, omega arith, at')
    by false found = found

pub movers_kept : (edges : List Edge) (numbers : List ℕ) (block by act : ℕ) (found kept sorted : List ℕ) → HasMovers edges numbers block by act found
    → kept ≡ filter (is_mover edges numbers block by act) found → IsPermutation kept sorted → AreMovers edges numbers block by act (dedup nat_eq sorted)
movers_kept edges numbers block by act found kept sorted has is moved = record {
  only = All-dedup nat_eq (λ u. is_mover edges numbers block by act u ≡ true) sorted
      (All-permutation (λ u. is_mover edges numbers block by act u ≡ true) kept sorted moved
      (subst (All (λ u. is_mover edges numbers block by act u ≡ true)) (sym is) (filter_passes (is_mover edges numbers block by act) found)));
  all = λ u e. Contains-dedup_nat sorted u (Contains-permutation kept sorted u moved
      (subst (λ (us : List ℕ). Contains us u) (sym is) (filter_contains (is_mover edges numbers block by act) found u e (has.all u e))));
}

-- ---- the numbers after a split

after_mover : (edges : List Edge) (numbers : List ℕ) (block by act next u : ℕ) (b : Bool) → u < length numbers → is_mover edges numbers block by act u ≡ b
    → number_after edges numbers block by act next u ≡ cond b next (slice_index numbers u)
after_mover edges numbers block by act next u b h e =
    let own : (nat_eq (slice_index numbers u) block && reaches edges numbers by act u) ≡ b =
    ap (λ t. t && (nat_eq (slice_index numbers u) block && reaches edges numbers by act u)) (sym (lt-ltb u (length numbers) h)) ∙ e in
    ap (λ t. cond t next (slice_index numbers u)) own

true_or_false : (b : Bool) → (b ≡ true) ⊎ (b ≡ false)
true_or_false true = inl refl
true_or_false false = inr refl

pub renumbered_is : (edges : List Edge) (numbers movers new : List ℕ) (block by act next : ℕ) → AreMovers edges numbers block by act movers
    → AreRenumbered numbers movers next new → new ≡ numbers_after edges numbers block by act next
renumbered_is edges numbers movers new block by act next are done =
    ext_get_or 0 new (numbers_after edges numbers block by act next) (done.total ∙ sym (after_long edges numbers block by act next)) (λ u inside.
    let h : u < length numbers = omega (arith, done.total) in
    let at = after_at edges numbers block by act next u h in
    elim (true_or_false (is_mover edges numbers block by act u)) [
      | inl moves ↦ done.moved u (are.all u moves) ∙ sym (at ∙ after_mover edges numbers block by act next u true h moves)
      | inr stays ↦ done.rest u (λ found. no (sym stays ∙ All-contains (λ v. is_mover edges numbers block by act v ≡ true) movers u are.only found))
          ∙ sym (at ∙ after_mover edges numbers block by act next u false h stays)
    ])
  where
    no : false ≡ true → ⊥
    no e = cc

has_value : (xs : List ℕ) (k n : ℕ) → k < length xs → get_or xs k 0 ≡ n → has xs n ≡ true
has_value xs k n h is = ap (has xs) (sym is) ∙ has_at xs k h

has_none : (xs : List ℕ) (n : ℕ) → ((k : ℕ) → k < length xs → get_or xs k 0 ≢ n) → has xs n ≡ false
has_none [] n none = refl
has_none (x ∷ xs) n none = rw (other_test x n (none 0 (omega arith))) (has_none xs n (λ k h. none (suc k) (omega arith)))

-- a member goes and one stays
pub parts_some : (edges : List Edge) (numbers : List ℕ) (block by act next mover : ℕ) → is_mover edges numbers block by act mover ≡ true
    → HasStayer edges numbers block by act
    → (has (numbers_after edges numbers block by act next) block && has (numbers_after edges numbers block by act next) next) ≡ true
parts_some edges numbers block by act next mover moves stayer =
    let long = after_long edges numbers block by act next in
    let h = mover_below edges numbers block by act mover moves in
    let left = has_value (numbers_after edges numbers block by act next) stayer.router block (let s = stayer.below in omega arith)
    (after_at edges numbers block by act next stayer.router stayer.below
    ∙ after_mover edges numbers block by act next stayer.router false stayer.below stayer.stays ∙ stayer.member) in
    let right = has_value (numbers_after edges numbers block by act next) mover next (omega arith)
    (after_at edges numbers block by act next mover h ∙ after_mover edges numbers block by act next mover true h moves) in
    both _ _ left right

-- all go
pub parts_all : (edges : List Edge) (numbers : List ℕ) (block by act next : ℕ) → next ≢ block
    → ((u : ℕ) → u < length numbers → slice_index numbers u ≡ block → is_mover edges numbers block by act u ≡ true)
    → (has (numbers_after edges numbers block by act next) block && has (numbers_after edges numbers block by act next) next) ≡ false
parts_all edges numbers block by act next ne all =
    let long = after_long edges numbers block by act next in
    ap (λ b. b && has (numbers_after edges numbers block by act next) next) (has_none (numbers_after edges numbers block by act next) block (λ u inside is.
    let h : u < length numbers = omega arith in
    let at = sym (after_at edges numbers block by act next u h) ∙ is in
    elim (true_or_false (is_mover edges numbers block by act u)) [
      | inl moves ↦ ne (sym (after_mover edges numbers block by act next u true h moves) ∙ at)
      | inr stays ↦ no (sym stays ∙ all u h (sym (after_mover edges numbers block by act next u false h stays) ∙ at))
    ]))
  where
    no : false ≡ true → ⊥
    no e = cc

-- none goes
pub parts_none : (edges : List Edge) (numbers : List ℕ) (block by act next : ℕ) → All (λ number. number < next) numbers
    → ((u : ℕ) → is_mover edges numbers block by act u ≡ false)
    → (has (numbers_after edges numbers block by act next) block && has (numbers_after edges numbers block by act next) next) ≡ false
parts_none edges numbers block by act next below none =
    let long = after_long edges numbers block by act next in
    ap (λ b. has (numbers_after edges numbers block by act next) block && b) (has_none (numbers_after edges numbers block by act next) next (λ u inside is.
    let h : u < length numbers = omega arith in
    let at = sym (after_mover edges numbers block by act next u false h (none u)) ∙ sym (after_at edges numbers block by act next u h) ∙ is in
    let lt = below u 0 h in absurd (omega arith))) ∙ no (has (numbers_after edges numbers block by act next) block)
  where
    no : (b : Bool) → (b && false) ≡ false
    no true = refl
    no false = refl

pub no_mover : (edges : List Edge) (numbers movers : List ℕ) (block by act u : ℕ) → AreMovers edges numbers block by act movers → movers ≡ []
    → is_mover edges numbers block by act u ≡ false
no_mover edges numbers movers block by act u are empty = elim (true_or_false (is_mover edges numbers block by act u)) [
  | inl moves ↦ absurd (let (k, inside, at) = are.all u moves in let none = ap length empty in omega arith)
  | inr stays ↦ stays
]

-- ---- renumbering

pub renumbered_none : (numbers : List ℕ) (movers : List ℕ) (next : ℕ) → AreRenumbered numbers (take 0 movers) next numbers
renumbered_none numbers movers next = record {
  total = refl;
  moved = λ u (k, inside, at). absurd (omega arith);
  rest = λ u none. refl;
}

pub renumbered_more : (old done new : List ℕ) (router next : ℕ) → AreRenumbered old done next new → router < length old
    → AreRenumbered old (done ++ router ∷ []) next (slice_set new router next)
renumbered_more old done new router next are inside = record {
  total = length-set new router next ∙ are.total;
  moved = λ u found. elim (cases_eq u router) [
    | inl e ↦ ap (slice_index (slice_set new router next)) e ∙ get_or-set_same new router next 0 (omega (arith, are.total))
    | inr ne ↦ get_or-set_other new router u next 0 ne ∙ (elim (Contains-push_cases done router u found) [
      | inl there ↦ are.moved u there
      | inr e ↦ absurd (ne (sym e))
    ])
  ];
  rest = λ u none. elim (cases_eq u router) [
    | inl e ↦ absurd (none (subst (Contains (done ++ router ∷ [])) (sym e) (Contains-push done router)))
    | inr ne ↦ get_or-set_other new router u next 0 ne ∙ are.rest u (λ there. none (Contains-append_left done (router ∷ []) u there))
  ];
}

-- ---- lists

-- a new list of the movers
pub listed_moved : (numbers new : List ℕ) (lists lists' : List (Vec ℕ Global)) (movers : Vec ℕ Global) (next : ℕ) → AreMembersListed numbers lists
    → next ≡ length lists → AreRenumbered numbers movers.items next new → All (λ u. u < length numbers) movers.items
    → lists' ≡ lists ++ movers ∷ [] → AreMembersListed new lists'
listed_moved numbers new lists lists' movers next are count done below pushed =
    let long : length lists' ≡ length lists + 1 = ap length pushed ∙ length_push lists movers in
    let old_list : (block : ℕ) (d : Vec ℕ Global) → block < length lists → slice_index_or lists' block d ≡ slice_index_or lists block d = λ block d h.
    ap (λ (ls : List (Vec ℕ Global)). slice_index_or ls block d) pushed ∙ get_or_append_left lists (movers ∷ []) d block h in
    let new_list : (d : Vec ℕ Global) → slice_index_or lists' next d ≡ movers = λ d. ap (λ (ls : List (Vec ℕ Global)). slice_index_or ls next d) pushed
    ∙ get_or_push lists movers d next (sym count) in
    record {
      below = All-from_get_or (λ number. number < length lists') new 0 (λ u inside.
          let h : u < length numbers = omega (arith, done.total) in
          let was : slice_index numbers u < length lists = All-get_or (λ n. n < length lists) numbers u 0 h are.below in
          elim (contains_or_not movers.items u) [
            | inl there ↦ let is = done.moved u there in omega arith
            | inr none ↦ let is = done.rest u none in omega arith
          ]);
      routers = λ block d inside. elim (cases_eq block next) [
        | inl e ↦ rw (ap (λ i. slice_index_or lists' i d) e ∙ new_list d) (λ k e within. (let lt = below k e within in omega (arith, done.total)))
        | inr ne ↦ rw (old_list block d (omega arith)) (λ k e within. (let lt = are.routers block d (omega arith) k e within in omega (arith, done.total)))
      ];
      members = λ u d hu.
          let h : u < length numbers = omega (arith, done.total) in
          let was : slice_index numbers u < length lists = All-get_or (λ n. n < length lists) numbers u 0 h are.below in
          elim (contains_or_not movers.items u) [
            | inl there ↦ rw (ap (λ i. slice_index_or lists' i d) (done.moved u there) ∙ new_list d) there
            | inr none ↦ rw (ap (λ i. slice_index_or lists' i d) (done.rest u none) ∙ old_list (slice_index numbers u) d was) (are.members u d h)
          ];
    }
  where
    not_there : (x : ℕ) (xs : List ℕ) (u : ℕ) → x ≢ u → ¬ Contains xs u → Contains (x ∷ xs) u → ⊥
    not_there x xs u ne none (zero, inside, at) = ne at
    not_there x xs u ne none (suc k, inside, at) = none (k, omega arith, at)

    contains_or_not : (xs : List ℕ) (u : ℕ) → Contains xs u ⊎ (¬ Contains xs u)
    contains_or_not [] u = inr (λ (k, inside, at). absurd (omega arith))
    contains_or_not (x ∷ xs) u = elim (cases_eq x u) [
      | inl e ↦ inl (0, omega arith, e)
      | inr ne ↦ elim (contains_or_not xs u) [
        | inl (k, inside, at) ↦ inl (suc k, omega arith, at)
        | inr none ↦ inr (λ found. not_there x xs u ne none found)
      ]
    ]

-- the list of one block is another, which still has its members
pub listed_set : (numbers : List ℕ) (lists : List (Vec ℕ Global)) (block : ℕ) (list list' : Vec ℕ Global) → AreMembersListed numbers lists
    → block < length lists → list ≡ slice_index_or lists block list → AreStillMembersListed numbers block list.items list'.items
    → AreMembersListed numbers (slice_set lists block list')
listed_set numbers lists block list list' listed known read still =
    let size = length-set lists block list' in
    record {
      below = All-weaker (λ n. n < length lists) (λ n. n < length (slice_set lists block list')) (λ n lt. omega arith) numbers listed.below;
      routers = λ b d inside. elim (cases_eq b block) [
        | inl e ↦
            let here : slice_index_or (slice_set lists block list') b d ≡ list' = ap (λ i. slice_index_or (slice_set lists block list') i d) e
            ∙ get_or-set_same lists block list' d known in
            rw here still.routers
        | inr ne ↦ rw (get_or-set_other lists block b list' d ne) (listed.routers b d (omega arith))
      ];
      members = λ u d hu. elim (cases_eq (slice_index numbers u) block) [
        | inl e ↦
            let here : slice_index_or (slice_set lists block list') (slice_index numbers u) d ≡ list' =
            ap (λ i. slice_index_or (slice_set lists block list') i d) e ∙ get_or-set_same lists block list' d known in
            let was : Contains list.items u = subst (λ (v : Vec ℕ Global). Contains v.items u) (ap (λ i. slice_index_or lists i list) e ∙ sym read)
            (listed.members u list hu) in
            rw here (still.members u was e)
        | inr ne ↦ rw (get_or-set_other lists block (slice_index numbers u) list' d ne) (listed.members u d hu)
      ];
    }

-- ---- what came of a split

pub outcome_made : (defined : Result Blocks CutKind) (before after : Blocks) (fault : Option CutKind) → IsSplitOrFault defined before after fault → fault ≡ None
    → defined ≡ Ok after
outcome_made defined before after None is none = is
outcome_made defined before after (Some kind) is none = absurd cc

pub none_by : (fault : Option CutKind) → is_some fault ≡ false → fault ≡ None
none_by None is = refl
none_by (Some kind) is = absurd cc

pub some_by : (fault : Option CutKind) → is_some fault ≡ true → fault ≢ None
some_by fault is none = let e = sym (ap is_some none) ∙ is in cc

pub outcome_fault : (defined : Result Blocks CutKind) (before after : Blocks) (fault : Option CutKind) (kind : CutKind)
    → IsSplitOrFault defined before after fault → fault ≡ Some kind → (defined ≡ Err kind) × (after ≡ before)
outcome_fault defined before after None kind is some = absurd cc
outcome_fault defined before after (Some other) kind is some = let same : other ≡ kind = cc in (is.0 ∙ ap (λ (k : CutKind). Err k) same, is.1)

pub no_outcome : (defined : Result Blocks CutKind) (before after next : Blocks) (fault : Option CutKind) (kind : CutKind)
    → IsSplitOrFault defined before after fault → fault ≡ Some kind → defined ≡ Ok next → ⊥
no_outcome defined before after next fault kind is some made = let e = sym made ∙ (outcome_fault defined before after fault kind is some).0 in cc

pub act_at : (edges : List Edge) (k : ℕ) (e : Edge) → k < length edges → slice_index_or edges k e ≡ e → e.act ≡ edge_act edges k
act_at [] k e h at = absurd (omega arith)
act_at (x ∷ xs) zero e h at = ap (λ (y : Edge). y.act) (sym at)
act_at (x ∷ xs) (suc k) e h at = act_at xs k e (omega arith) at

-- ---- splits and the blocks to which they lead

pub course_first : (graph : ActGraph) (blocks : Blocks) → blocks ≡ first_blocks graph → IsCourse graph blocks []
course_first graph blocks is = record {
  after = sym is;
  few =
      (let count : blocks.count ≡ (first_blocks graph).count = ap (λ (b : Blocks). b.count) is in omega arith);
}

pub course_total : (graph : ActGraph) (blocks : Blocks) (splits : List Split) → IsCourse graph blocks splits → length blocks.numbers ≡ graph.count
course_total graph blocks splits are = after_total graph (first_blocks graph) blocks splits refl are.after

-- one split more, where it can be made
pub course_more : (graph : ActGraph) (blocks next : Blocks) (splits more : List Split) (split : Split) (fault : Option CutKind) → IsCourse graph blocks splits
    → split.edge < length graph.edges → IsSplitOrFault (split_by graph.edges blocks split) blocks next fault → fault ≡ None → more ≡ splits ++ split ∷ []
    → IsCourse graph next more
course_more graph blocks next splits more split fault are inside is none pushed =
    let g = grown graph (first_blocks graph) blocks next splits more split blocks.count next.count are.after (course_total graph blocks splits are) refl are.few
    (outcome_made (split_by graph.edges blocks split) blocks next fault is none) inside pushed refl in
    record { after = g.0.after; few = g.0.few }

pub course_same : (graph : ActGraph) (blocks next : Blocks) (splits : List Split) (split : Split) (fault : Option CutKind) → IsCourse graph blocks splits
    → IsSplitOrFault (split_by graph.edges blocks split) blocks next fault → fault ≢ None → IsCourse graph next splits
course_same graph blocks next splits split None are is some = absurd (some refl)
course_same graph blocks next splits split (Some kind) are is some = subst (λ (b : Blocks). IsCourse graph b splits) (sym is.1) are
