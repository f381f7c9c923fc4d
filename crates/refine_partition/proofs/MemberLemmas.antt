-- The members of a block, and what a filter keeps.
use Rattle.std.proofs.Common.{◌≡◌, ◌≢◌, ℕ, zero, suc, ◌+◌, ◌<◌, Bool, true, false, cond, nat_eq, List, [], ◌∷◌, ◌++◌, length, get_or, slice_index_or, slice_set, take, All, Contains, filter, filter_map, Vec, Option, Some, None, refl, sym, ◌∙◌, ap, arith, add-one, inl, inr}
use Rattle.std.specs.Prelude.{slice_index, ◌==◌}
use Rattle.std.specs.List.{range_with_len, cons_option}
use Rattle.std.specs.declared.alloc.Global.{Global}
use Rattle.std.proofs.lemmas.Bool.{cases_eq}
use Rattle.std.proofs.lemmas.Bool.Decides.{nat_tests}
use Rattle.std.proofs.lemmas.List.{get_or-set_same, get_or-set_other, append-nil, take_more}
use Rattle.std.proofs.lemmas.List.FromFn.{length-range_with_len, get_or-range_with_len}
use Rattle.std.proofs.lemmas.List.Elements.{filter-append, filter_passes, All-filter, All-cons, All-from_get_or, filter_map-append}
use Rattle.std.proofs.Math.ListN.{length-set}
use Rattle.base_kit.specs.Partition.{members_among, members_of}
use Rattle.base_kit.specs.declared.act_graph.Edge.{Edge}
use Rattle.refine_partition.specs.Members.{AreBlocksAmong, AreBlocks, AreBlockMembers}
use Rattle.refine_partition.specs.Index.{import_from, IsImportIndex}
use Rattle.refine_partition.specs.declared.imports.Import.{Import}

pub same_test : (a b : ℕ) → a ≡ b → nat_eq a b ≡ true
same_test a b e = grind (arith, nat_tests)

pub other_test : (a b : ℕ) → a ≢ b → nat_eq a b ≡ false
other_test a b ne = grind (arith, nat_tests)

pub test_same : (a b : ℕ) → nat_eq a b ≡ true → a ≡ b
test_same a b e = grind (arith, nat_tests)

pub Contains-cons : {X : Type 0} (y : X) (ys : List X) (x : X) → Contains ys x → Contains (y ∷ ys) x
Contains-cons y ys x (k, inside, at) = (suc k, omega arith, at)

pub filter_contains : {X : Type 0} (p : X → Bool) (xs : List X) (x : X) → p x ≡ true → Contains xs x → Contains (filter p xs) x
filter_contains p [] x pass (k, inside, at) = absurd (omega arith)
filter_contains p (y ∷ ys) x pass (zero, inside, at) =
    let e : p y ≡ true = ap p at ∙ pass in rw e (0, omega arith, at)
filter_contains {X} p (y ∷ ys) x pass (suc k, inside, at) = by (p y) (filter_contains p ys x pass (k, omega arith, at))
  where
    by : (b : Bool) → Contains (filter p ys) x → Contains (cond b (y ∷ filter p ys) (filter p ys)) x
    by true found = Contains-cons y (filter p ys) x found
    by false found = found

pub filter_map_contains : {X Y : Type 0} (h : X → Option Y) (xs : List X) (x : X) (y : Y) → h x ≡ Some y → Contains xs x → Contains (filter_map h xs) y
filter_map_contains h [] x y gives (k, inside, at) = absurd (omega arith)
filter_map_contains h (z ∷ zs) x y gives (zero, inside, at) =
    let e : h z ≡ Some y = ap h at ∙ gives in rw e (0, omega arith, refl)
filter_map_contains {X} {Y} h (z ∷ zs) x y gives (suc k, inside, at) = by (h z) (filter_map_contains h zs x y gives (k, omega arith, at))
  where
    by : (o : Option Y) → Contains (filter_map h zs) y → Contains (cons_option o (filter_map h zs)) y
    by (Some w) found = Contains-cons w (filter_map h zs) y found
    by None found = found

pub All-filter_map : {X Y : Type 0} (h : X → Option Y) (P : Y → Type 0) (xs : List X) → ((x : X) (y : Y) → Contains xs x → h x ≡ Some y → P y) →
    All P (filter_map h xs)
All-filter_map h P [] from = λ k d inside. absurd (omega arith)
All-filter_map {X} {Y} h P (x ∷ xs) from = by (h x) refl (All-filter_map h P xs (λ z y within gives. from z y (Contains-cons x xs z within) gives))
  where
    by : (o : Option Y) → h x ≡ o → All P (filter_map h xs) → All P (cons_option o (filter_map h xs))
    by (Some y) e rest = All-cons P y (filter_map h xs) (from x y (0, omega arith, refl) e) rest
    by None e rest = rest

pub range_more : (a n j : ℕ) → a + n ≡ j → range_with_len a (suc n) ≡ range_with_len a n ++ j ∷ []
range_more a zero j e = ap (λ i. i ∷ []) (omega arith)
range_more a (suc n) j e = ap (λ (xs : List ℕ). a ∷ xs) (range_more (a + 1) n j (omega arith))

-- one more router among the first
pub members_more : (numbers : List ℕ) (count block : ℕ) → members_among (count + 1) numbers block ≡ members_among count numbers block
    ++ cond (nat_eq (slice_index numbers count) block) (count ∷ []) []
members_more numbers count block =
    let p : ℕ → Bool = λ router. slice_index numbers router == block in
    ap (λ n. filter p (range_with_len 0 n)) (add-one count) ∙ ap (filter p) (range_more 0 count count (omega arith))
    ∙ filter-append p (range_with_len 0 count) (count ∷ [])

pub blocks_start : (numbers : List ℕ) (blocks : List (Vec ℕ Global)) → All (λ l. l.items ≡ []) blocks → AreBlocksAmong 0 numbers blocks
blocks_start numbers blocks empty = record { each = λ block d inside. empty block d inside }

pub blocks_more : (numbers : List ℕ) (blocks : List (Vec ℕ Global)) (router number : ℕ) (old new : Vec ℕ Global) → AreBlocksAmong router numbers blocks →
    slice_index numbers router ≡ number → number < length blocks → old ≡ slice_index_or blocks number old → new.items ≡ old.items ++ router ∷ [] →
    AreBlocksAmong (router + 1) numbers (slice_set blocks number new)
blocks_more numbers blocks router number old new before is inside read pushed = record {
  each = λ block d within.
      let within' : block < length blocks = omega (arith, length-set blocks number new) in
      elim (cases_eq block number) [
        | inl e ↦
            let here : slice_index_or (slice_set blocks number new) block d ≡ new = ap (λ b. slice_index_or (slice_set blocks number new) b d) e
            ∙ get_or-set_same blocks number new d inside in
            let was : old.items ≡ members_among router numbers number = ap (λ (v : Vec ℕ Global). v.items) read ∙ before.each number old inside in
            let test : nat_eq (slice_index numbers router) block ≡ true = same_test _ _ (is ∙ sym e) in
            ap (λ (v : Vec ℕ Global). v.items) here ∙ pushed ∙ ap (λ (xs : List ℕ). xs ++ router ∷ []) (was ∙ ap (members_among router numbers) (sym e))
            ∙ sym (members_more numbers router block ∙ ap (λ t. members_among router numbers block ++ cond t (router ∷ []) []) test)
        | inr ne ↦
            let there : slice_index_or (slice_set blocks number new) block d ≡ slice_index_or blocks block d = get_or-set_other blocks number block new d ne in
            let test : nat_eq (slice_index numbers router) block ≡ false = other_test _ _ (λ same. ne (sym same ∙ is)) in
            ap (λ (v : Vec ℕ Global). v.items) there ∙ before.each block d within'
            ∙ sym (members_more numbers router block ∙ ap (λ t. members_among router numbers block ++ cond t (router ∷ []) []) test ∙ append-nil _)
      ];
}

pub blocks_end : (numbers : List ℕ) (blocks : List (Vec ℕ Global)) (count : ℕ) → count ≡ length numbers → AreBlocksAmong count numbers blocks →
    AreBlocks numbers blocks
blocks_end numbers blocks count e among = record { each = λ block d inside. among.each block d inside ∙ ap (λ n. members_among n numbers block) e }

pub index_start : (edges : List Edge) (lists : List (Vec Import Global)) → All (λ l. l.items ≡ []) lists → IsImportIndex (take 0 edges) lists
index_start edges lists empty = record { each = λ exporter d inside. empty exporter d inside }

pub index_more : (edges : List Edge) (lists : List (Vec Import Global)) (k : ℕ) (e d' : Edge) (old new : Vec Import Global) →
    IsImportIndex (take k edges) lists → k < length edges → e ≡ get_or edges k d' → e.exporter < length lists → old ≡ slice_index_or lists e.exporter old →
    new.items ≡ old.items ++ record { importer = e.importer; act = e.act } ∷ [] → IsImportIndex (take (k + 1) edges) (slice_set lists e.exporter new)
index_more edges lists k e d' old new before more is inside read pushed = record {
  each = λ exporter d within.
      let within' : exporter < length lists = omega (arith, length-set lists e.exporter new) in
      let longer : filter_map (import_from exporter) (take (k + 1) edges) ≡ filter_map (import_from exporter) (take k edges)
      ++ filter_map (import_from exporter) (e ∷ []) =
      ap (filter_map (import_from exporter)) (take_more edges k d' more) ∙ filter_map-append (import_from exporter) (take k edges) (get_or edges k d' ∷ [])
      ∙ ap (λ (x : Edge). filter_map (import_from exporter) (take k edges) ++ filter_map (import_from exporter) (x ∷ [])) (sym is) in
      elim (cases_eq exporter e.exporter) [
        | inl same ↦
            let here : slice_index_or (slice_set lists e.exporter new) exporter d ≡ new = ap (λ b. slice_index_or (slice_set lists e.exporter new) b d) same
            ∙ get_or-set_same lists e.exporter new d inside in
            let was : old.items ≡ filter_map (import_from e.exporter) (take k edges) = ap (λ (v : Vec Import Global). v.items) read
            ∙ before.each e.exporter old inside in
            let test : nat_eq e.exporter exporter ≡ true = same_test _ _ (sym same) in
            ap (λ (v : Vec Import Global). v.items) here ∙ pushed
            ∙ ap (λ (xs : List Import). xs ++ record { importer = e.importer; act = e.act } ∷ [])
            (was ∙ ap (λ x. filter_map (import_from x) (take k edges)) (sym same)) ∙ sym (longer ∙ rw test refl)
        | inr ne ↦
            let there : slice_index_or (slice_set lists e.exporter new) exporter d ≡ slice_index_or lists exporter d =
            get_or-set_other lists e.exporter exporter new d ne in
            let test : nat_eq e.exporter exporter ≡ false = other_test _ _ (λ same. ne (sym same)) in
            ap (λ (v : Vec Import Global). v.items) there ∙ before.each exporter d within' ∙ sym (longer ∙ rw test (append-nil _))
      ];
}

pub record IsMember (numbers : List ℕ) (block router : ℕ) : Type 0 where
  pub below : router < length numbers
  pub is : slice_index numbers router ≡ block

pub members_all : (numbers : List ℕ) (block : ℕ) → All (IsMember numbers block) (members_of numbers block)
members_all numbers block =
    let p : ℕ → Bool = λ router. slice_index numbers router == block in
    let range : List ℕ = range_with_len 0 (length numbers) in
    let below : All (λ u. u < length numbers) range = All-from_get_or (λ u. u < length numbers) range 0 (λ i inside.
    let size = length-range_with_len 0 (length numbers) in
    let inside' : i < length numbers = omega arith in
    let at = get_or-range_with_len 0 (length numbers) i 0 inside' in
    omega arith) in
    let below' = All-filter p (λ u. u < length numbers) range below in
    let passes = filter_passes p range in
    λ k d inside. record { below = below' k d inside; is = test_same _ _ (passes k d inside) }

pub member : (numbers : List ℕ) (block router : ℕ) → router < length numbers → slice_index numbers router ≡ block → Contains (members_of numbers block) router
member numbers block router below is =
    let p : ℕ → Bool = λ u. slice_index numbers u == block in
    let size = length-range_with_len 0 (length numbers) in
    let at : get_or (range_with_len 0 (length numbers)) router router ≡ router = get_or-range_with_len 0 (length numbers) router router below ∙ omega arith in
    filter_contains p (range_with_len 0 (length numbers)) router (same_test _ _ is) (router, omega arith, at)

pub members_are : (numbers : List ℕ) (block : ℕ) → AreBlockMembers numbers block (members_of numbers block)
members_are numbers block =
    let all = members_all numbers block in
    record {
      below = λ k d inside. (all k d inside).below;
      only = λ k d inside. (all k d inside).is;
      all = member numbers block;
    }
