-- A node where some variables are fixed.
use Rattle.std.proofs.Common.{◌≡◌, ℕ, ◌<◌, ◌≤◌, Bool, true, false, not, ◌&&◌, ◌||◌, cond, List, [], ◌∷◌, ◌++◌, filter, length, get_or, nat_lt, nat_eq, slice_get, Option, Some, None, refl, sym, ◌∙◌, ap, arith, inl, inr}
use Rattle.std.specs.Prelude.{if◌then◌else◌}
use Rattle.std.proofs.lemmas.Bool.{cases_lt}
use Rattle.std.proofs.lemmas.Bool.Decides.{nat_tests}
use Rattle.std.proofs.lemmas.List.{get_or_append_left, get_or_push, length_push}
use Rattle.std.proofs.lemmas.Option.{get_or_from_slice_get, slice_get_read}
use Rattle.base_kit.specs.Sets.{has, with_number, with_numbers}
use Rattle.base_kit.proofs.SetFacts.{has-with_numbers, has-filter, same_number}
use Rattle.dd_core.specs.declared.table.Node.{Node}
use Rattle.dd_core.specs.declared.table.Node.TheVariants.{Constant, Choice}
use Rattle.dd_core.specs.Store.{IsStore, IsAbove, Extends, IsChoiceBetween}
use Rattle.dd_core.specs.Reach.IsReached.{by_high, by_low}
use Rattle.dd_core.specs.Marks.{is_marked, AreMarks}
use Rattle.dd_core.specs.Sets.{Shown, IsShown, Means, value_of, test_of, has_others}
use Rattle.dd_core.specs.Restrict.{IsPartOf, restricted, fixed, fixed_test, IsRestricted, AreSonsRestricted, AreRestricted}
use Rattle.distinct_values.proofs.Interned.{read_get}
use Rattle.dd_core.proofs.ValueLemmas.{value-Constant, value-Choice, value_kept}
use Rattle.dd_core.proofs.NodeLemmas.{above_earlier}
use Rattle.dd_core.proofs.StoreLemmas.{length_kept, get_kept, above_kept}
use Rattle.dd_core.proofs.MemoryLemmas.{above_before}
use Rattle.dd_core.proofs.SetLemmas.{value_agrees}
use Rattle.dd_core.proofs.SupportLemmas.{any-with_number}

pub restricted_kept : (old new : List Node) (fix : ℕ → Option Bool) (place node : ℕ) → Extends old new → place < length old → IsRestricted old fix place node →
    IsRestricted new fix place node
restricted_kept old new fix place node extends inside is =
    let size = length_kept old new extends in
    let there = is.inside in
    record {
      inside = omega arith;
      value = λ test. value_kept old new test node extends there ∙ is.value test ∙ sym (value_kept old new (fixed_test fix test) place extends inside);
      above = λ v above. above_kept old new v node extends there (is.above v (above_before old new v place extends inside above));
    }

pub constant_restricted : (nodes : List Node) (fix : ℕ → Option Bool) (place : ℕ) (b : Bool) → slice_get nodes place ≡ Some (Constant b) →
    IsRestricted nodes fix place place
constant_restricted nodes fix place b at = record {
  inside = (read_get nodes place (Constant b) at).0;
  value = λ test. value-Constant nodes test place b at ∙ sym (value-Constant nodes (fixed_test fix test) place b at);
  above = λ v above. above;
}

module _ (nodes : List Node) (store : IsStore nodes) (fix : ℕ → Option Bool) (place c high low : ℕ) (at : slice_get nodes place ≡ Some (Choice c high low))
  where
    -- a fixed variable leads to one son
    pub high_restricted : (node : ℕ) → fix c ≡ Some true → IsRestricted nodes fix high node → IsRestricted nodes fix place node
    high_restricted node e is =
        let r = store.reduced place c high low at in
        record {
          inside = is.inside;
          value = λ test. let now : fixed_test fix test c ≡ true = rw e refl in
              is.value test ∙ sym (rw now at (value-Choice nodes (fixed_test fix test) place c high low at r.high_before r.low_before));
          above = λ v above. let lt = above.later c high low at in is.above v (above_earlier nodes v c high lt r.high_above);
        }

    pub low_restricted : (node : ℕ) → fix c ≡ Some false → IsRestricted nodes fix low node → IsRestricted nodes fix place node
    low_restricted node e is =
        let r = store.reduced place c high low at in
        record {
          inside = is.inside;
          value = λ test. let now : fixed_test fix test c ≡ false = rw e refl in
              is.value test ∙ sym (rw now at (value-Choice nodes (fixed_test fix test) place c high low at r.high_before r.low_before));
          above = λ v above. let lt = above.later c high low at in is.above v (above_earlier nodes v c low lt r.low_above);
        }

    pub high_stays_above : (node : ℕ) → IsRestricted nodes fix high node → IsAbove nodes c node
    high_stays_above node is = is.above c (store.reduced place c high low at).high_above

    pub low_stays_above : (node : ℕ) → IsRestricted nodes fix low node → IsAbove nodes c node
    low_stays_above node is = is.above c (store.reduced place c high low at).low_above

    -- another one chooses between the nodes of both sons
    pub choice_restricted : (new : List Node) (high' low' node : ℕ) → Extends nodes new → fix c ≡ None → IsRestricted nodes fix high high' →
        IsRestricted nodes fix low low' → IsChoiceBetween nodes new c high' low' node → IsRestricted new fix place node
    choice_restricted new high' low' node extends e is is' choice =
        let r = store.reduced place c high low at in
        let inside = (read_get nodes place (Choice c high low) at).0 in
        record {
          inside = choice.inside;
          value = λ test.
              let now : fixed_test fix test c ≡ test c = rw e refl in
              choice.value test ∙ rw (is.value test, is'.value test) refl
              ∙ sym (rw now at (value-Choice nodes (fixed_test fix test) place c high low at r.high_before r.low_before))
              ∙ sym (value_kept nodes new (fixed_test fix test) place extends inside);
          above = λ v above. let lt = above.later c high low (get_kept nodes new place extends inside ∙ at) in choice.above v lt;
        }

-- the sons of a marked place are marked before it
pub sons_restricted : (first nodes : List Node) (fix : ℕ → Option Bool) (marks : List Bool) (made : List ℕ) (from place : ℕ) → IsStore first →
    Extends first nodes → place < length first → AreMarks first from marks → AreRestricted nodes fix marks made → length made ≡ place →
    is_marked marks place ≡ true → AreSonsRestricted nodes fix made place
sons_restricted first nodes fix marks made from place store extends inside are done size marked =
    let old : (v high low : ℕ) → slice_get nodes place ≡ Some (Choice v high low) → slice_get first place ≡ Some (Choice v high low) =
    λ v high low at. sym (get_kept first nodes place extends inside) ∙ at in
    record {
      high_inside = λ v high low at. let lt = (store.reduced place v high low (old v high low at)).high_before in omega arith;
      low_inside = λ v high low at. let lt = (store.reduced place v high low (old v high low at)).low_before in omega arith;
      high_is = λ v high low at.
          let lt = (store.reduced place v high low (old v high low at)).high_before in
          done.each high (omega arith) (are.all high (by_high place v high low (are.reached place marked) (old v high low at)));
      low_is = λ v high low at.
          let lt = (store.reduced place v high low (old v high low at)).low_before in
          done.each low (omega arith) (are.all low (by_low place v high low (are.reached place marked) (old v high low at)));
    }

pub none_restricted : (nodes : List Node) (fix : ℕ → Option Bool) (marks : List Bool) → AreRestricted nodes fix marks []
none_restricted nodes fix marks = record { each = λ place inside marked. absurd (omega arith) }

pub one_restricted : (old new : List Node) (fix : ℕ → Option Bool) (marks : List Bool) (made : List ℕ) (place node : ℕ) → Extends old new →
    length made ≡ place → place < length old → AreRestricted old fix marks made → (is_marked marks place ≡ true → IsRestricted new fix place node) →
    AreRestricted new fix marks (made ++ node ∷ [])
one_restricted old new fix marks made place node extends size inside done last =
    let more = length_push made node in
    record {
      each = λ other there marked. elim (cases_lt other (length made)) [
        | inl lt ↦
            let read = get_or_append_left made (node ∷ []) 0 other lt in
            rw read (restricted_kept old new fix other (get_or made other 0) extends (omega arith) (done.each other lt marked))
        | inr ge ↦
            let e : other ≡ place = omega arith in
            let read : get_or (made ++ node ∷ []) other 0 ≡ node = get_or_push made node 0 other (omega arith) in
            rw (read, e) (last (rw e at marked))
      ];
    }

-- tests of the restricted set
part_first : (universe : List ℕ) (n : ℕ) (more : List ℕ) → IsPartOf universe (n ∷ more) → has universe n ≡ true
part_first universe n more all = all n (rw (same_number n n refl) refl)

or_right : (a b : Bool) → b ≡ true → a || b ≡ true
or_right true b e = refl
or_right false b e = e

part_rest : (universe : List ℕ) (n : ℕ) (more : List ℕ) → IsPartOf universe (n ∷ more) → IsPartOf universe more
part_rest universe n more all = λ c there. all c (or_right (nat_eq n c) (has more c) there)

others_with_number : (universe : List ℕ) (n : ℕ) (set : List ℕ) → has universe n ≡ true → has_others universe (with_number n set) ≡ has_others universe set
others_with_number universe n set there = any-with_number (λ c. not (has universe c)) n set ∙ rw there refl

others_with_numbers : (universe more set : List ℕ) → IsPartOf universe more → has_others universe (with_numbers more set) ≡ has_others universe set
others_with_numbers universe [] set all = refl
others_with_numbers universe (n ∷ more) set all = others_with_numbers universe more (with_number n set) (part_rest universe n more all)
    ∙ others_with_number universe n set (part_first universe n more all)

others_filter : (universe absent set : List ℕ) → IsPartOf universe absent → has_others universe (filter (λ c. not (has absent c)) set) ≡ has_others universe set
others_filter universe absent [] all = refl
others_filter universe absent (c ∷ cs) all = by (has absent c) refl (others_filter universe absent cs all)
  where
    by : (b : Bool) → has absent c ≡ b → has_others universe (filter (λ d. not (has absent d)) cs) ≡ has_others universe cs →
        has_others universe (cond (not b) (c ∷ filter (λ d. not (has absent d)) cs) (filter (λ d. not (has absent d)) cs)) ≡ not (has universe c)
        || has_others universe cs
    by true e rest = let known = all c e in rw known rest
    by false e rest = ap (λ x. not (has universe c) || x) rest

has-restricted : (present absent set : List ℕ) (c : ℕ) → has (restricted present absent set) c ≡ not (has absent c) && (has present c || has set c)
has-restricted present absent set c = has-filter (λ d. not (has absent d)) (with_numbers present set) c
    ∙ ap (λ b. not (has absent c) && b) (has-with_numbers present set c)

by_fixed : (a p s : Bool) → not a && (p || s) ≡ cond a false (cond p true s)
by_fixed true p s = refl
by_fixed false true s = refl
by_fixed false false s = refl

chosen_fixed : (a p s : Bool) → fixed_test (λ _. if a then Some false else (if p then Some true else None)) (λ _. s) 0 ≡ cond a false (cond p true s)
chosen_fixed true p s = refl
chosen_fixed false true s = refl
chosen_fixed false false s = refl

test-restricted : (universe present absent set : List ℕ) → IsPartOf universe present → IsPartOf universe absent → (v : ℕ) → v ≤ length universe →
    test_of universe (restricted present absent set) v ≡ fixed_test (fixed universe present absent) (test_of universe set) v
test-restricted universe present absent set in_present in_absent v le = elim (cases_lt v (length universe)) [
  | inl lt ↦
      let now : nat_lt v (length universe) ≡ true = grind (arith, nat_tests) in
      let c = get_or universe v 0 in
      rw now (has-restricted present absent set c ∙ by_fixed (has absent c) (has present c) (has set c)
      ∙ sym (chosen_fixed (has absent c) (has present c) (has set c)))
  | inr ge ↦
      let now : nat_lt v (length universe) ≡ false = grind (arith, nat_tests) in
      rw now (others_filter universe absent (with_numbers present set) in_absent ∙ others_with_numbers universe present set in_present)
]

pub restricted_means : (old new : Shown) (present absent : List ℕ) (place node : ℕ) → IsShown old → IsShown new → new.universe ≡ old.universe →
    Extends old.nodes new.nodes → place < length old.nodes → IsPartOf old.universe present → IsPartOf old.universe absent →
    IsRestricted new.nodes (fixed old.universe present absent) place node → Means new node (λ set. value_of old (restricted present absent set) place)
unfolding value_of
restricted_means old new present absent place node is_old is_new same extends inside in_present in_absent is =
    let size = length_kept old.nodes new.nodes extends in
    record {
      inside = is.inside;
      value = λ set.
          let tests : (v : ℕ) → v ≤ length old.universe →
          test_of old.universe (restricted present absent set) v ≡ fixed_test (fixed old.universe present absent) (test_of old.universe set) v =
          test-restricted old.universe present absent set in_present in_absent in
          rw same (is.value (test_of old.universe set)
          ∙ value_kept old.nodes new.nodes (fixed_test (fixed old.universe present absent) (test_of old.universe set)) place extends inside
          ∙ sym (value_agrees old.nodes (length old.universe) (test_of old.universe (restricted present absent set))
          (fixed_test (fixed old.universe present absent) (test_of old.universe set)) (length old.nodes) place is_old.store is_old.within tests inside
          inside));
    }

pub made_at : (made : List ℕ) (i node : ℕ) → i < length made → node ≡ get_or made i node → get_or made i 0 ≡ node
made_at made i node inside e = get_or_from_slice_get made i node 0 (slice_get_read made (length made) i node refl inside e)
