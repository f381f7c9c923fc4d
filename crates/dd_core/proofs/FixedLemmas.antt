-- The way down through fixed variables, and nodes below which none is fixed.
use Rattle.std.proofs.Common.{◌≡◌, ◌≢◌, ℕ, zero, suc, ◌<◌, ◌≤◌, Bool, true, false, ◌||◌, List, [], ◌∷◌, length, get_or, nat_lt, nat_eq, slice_get, Option, Some, None, refl, sym, ◌∙◌, arith, inl, inr}
use Rattle.std.specs.List.{list_all}
use Rattle.std.proofs.lemmas.Bool.{cases_lt, cases_eq}
use Rattle.std.proofs.lemmas.Bool.Decides.{nat_tests}
use Rattle.std.proofs.lemmas.List.Sums.{AllPass-from_list_all, list_all-from_AllPass}
use Rattle.base_kit.specs.Sets.{has, IsAscending}
use Rattle.dd_core.specs.declared.table.Node.{Node}
use Rattle.dd_core.specs.declared.table.Node.TheVariants.{Constant, Choice}
use Rattle.dd_core.specs.Value.{value}
use Rattle.dd_core.specs.Store.{IsStore, IsAbove, IsNotBefore, Extends}
use Rattle.dd_core.specs.Restrict.{fixed, fixed_test, IsRestricted}
use Rattle.dd_core.specs.Fixed.{LeadsTo, IsUnfixed}
use Rattle.dd_core.proofs.ValueLemmas.{value-Constant, value-Choice, value_kept}
use Rattle.dd_core.proofs.NodeLemmas.{above_earlier, IsNodeAt, node_at}
use Rattle.dd_core.proofs.NodeLemmas.IsNodeAt.{is_constant, is_choice}
use Rattle.dd_core.proofs.StoreLemmas.{above_kept}
use Rattle.dd_core.proofs.MemoryLemmas.{above_before}
use Rattle.dd_core.proofs.SupportLemmas.{index_below}

pub leads_itself : (nodes : List Node) (fix : ℕ → Option Bool) (place : ℕ) → place < length nodes → LeadsTo nodes fix place place
leads_itself nodes fix place inside = record { inside = inside; value = λ test. refl; above = λ v above. above }

module _ (nodes : List Node) (store : IsStore nodes) (fix : ℕ → Option Bool) (from place c high low : ℕ) (at : slice_get nodes place ≡ Some (Choice c high low))
    (leads : LeadsTo nodes fix from place) where
  pub leads_high : fix c ≡ Some true → LeadsTo nodes fix from high
  leads_high e =
      let r = store.reduced place c high low at in
      let before = r.high_before in
      let inside = leads.inside in
      record {
        inside = omega arith;
        value = λ test.
            let now : fixed_test fix test c ≡ true = rw e refl in
            sym (rw now at (value-Choice nodes (fixed_test fix test) place c high low at r.high_before r.low_before)) ∙ leads.value test;
        above = λ v above. let lt = (leads.above v above).later c high low at in above_earlier nodes v c high lt r.high_above;
      }

  pub leads_low : fix c ≡ Some false → LeadsTo nodes fix from low
  leads_low e =
      let r = store.reduced place c high low at in
      let before = r.low_before in
      let inside = leads.inside in
      record {
        inside = omega arith;
        value = λ test.
            let now : fixed_test fix test c ≡ false = rw e refl in
            sym (rw now at (value-Choice nodes (fixed_test fix test) place c high low at r.high_before r.low_before)) ∙ leads.value test;
        above = λ v above. let lt = (leads.above v above).later c high low at in above_earlier nodes v c low lt r.low_above;
      }

-- what the place becomes in a larger store, the first one becomes
pub leads_restricted : (old new : List Node) (fix : ℕ → Option Bool) (from place node : ℕ) → Extends old new → from < length old → LeadsTo old fix from place →
    IsRestricted new fix place node → IsRestricted new fix from node
leads_restricted old new fix from place node extends inside leads is = record {
  inside = is.inside;
  value = λ test.
      is.value test ∙ value_kept old new (fixed_test fix test) place extends leads.inside
      ∙ leads.value test ∙ sym (value_kept old new (fixed_test fix test) from extends inside);
  above = λ v above. is.above v (above_place v above);
}
  where
    above_place : (v : ℕ) → IsAbove new v from → IsAbove new v place
    above_place v above = above_kept old new v place extends leads.inside (leads.above v (above_before old new v from extends inside above))

-- the value depends only on the variables from the node's own on
later_step : (nodes : List Node) (f g : ℕ → Bool) (v i : ℕ) → IsStore nodes → ((w : ℕ) → v ≤ w → f w ≡ g w) →
    ((k : ℕ) → k < i → k < length nodes → IsNotBefore nodes v k → value nodes f k ≡ value nodes g k) → i < length nodes → IsNotBefore nodes v i →
    IsNodeAt nodes i → value nodes f i ≡ value nodes g i
later_step nodes f g v i store same sons inside later (is_constant b at) = value-Constant nodes f i b at ∙ sym (value-Constant nodes g i b at)
later_step nodes f g v i store same sons inside later (is_choice c high low at) =
    let r = store.reduced i c high low at in
    let le = later.same_or_later c high low at in
    let hb = r.high_before in
    let lb = r.low_before in
    let e1 = value-Choice nodes f i c high low at hb lb in
    let e2 = value-Choice nodes g i c high low at hb lb in
    let eh = sons high hb (omega arith) (from_above high r.high_above le) in
    let el = sons low lb (omega arith) (from_above low r.low_above le) in
    let ec = same c le in
    cc
  where
    from_above : (k : ℕ) → IsAbove nodes c k → v ≤ c → IsNotBefore nodes v k
    from_above k above le = record { same_or_later = λ other h l there. let lt = above.later other h l there in omega arith }

pub same_later : (nodes : List Node) (f g : ℕ → Bool) (v n i : ℕ) → IsStore nodes → ((w : ℕ) → v ≤ w → f w ≡ g w) → i < n → i < length nodes →
    IsNotBefore nodes v i → value nodes f i ≡ value nodes g i
same_later nodes f g v zero i store same below inside later = absurd (omega arith)
same_later nodes f g v (suc n) i store same below inside later =
    later_step nodes f g v i store same (λ k before inside' later'. same_later nodes f g v n k store same (omega arith) inside' later') inside later
    (node_at nodes i inside)

-- so a node below which none is fixed stays
pub unfixed_restricted : (nodes : List Node) (fix : ℕ → Option Bool) (place : ℕ) → IsStore nodes → place < length nodes → IsUnfixed nodes fix place →
    IsRestricted nodes fix place place
unfixed_restricted nodes fix place store inside unfixed = by (node_at nodes place inside)
  where
    by : IsNodeAt nodes place → IsRestricted nodes fix place place
    by (is_constant b at) = record {
      inside = inside;
      value = λ test. value-Constant nodes test place b at ∙ sym (value-Constant nodes (fixed_test fix test) place b at);
      above = λ v above. above;
    }
    by (is_choice c high low at) = record {
      inside = inside;
      value = λ test. same_later nodes test (fixed_test fix test) c (suc place) place store (λ w le. let e = unfixed.none c high low at w le in rw e refl)
          (omega arith) inside (itself c high low at);
      above = λ v above. above;
    }
      where
        itself : (c high low : ℕ) → slice_get nodes place ≡ Some (Choice c high low) → IsNotBefore nodes c place
        itself c high low at = record { same_or_later = λ other h l there. let e : c ≡ other = cc in omega arith }

-- a community of the set comes before one before which all come
less : (x c d : ℕ) → nat_lt x c ≡ true → x ≡ d → d < c
less x c d test e = grind (arith, nat_tests)

another : (x d : ℕ) (more : Bool) → x ≢ d → nat_eq x d || more ≡ true → more ≡ true
another x d more ne there = let differ : nat_eq x d ≡ false = grind (arith, nat_tests) in rw differ at there

before_all : (set : List ℕ) (c d : ℕ) → list_all (λ x. nat_lt x c) set ≡ true → has set d ≡ true → d < c
before_all [] c d all there = absurd cc
before_all (x ∷ xs) c d all there =
    let both = AllPass-from_list_all (λ y. nat_lt y c) (x ∷ xs) all in
    elim (cases_eq x d) [
      | inl e ↦ less x c d (both 0 x (omega arith)) e
      | inr ne ↦ before_all xs c d (list_all-from_AllPass (λ y. nat_lt y c) xs (λ k y lt. both (suc k) y (omega arith))) (another x d (has xs d) ne there)
    ]

not_there : (set : List ℕ) (c d : ℕ) → list_all (λ x. nat_lt x c) set ≡ true → c ≤ d → has set d ≡ false
not_there set c d all le = by (has set d) refl
  where
    by : (b : Bool) → has set d ≡ b → b ≡ false
    by true e = let lt = before_all set c d all e in absurd (omega arith)
    by false e = refl

pub constant_unfixed : (nodes : List Node) (fix : ℕ → Option Bool) (place : ℕ) (b : Bool) → slice_get nodes place ≡ Some (Constant b) →
    IsUnfixed nodes fix place
constant_unfixed nodes fix place b at = record { none = λ v high low at'. absurd cc }

module _ (nodes : List Node) (universe present absent : List ℕ) (place v high low : ℕ) (at : slice_get nodes place ≡ Some (Choice v high low)) where
  fixed_past : (w : ℕ) → length universe ≤ w → fixed universe present absent w ≡ None
  fixed_past w past = let now : nat_lt w (length universe) ≡ false = grind (arith, nat_tests) in rw now refl

  pub others_unfixed : length universe ≤ v → IsUnfixed nodes (fixed universe present absent) place
  others_unfixed past = record { none = λ other h l there w le. let e : v ≡ other = cc in fixed_past w (omega arith) }

  not_below : IsAscending universe → (w : ℕ) → v ≤ w → w < length universe → get_or universe v 0 ≤ get_or universe w 0
  not_below up w le inside = elim (cases_eq v w) [
    | inl e ↦ rw e (omega arith)
    | inr ne ↦ let lt = index_below universe v w up (omega arith) inside in omega arith
  ]

  pub before_unfixed : (c : ℕ) → IsAscending universe → get_or universe v 0 ≡ c → list_all (λ x. nat_lt x c) present ≡ true →
      list_all (λ x. nat_lt x c) absent ≡ true → IsUnfixed nodes (fixed universe present absent) place
  before_unfixed c up stands in_present in_absent = record {
    none = λ other h l there w le.
        let e : v ≡ other = cc in
        elim (cases_lt w (length universe)) [
          | inl lt ↦
              let now : nat_lt w (length universe) ≡ true = grind (arith, nat_tests) in
              let least = not_below up w (omega arith) lt in
              let p = not_there present c (get_or universe w 0) in_present (omega arith) in
              let a = not_there absent c (get_or universe w 0) in_absent (omega arith) in
              rw (now, a, p) refl
          | inr past ↦ fixed_past w past
        ];
  }
