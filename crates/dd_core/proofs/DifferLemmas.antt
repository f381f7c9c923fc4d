-- Public: crates above cite `differ_on_set` and `same_place_on_sets`. Different places have a set on which
-- their values differ.
use Rattle.std.proofs.Common.{◌≡◌, ◌≢◌, ℕ, zero, suc, ◌<◌, ◌≤◌, Bool, true, false, List, length, slice_get, Some, refl, sym, ◌∙◌, arith, inl, inr}
use Rattle.std.specs.Prelude.{◌⊎◌}
use Rattle.std.proofs.lemmas.Bool.{cases_lt, cases_eq}
use Rattle.dd_core.specs.declared.table.Node.{Node}
use Rattle.dd_core.specs.declared.table.Node.TheVariants.{Constant, Choice}
use Rattle.dd_core.specs.Value.{value}
use Rattle.dd_core.specs.Store.{IsStore, IsAbove}
use Rattle.dd_core.proofs.ValueLemmas.{value-Constant}
use Rattle.dd_core.proofs.NodeLemmas.{IsNodeAt, is_constant, is_choice, node_at, updated, value-updated, value_high, value_low, constant_above, choice_above}
use Rattle.dd_core.proofs.SetLemmas.{value_agrees, set_of, test-set_of, ascending-set_of}
use Rattle.base_kit.specs.Sets.{IsAscending}
use Rattle.dd_core.specs.Sets.{Shown, IsShown, DifferOnSet, value_of, test_of}

-- a test on which the two values differ
pub record DifferSomewhere (nodes : List Node) (i j : ℕ) : Type 0 where
  pub test : ℕ → Bool
  pub differ : value nodes test i ≢ value nodes test j

swap_differ : (nodes : List Node) (i j : ℕ) → DifferSomewhere nodes i j → DifferSomewhere nodes j i
swap_differ nodes i j d = record { test = d.test; differ = λ e. d.differ (sym e) }

-- one of two different values differs from a third
one_differs : (x y z : Bool) → x ≢ y → (x ≢ z) ⊎ (y ≢ z)
one_differs true true z ne = absurd (ne refl)
one_differs false false z ne = absurd (ne refl)
one_differs true false true ne = inr (λ e. cc)
one_differs true false false ne = inl (λ e. cc)
one_differs false true true ne = inl (λ e. cc)
one_differs false true false ne = inr (λ e. cc)

-- a node differs from one of later variables, where its sons differ
differs_from_above : (nodes : List Node) (store : IsStore nodes) (i j c high low : ℕ) → i < length nodes → j < length nodes →
    slice_get nodes i ≡ Some (Choice c high low) → IsAbove nodes c j → DifferSomewhere nodes high low → DifferSomewhere nodes i j
differs_from_above nodes store i j c high low inside inside' at above sons =
    let t : ℕ → Bool = sons.test in
    elim (one_differs (value nodes t high) (value nodes t low) (value nodes t j) sons.differ) [
      | inl ne ↦ record {
        test = updated t c true;
        differ =
            λ e. ne (sym (value_high nodes store i c high low inside at t) ∙ e ∙ value-updated nodes store t c true (suc j) j (omega arith) inside' above);
      }
      | inr ne ↦ record {
        test = updated t c false;
        differ =
            λ e. ne (sym (value_low nodes store i c high low inside at t) ∙ e ∙ value-updated nodes store t c false (suc j) j (omega arith) inside' above);
      }
    ]

-- two nodes of one variable differ where their sons do
same_variable_differs : (nodes : List Node) (store : IsStore nodes) (n i j c high low high' low' : ℕ) →
    ((a b : ℕ) → a < n → b < n → a < length nodes → b < length nodes → a ≢ b → DifferSomewhere nodes a b) → i < suc n → j < suc n → i < length nodes →
    j < length nodes → i ≢ j → slice_get nodes i ≡ Some (Choice c high low) → slice_get nodes j ≡ Some (Choice c high' low') → DifferSomewhere nodes i j
same_variable_differs nodes store n i j c high low high' low' smaller below below' inside inside' ne at at' =
    let r = store.reduced i c high low at in
    let r' = store.reduced j c high' low' at' in
    let hb = r.high_before in
    let lb = r.low_before in
    let hb' = r'.high_before in
    let lb' = r'.low_before in
    elim (cases_eq high high') [
      | inl eh ↦ elim (cases_eq low low') [
        | inl el ↦ absurd (ne (store.distinct.one_place i j (Choice c high low) at (rw (sym eh, sym el) at at')))
        | inr nl ↦
            let d = smaller low low' (omega arith) (omega arith) (omega arith) (omega arith) nl in
            record {
              test = updated d.test c false;
              differ =
                  λ e. d.differ (sym (value_low nodes store i c high low inside at d.test) ∙ e ∙ value_low nodes store j c high' low' inside' at' d.test);
            }
      ]
      | inr nh ↦
          let d = smaller high high' (omega arith) (omega arith) (omega arith) (omega arith) nh in
          record {
            test = updated d.test c true;
            differ =
                λ e. d.differ (sym (value_high nodes store i c high low inside at d.test) ∙ e ∙ value_high nodes store j c high' low' inside' at' d.test);
          }
    ]

sons_of : (nodes : List Node) (store : IsStore nodes) (n i c high low : ℕ) →
    ((a b : ℕ) → a < n → b < n → a < length nodes → b < length nodes → a ≢ b → DifferSomewhere nodes a b) → i < suc n → i < length nodes →
    slice_get nodes i ≡ Some (Choice c high low) → DifferSomewhere nodes high low
sons_of nodes store n i c high low smaller below inside at =
    let r = store.reduced i c high low at in
    let hb = r.high_before in
    let lb = r.low_before in
    smaller high low (omega arith) (omega arith) (omega arith) (omega arith) r.sons_differ

differ_step : (nodes : List Node) (store : IsStore nodes) (n i j : ℕ) →
    ((a b : ℕ) → a < n → b < n → a < length nodes → b < length nodes → a ≢ b → DifferSomewhere nodes a b) → i < suc n → j < suc n → i < length nodes →
    j < length nodes → i ≢ j → IsNodeAt nodes i → IsNodeAt nodes j → DifferSomewhere nodes i j
differ_step nodes store n i j smaller below below' inside inside' ne (is_constant v at) (is_constant w at') = record {
  test = λ _. false;
  differ = λ e.
      let e1 = value-Constant nodes (λ _. false) i v at in
      let e2 = value-Constant nodes (λ _. false) j w at' in
      let e3 : w ≡ v = cc in
      ne (store.distinct.one_place i j (Constant v) at (rw e3 at at'));
}
differ_step nodes store n i j smaller below below' inside inside' ne (is_constant v at) (is_choice d high low at') =
    swap_differ nodes j i (differs_from_above nodes store j i d high low inside' inside at' (constant_above nodes d i v at)
    (sons_of nodes store n j d high low smaller below' inside' at'))
differ_step nodes store n i j smaller below below' inside inside' ne (is_choice c high low at) (is_constant w at') =
    differs_from_above nodes store i j c high low inside inside' at (constant_above nodes c j w at')
    (sons_of nodes store n i c high low smaller below inside at)
differ_step nodes store n i j smaller below below' inside inside' ne (is_choice c high low at) (is_choice d high' low' at') =
    elim (cases_eq c d) [
      | inl e ↦ same_variable_differs nodes store n i j c high low high' low' smaller below below' inside inside' ne at (rw (sym e) at at')
      | inr nc ↦ elim (cases_lt c d) [
        | inl lt ↦ differs_from_above nodes store i j c high low inside inside' at (choice_above nodes c j d high' low' at' lt)
            (sons_of nodes store n i c high low smaller below inside at)
        | inr le ↦ swap_differ nodes j i (differs_from_above nodes store j i d high' low' inside' inside at'
            (choice_above nodes d i c high low at (omega arith)) (sons_of nodes store n j d high' low' smaller below' inside' at'))
      ]
    ]

pub differ_below : (nodes : List Node) (store : IsStore nodes) (n i j : ℕ) → i < n → j < n → i < length nodes → j < length nodes → i ≢ j →
    DifferSomewhere nodes i j
differ_below nodes store zero i j below below' inside inside' ne = absurd (omega arith)
differ_below nodes store (suc n) i j below below' inside inside' ne =
    differ_step nodes store n i j (λ a b. differ_below nodes store n a b) below below' inside inside' ne (node_at nodes i inside) (node_at nodes j inside')

pub differ_on_set : (shown : Shown) → IsShown shown → (i j : ℕ) → i < length shown.nodes → j < length shown.nodes → i ≢ j → DifferOnSet shown i j
unfolding value_of
differ_on_set shown is i j inside inside' ne =
    let d = differ_below shown.nodes is.store (length shown.nodes) i j inside inside' inside inside' ne in
    let set : List ℕ = set_of shown.universe d.test in
    let passes : (c : ℕ) → c ≤ length shown.universe → test_of shown.universe set c ≡ d.test c = λ c le. test-set_of shown.universe d.test is.ascending c le in
    record {
      set = set;
      ascending = ascending-set_of shown.universe d.test is.ascending;
      differ = λ e. d.differ (sym (value_agrees shown.nodes (length shown.universe) (test_of shown.universe set) d.test (length shown.nodes) i is.store
          is.within passes inside inside) ∙ e ∙ value_agrees shown.nodes (length shown.universe) (test_of shown.universe set) d.test (length shown.nodes) j
          is.store is.within passes inside' inside');
    }

-- nodes of equal values on every ascending list are one node
pub same_place_on_sets : (shown : Shown) → IsShown shown → (i j : ℕ) → i < length shown.nodes → j < length shown.nodes →
    ((set : List ℕ) → IsAscending set → value_of shown set i ≡ value_of shown set j) → i ≡ j
same_place_on_sets shown is i j inside inside' agree = elim (cases_eq i j) [
  | inl e ↦ e
  | inr ne ↦ let d = differ_on_set shown is i j inside inside' ne in absurd (d.differ (agree d.set d.ascending))
]
