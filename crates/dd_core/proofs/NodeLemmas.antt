-- How the values of a node and of its sons relate to its variable.
use Rattle.std.proofs.Common.{◌≡◌, ℕ, zero, suc, ◌<◌, Bool, true, false, List, length, get_or, slice_get, Some, sym, ◌∙◌, arith}
use Rattle.std.specs.Prelude.{if◌then◌else◌, ◌==◌}
use Rattle.std.proofs.lemmas.Bool.Decides.{nat_tests}
use Rattle.dd_core.specs.declared.table.Node.{Node}
use Rattle.dd_core.specs.declared.table.Node.TheVariants.{Constant, Choice}
use Rattle.dd_core.specs.Value.{value}
use Rattle.dd_core.specs.Store.{IsStore, IsAbove}
use Rattle.dd_core.proofs.ValueLemmas.{value-Constant, value-Choice}
use Rattle.std.proofs.lemmas.Option.{slice_get-get_or}

-- the set with this variable put in or taken out
abbrev pub updated : (ℕ → Bool) → ℕ → Bool → ℕ → Bool
updated has variable b other = if other == variable then b else has other

pub updated_same : (has : ℕ → Bool) (variable : ℕ) (b : Bool) → updated has variable b variable ≡ b
updated_same has variable b = grind (arith, nat_tests)

updated_other : (has : ℕ → Bool) (variable : ℕ) (b : Bool) (other : ℕ) → variable < other → updated has variable b other ≡ has other
updated_other has variable b other lt = grind (arith, nat_tests)

-- what stands at a place of the store
pub data IsNodeAt (nodes : List Node) (i : ℕ) : Type 0 where
  is_constant : (b : Bool) → slice_get nodes i ≡ Some (Constant b) → IsNodeAt nodes i
  is_choice : (variable high low : ℕ) → slice_get nodes i ≡ Some (Choice variable high low) → IsNodeAt nodes i

pub node_at : (nodes : List Node) (i : ℕ) → i < length nodes → IsNodeAt nodes i
node_at nodes i inside = by (get_or nodes i (Constant false)) (slice_get-get_or nodes i (Constant false) inside)
  where
    by : (node : Node) → slice_get nodes i ≡ Some node → IsNodeAt nodes i
    by (Constant b) at = is_constant b at
    by (Choice variable high low) at = is_choice variable high low at

pub above_earlier : (nodes : List Node) (c d i : ℕ) → c < d → IsAbove nodes d i → IsAbove nodes c i
above_earlier nodes c d i lt above = record { later = λ other high low at. let lt' = above.later other high low at in omega arith }

-- the step of the next lemma: what it says of the sons, it says of the node
updated_step : (nodes : List Node) (has : ℕ → Bool) (c : ℕ) (b : Bool) (i : ℕ) → IsStore nodes → i < length nodes →
    ((k : ℕ) → k < i → k < length nodes → IsAbove nodes c k → value nodes (updated has c b) k ≡ value nodes has k) → IsAbove nodes c i → IsNodeAt nodes i →
    value nodes (updated has c b) i ≡ value nodes has i
updated_step nodes has c b i store inside sons above (is_constant v at) = value-Constant nodes (updated has c b) i v at ∙ sym (value-Constant nodes has i v at)
updated_step nodes has c b i store inside sons above (is_choice d high low at) =
    let r = store.reduced i d high low at in
    let lt = above.later d high low at in
    let hb = r.high_before in
    let lb = r.low_before in
    let e1 = value-Choice nodes (updated has c b) i d high low at hb lb in
    let e2 = value-Choice nodes has i d high low at hb lb in
    let eh = sons high hb (omega arith) (above_earlier nodes c d high lt r.high_above) in
    let el = sons low lb (omega arith) (above_earlier nodes c d low lt r.low_above) in
    let ed = updated_other has c b d lt in
    cc

-- a node's value does not depend on a variable before its own
pub value-updated : (nodes : List Node) (store : IsStore nodes) (has : ℕ → Bool) (c : ℕ) (b : Bool) (n i : ℕ) → i < n → i < length nodes → IsAbove nodes c i →
    value nodes (updated has c b) i ≡ value nodes has i
value-updated nodes store has c b zero i below inside above = absurd (omega arith)
value-updated nodes store has c b (suc n) i below inside above =
    updated_step nodes has c b i store inside (λ k before inside' above'. value-updated nodes store has c b n k (omega arith) inside' above') above
    (node_at nodes i inside)

module _ (nodes : List Node) (store : IsStore nodes) (i c high low : ℕ) (inside : i < length nodes) (at : slice_get nodes i ≡ Some (Choice c high low)) where
  -- the value of the high son is that of the node with its variable put in
  pub value_high : (has : ℕ → Bool) → value nodes (updated has c true) i ≡ value nodes has high
  value_high has =
      let r = store.reduced i c high low at in
      let hb = r.high_before in
      let e1 = value-Choice nodes (updated has c true) i c high low at hb r.low_before in
      let e2 = updated_same has c true in
      let e3 = value-updated nodes store has c true i high hb (omega arith) r.high_above in
      rw e2 at e1 ∙ e3

  pub value_low : (has : ℕ → Bool) → value nodes (updated has c false) i ≡ value nodes has low
  value_low has =
      let r = store.reduced i c high low at in
      let lb = r.low_before in
      let e1 = value-Choice nodes (updated has c false) i c high low at r.high_before lb in
      let e2 = updated_same has c false in
      let e3 = value-updated nodes store has c false i low lb (omega arith) r.low_above in
      rw e2 at e1 ∙ e3

pub constant_above : (nodes : List Node) (c j : ℕ) (b : Bool) → slice_get nodes j ≡ Some (Constant b) → IsAbove nodes c j
constant_above nodes c j b at = record { later = λ other high low at'. absurd cc }

pub choice_above : (nodes : List Node) (c j d high low : ℕ) → slice_get nodes j ≡ Some (Choice d high low) → c < d → IsAbove nodes c j
choice_above nodes c j d high low at lt = record { later = λ other high' low' at'. let e : d ≡ other = cc in omega arith }
