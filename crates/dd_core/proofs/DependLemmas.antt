-- The value of a node depends on the variables of the nodes that it reaches, and on no other.
use Rattle.std.proofs.Common.{◌≡◌, ◌≢◌, ℕ, zero, suc, ◌<◌, ◌≤◌, ◌+◌, Bool, true, false, nat_lt, List, length, slice_get, Some, refl, sym, ◌∙◌, arith}
use Rattle.std.specs.Prelude.{if◌then◌else◌}
use Rattle.std.proofs.lemmas.Bool.Decides.{nat_tests}
use Rattle.dd_core.specs.declared.table.Node.{Node}
use Rattle.dd_core.specs.declared.table.Node.TheVariants.{Choice}
use Rattle.dd_core.specs.Value.{value}
use Rattle.dd_core.specs.Store.{IsStore, IsAbove, IsNotBefore, IsWithin}
use Rattle.dd_core.specs.Reach.{IsReached}
use Rattle.dd_core.specs.Reach.IsReached.{itself, by_high, by_low}
use Rattle.dd_core.specs.Marks.{IsVariableReached}
use Rattle.distinct_values.proofs.Interned.{read_get}
use Rattle.dd_core.proofs.ValueLemmas.{value-Constant, value-Choice}
use Rattle.dd_core.proofs.NodeLemmas.{IsNodeAt, is_constant, is_choice, node_at, updated, updated_same, above_earlier, value_high, value_low}
use Rattle.dd_core.proofs.DifferLemmas.{DifferSomewhere, differ_below}

pub updated_apart : (has : ℕ → Bool) (variable : ℕ) (b : Bool) (other : ℕ) → other ≢ variable → updated has variable b other ≡ has other
updated_apart has variable b other ne = grind (arith, nat_tests)

-- a node of later variables has one value under tests that agree on later variables
past_step : (nodes : List Node) (store : IsStore nodes) (c : ℕ) (f g : ℕ → Bool) → ((w : ℕ) → c < w → f w ≡ g w) → (i : ℕ) → i < length nodes →
    ((k : ℕ) → k < i → k < length nodes → IsAbove nodes c k → value nodes f k ≡ value nodes g k) → IsAbove nodes c i → IsNodeAt nodes i →
    value nodes f i ≡ value nodes g i
past_step nodes store c f g same i inside sons above (is_constant v at) = value-Constant nodes f i v at ∙ sym (value-Constant nodes g i v at)
past_step nodes store c f g same i inside sons above (is_choice d high low at) =
    let r = store.reduced i d high low at in
    let lt = above.later d high low at in
    let hb = r.high_before in
    let lb = r.low_before in
    let e1 = value-Choice nodes f i d high low at hb lb in
    let e2 = value-Choice nodes g i d high low at hb lb in
    let eh = sons high hb (omega arith) (above_earlier nodes c d high lt r.high_above) in
    let el = sons low lb (omega arith) (above_earlier nodes c d low lt r.low_above) in
    let ed = same d lt in
    cc

pub value_past : (nodes : List Node) (store : IsStore nodes) (c : ℕ) (f g : ℕ → Bool) → ((w : ℕ) → c < w → f w ≡ g w) → (n i : ℕ) → i < n → i < length nodes →
    IsAbove nodes c i → value nodes f i ≡ value nodes g i
value_past nodes store c f g same zero i below inside above = absurd (omega arith)
value_past nodes store c f g same (suc n) i below inside above =
    past_step nodes store c f g same i inside (λ k before inside' above'. value_past nodes store c f g same n k (omega arith) inside' above') above
    (node_at nodes i inside)

-- tests that agree with the path on all variables before the bound lead from one node to the other
record Leads (nodes : List Node) (from place : ℕ) : Type 0 where
  bound : ℕ
  path : ℕ → Bool
  later : IsNotBefore nodes bound place
  leads : (test : ℕ → Bool) → ((w : ℕ) → w < bound → test w ≡ path w) → value nodes test from ≡ value nodes test place

not_before_son : (nodes : List Node) (c place : ℕ) → IsAbove nodes c place → IsNotBefore nodes (c + 1) place
not_before_son nodes c place above = record { same_or_later = λ other high low at. let lt = above.later other high low at in omega arith }

leads_on : (nodes : List Node) (store : IsStore nodes) (from place c high low : ℕ) → slice_get nodes place ≡ Some (Choice c high low) → (b : Bool) (son : ℕ) →
    IsAbove nodes c son → ((test : ℕ → Bool) → test c ≡ b → value nodes test place ≡ value nodes test son) → Leads nodes from place → Leads nodes from son
leads_on nodes store from place c high low at b son above value_is lead =
    let le = lead.later.same_or_later c high low at in
    record {
      bound = c + 1;
      path = updated lead.path c b;
      later = not_before_son nodes c son above;
      leads = λ test same.
          lead.leads test (λ w lt. same w (omega arith) ∙ updated_apart lead.path c b w (omega arith))
          ∙ value_is test (same c (omega arith) ∙ updated_same lead.path c b);
    }

leads_to : (nodes : List Node) (store : IsStore nodes) (from place : ℕ) → IsReached nodes from place → Leads nodes from place
leads_to nodes store from _ itself = record {
  bound = 0;
  path = λ _. false;
  later = record { same_or_later = λ other high low at. omega arith };
  leads = λ test same. refl;
}
leads_to nodes store from _ (by_high place c high low reached at) =
    let r = store.reduced place c high low at in
    leads_on nodes store from place c high low at true high r.high_above
    (λ test e. rw e at (value-Choice nodes test place c high low at r.high_before r.low_before)) (leads_to nodes store from place reached)
leads_to nodes store from _ (by_low place c high low reached at) =
    let r = store.reduced place c high low at in
    leads_on nodes store from place c high low at false low r.low_above
    (λ test e. rw e at (value-Choice nodes test place c high low at r.high_before r.low_before)) (leads_to nodes store from place reached)

-- a test under which the value changes with the variable
pub record DependsOnVariable (nodes : List Node) (from variable : ℕ) : Type 0 where
  pub test : ℕ → Bool
  pub differ : value nodes (updated test variable true) from ≢ value nodes (updated test variable false) from

-- first the one test, up to the bound, then the other
abbrev then_test : ℕ → (ℕ → Bool) → (ℕ → Bool) → ℕ → Bool
then_test bound f g w = if nat_lt w bound then f w else g w

then_before : (bound : ℕ) (f g : ℕ → Bool) (w : ℕ) → w < bound → then_test bound f g w ≡ f w
then_before bound f g w lt = grind (arith, nat_tests)

then_after : (bound : ℕ) (f g : ℕ → Bool) (w : ℕ) → bound ≤ w → then_test bound f g w ≡ g w
then_after bound f g w le = grind (arith, nat_tests)

depends_by : (nodes : List Node) (store : IsStore nodes) (from place c high low : ℕ) → slice_get nodes place ≡ Some (Choice c high low) →
    Leads nodes from place → DifferSomewhere nodes high low → DependsOnVariable nodes from c
depends_by nodes store from place c high low at lead d =
    let r = store.reduced place c high low at in
    let inside = (read_get nodes place (Choice c high low) at).0 in
    let hb = r.high_before in
    let lb = r.low_before in
    let le = lead.later.same_or_later c high low at in
    let test : ℕ → Bool = then_test lead.bound lead.path d.test in
    let led : (b : Bool) → value nodes (updated test c b) from ≡ value nodes (updated test c b) place =
    λ b. lead.leads (updated test c b) (λ w lt. updated_apart test c b w (omega arith) ∙ then_before lead.bound lead.path d.test w lt) in
    let past : (w : ℕ) → c < w → test w ≡ d.test w = λ w lt. then_after lead.bound lead.path d.test w (omega arith) in
    let highs : value nodes (updated test c true) from ≡ value nodes d.test high = led true ∙ value_high nodes store place c high low inside at test
    ∙ value_past nodes store c test d.test past (suc high) high (omega arith) (omega arith) r.high_above in
    let lows : value nodes (updated test c false) from ≡ value nodes d.test low = led false ∙ value_low nodes store place c high low inside at test
    ∙ value_past nodes store c test d.test past (suc low) low (omega arith) (omega arith) r.low_above in
    record { test = test; differ = λ e. d.differ (sym highs ∙ e ∙ lows) }

-- the value depends on each variable that is reached
pub reached_depends : (nodes : List Node) (store : IsStore nodes) (from variable : ℕ) → IsVariableReached nodes from variable →
    DependsOnVariable nodes from variable
reached_depends nodes store from variable there =
    let r = store.reduced there.place variable there.high there.low there.node in
    let inside = (read_get nodes there.place (Choice variable there.high there.low) there.node).0 in
    let hb = r.high_before in
    let lb = r.low_before in
    depends_by nodes store from there.place variable there.high there.low there.node (leads_to nodes store from there.place there.reached)
    (differ_below nodes store (length nodes) there.high there.low (omega arith) (omega arith) (omega arith) (omega arith) r.sons_differ)

-- and on no variable that is not
module _ (nodes : List Node) (store : IsStore nodes) (from bound variable : ℕ) (within : IsWithin nodes bound) (f g : ℕ → Bool)
    (same : (w : ℕ) → w ≤ bound → w ≢ variable → f w ≡ g w) (none : ¬ IsVariableReached nodes from variable) where
  unused_step : (i : ℕ) → i < length nodes → IsReached nodes from i →
      ((k : ℕ) → k < i → k < length nodes → IsReached nodes from k → value nodes f k ≡ value nodes g k) → IsNodeAt nodes i → value nodes f i ≡ value nodes g i
  unused_step i inside reached sons (is_constant v at) = value-Constant nodes f i v at ∙ sym (value-Constant nodes g i v at)
  unused_step i inside reached sons (is_choice d high low at) =
      let r = store.reduced i d high low at in
      let hb = r.high_before in
      let lb = r.low_before in
      let other : d ≢ variable = λ e. none (record { place = i; high = high; low = low; reached = reached; node = rw e at at }) in
      let e1 = value-Choice nodes f i d high low at hb lb in
      let e2 = value-Choice nodes g i d high low at hb lb in
      let eh = sons high hb (omega arith) (by_high i d high low reached at) in
      let el = sons low lb (omega arith) (by_low i d high low reached at) in
      let ed = same d (within.each i d high low at) other in
      cc

  unused_below : (n i : ℕ) → i < n → i < length nodes → IsReached nodes from i → value nodes f i ≡ value nodes g i
  unused_below zero i below inside reached = absurd (omega arith)
  unused_below (suc n) i below inside reached =
      unused_step i inside reached (λ k before inside' reached'. unused_below n k (omega arith) inside' reached') (node_at nodes i inside)

  pub unused_same : from < length nodes → value nodes f from ≡ value nodes g from
  unused_same inside = unused_below (suc from) from (omega arith) inside itself
