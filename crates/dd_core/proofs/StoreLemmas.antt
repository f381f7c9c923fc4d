-- A store after one more choice.
use Rattle.std.proofs.Common.{◌≡◌, ◌≢◌, ℕ, zero, suc, ◌<◌, ◌≤◌, ◌+◌, Bool, true, false, List, [], ◌∷◌, ◌++◌, length, get_or, slice_get, Some, refl, sym, ◌∙◌, ap, arith, inl, inr}
use Rattle.std.specs.Prelude.{◌⊎◌}
use Rattle.std.proofs.lemmas.Bool.{cases_lt}
use Rattle.std.proofs.lemmas.List.{length_push, get_or_push, append-nil, length-append, append_assoc}
use Rattle.std.proofs.lemmas.Option.{slice_get-get_or}
use Rattle.dd_core.specs.declared.table.Node.{Node}
use Rattle.dd_core.specs.declared.table.Node.TheVariants.{Constant, Choice}
use Rattle.dd_core.specs.Value.{value}
use Rattle.distinct_values.specs.Distinct.{AreDistinct}
use Rattle.dd_core.specs.Store.{IsStore, IsAbove, IsReduced, Extends, IsChoiceBetween}
use Rattle.dd_core.proofs.ValueLemmas.{value-Constant, value-Choice, value_kept}
use Rattle.distinct_values.proofs.Interned.{read_get}
use Rattle.dd_core.proofs.NodeLemmas.{choice_above}

pub extends_refl : (nodes : List Node) → Extends nodes nodes
extends_refl nodes = record { added = []; nodes = sym (append-nil nodes) }

pub extends_trans : (a b c : List Node) → Extends a b → Extends b c → Extends a c
extends_trans a b c g h = record { added = g.added ++ h.added; nodes = h.nodes ∙ ap (λ (l : List Node). l ++ h.added) g.nodes ∙ append_assoc a g.added h.added }

slice_get_append_left : (xs ys : List Node) (i : ℕ) → i < length xs → slice_get (xs ++ ys) i ≡ slice_get xs i
slice_get_append_left [] ys i inside = absurd (omega arith)
slice_get_append_left (x ∷ xs) ys zero inside = refl
slice_get_append_left (x ∷ xs) ys (suc i) inside = slice_get_append_left xs ys i (omega arith)

-- an old node stands where it was
pub get_kept : (old new : List Node) (i : ℕ) → Extends old new → i < length old → slice_get new i ≡ slice_get old i
get_kept old new i extends inside = rw extends.nodes (slice_get_append_left old extends.added i inside)

pub length_kept : (old new : List Node) → Extends old new → length old ≤ length new
length_kept old new extends = rw extends.nodes (omega (arith, length-append old extends.added))

pub above_kept : (old new : List Node) (c i : ℕ) → Extends old new → i < length old → IsAbove old c i → IsAbove new c i
above_kept old new c i extends inside above = record { later = λ other high low at. above.later other high low (rw (get_kept old new i extends inside) at at) }

pub interned_extends : (old new : List Node) (node : Node) → (new ≡ old) ⊎ (new ≡ old ++ node ∷ []) → Extends old new
interned_extends old new node (inl same) = record { added = []; nodes = same ∙ sym (append-nil old) }
interned_extends old new node (inr more) = record { added = node ∷ []; nodes = more }

newest : (old new : List Node) (node : Node) (place : ℕ) → new ≡ old ++ node ∷ [] → place ≡ length old → slice_get new place ≡ Some node
newest old new node place more e =
    let inside : place < length new = (let size = ap length more ∙ length_push old node in omega arith) in
    slice_get-get_or new place node inside ∙ ap (λ (x : Node). Some x) (ap (λ ns. get_or ns place node) more ∙ get_or_push old node node place (sym e))

reduced_kept : (old new : List Node) (place c high low : ℕ) → Extends old new → place < length old → IsReduced old place c high low →
    IsReduced new place c high low
reduced_kept old new place c high low extends inside r =
    let hb = r.high_before in
    let lb = r.low_before in
    record {
      high_before = hb;
      low_before = lb;
      sons_differ = r.sons_differ;
      high_above = above_kept old new c high extends (omega arith) r.high_above;
      low_above = above_kept old new c low extends (omega arith) r.low_above;
    }

new_reduced : (old new : List Node) (c high low : ℕ) → Extends old new → high < length old → low < length old → high ≢ low → IsAbove old c high →
    IsAbove old c low → (place c' high' low' : ℕ) → place ≡ length old → Some (Choice c' high' low') ≡ Some (Choice c high low) →
    IsReduced new place c' high' low'
new_reduced old new c high low extends hi li differ ha la place c' high' low' e same =
    let ec : c ≡ c' = cc in
    let eh : high ≡ high' = cc in
    let el : low ≡ low' = cc in
    rw (← ec, ← eh, ← el) (record {
      high_before = omega arith;
      low_before = omega arith;
      sons_differ = differ;
      high_above = above_kept old new c high extends hi ha;
      low_above = above_kept old new c low extends li la;
    })

pub interned_store : (old new : List Node) (c high low : ℕ) → IsStore old → high < length old → low < length old → high ≢ low → IsAbove old c high →
    IsAbove old c low → AreDistinct new → (new ≡ old) ⊎ (new ≡ old ++ Choice c high low ∷ []) → IsStore new
interned_store old new c high low store hi li differ ha la distinct (inl same) = rw same store
interned_store old new c high low store hi li differ ha la distinct (inr more) =
    let extends : Extends old new = record { added = Choice c high low ∷ []; nodes = more } in
    let size : length new ≡ length old + 1 = ap length more ∙ length_push old (Choice c high low) in
    let zero_inside : 0 < length old = omega arith in
    let one_inside : 1 < length old = (read_get old 1 (Constant true) store.always).0 in
    record {
      never = get_kept old new 0 extends zero_inside ∙ store.never;
      always = get_kept old new 1 extends one_inside ∙ store.always;
      distinct = distinct;
      reduced = λ place variable high' low' at.
          let inside = (read_get new place (Choice variable high' low') at).0 in
          elim (cases_lt place (length old)) [
            | inl before ↦ reduced_kept old new place variable high' low' extends before
                (store.reduced place variable high' low' (sym (get_kept old new place extends before) ∙ at))
            | inr past ↦ new_reduced old new c high low extends hi li differ ha la place variable high' low' (omega arith)
                (sym at ∙ newest old new (Choice c high low) place more (omega arith))
          ];
    }

pub interned_choice : (old new : List Node) (c high low place : ℕ) → IsStore new → Extends old new → high < length old → low < length old →
    slice_get new place ≡ Some (Choice c high low) → IsChoiceBetween old new c high low place
interned_choice old new c high low place store extends hi li at =
    let r = store.reduced place c high low at in
    let eh = value_kept old new in
    record {
      inside = (read_get new place (Choice c high low) at).0;
      value = λ has. rw (sym (value_kept old new has high extends hi), sym (value_kept old new has low extends li))
          (value-Choice new has place c high low at r.high_before r.low_before);
      above = λ d lt. choice_above new d place c high low at lt;
    }

pub value_never : (nodes : List Node) (has : ℕ → Bool) → IsStore nodes → value nodes has 0 ≡ false
value_never nodes has store = value-Constant nodes has 0 false store.never

pub value_always : (nodes : List Node) (has : ℕ → Bool) → IsStore nodes → value nodes has 1 ≡ true
value_always nodes has store = value-Constant nodes has 1 true store.always

-- both constants are there
pub two_nodes : (nodes : List Node) → IsStore nodes → 1 < length nodes
two_nodes nodes store = (read_get nodes 1 (Constant true) store.always).0
