use Rattle.std.proofs.Common.{◌≡◌, ◌+◌, ◌-◌, ◌∷◌, suc, cond, Bool, List, ℕ, Some, drop, drop-cons, sym, ap, ◌∙◌, arith, string_bytes}
use Rattle.std.specs.Prelude.{bytes_eq}
use Rattle.std.specs.HashMap.{get_by_text}
use Rattle.std.specs.List.{position}
use Rattle.std.proofs.lemmas.Map.Text.{hash_map_updates_text}
use Rattle.numbered_names.proofs.Positions.{moved, moved_zero, position_first, bytes_eq-sym}
use Rattle.numbered_names.proofs.places.NamePlaces.of.Goals as goal

pub loop-place-preserved : goal.loop-place-preserved
loop-place-preserved g c =
    let items = c.args.items.now in
    let place = c.loop-place.place - 1 in
    let item = c.index-items-place.result in
    let name = g.T.HasName.name item in
    let key = string_bytes c.in_ok-name.name in
    let said : key ≡ name = c.in_ok-name.ensures.ok ∙ c.name.ensures in
    let next : place + 1 ≡ c.loop-place.place = omega arith in
    let more : suc place ≡ c.loop-place.place = omega arith in
    let first : drop place items ≡ item ∷ drop c.loop-place.place items =
    drop-cons items place item (omega (arith, c.loop-place.invariant.inside)) ∙ ap (λ x. x ∷ drop (suc place) items) (sym c.index-items-place.is)
    ∙ ap (λ (k : ℕ). item ∷ drop k items) more in
    let updated = hash_map_updates_text key c.loop-place.places c.insert.new.self (Some place) c.in_ok-insert.ensures.updates in
    record {
      inside = omega (arith, c.loop-place.invariant.inside);
      each = λ wanted.
          let test : g.row.T.Denot → Bool = λ x. bytes_eq wanted (g.T.HasName.name x) in
          updated wanted
          ∙ ap (λ (bs : List ℕ). cond (bytes_eq bs wanted) (Some place) (get_by_text c.loop-place.places wanted)) said
          ∙ ap (cond (bytes_eq name wanted) (Some place)) (c.loop-place.invariant.each wanted)
          ∙ ap (λ (b : Bool). cond b (Some place) (moved c.loop-place.place (position test (drop c.loop-place.place items)))) (bytes_eq-sym name wanted)
          ∙ ap (λ (k : ℕ). cond (bytes_eq wanted name) (Some place) (moved k (position test (drop c.loop-place.place items)))) (sym next)
          ∙ sym (position_first test item (drop c.loop-place.place items) place)
          ∙ ap (λ xs. moved place (position test xs)) (sym first);
    }

pub returns : goal.returns
returns g c =
    let none : c.loop-place.place ≡ 0 = omega (arith, c.loop-place-test.false) in
    record {
      each = λ name.
          let test : g.row.T.Denot → Bool = λ x. bytes_eq name (g.T.HasName.name x) in
          c.loop-place.invariant.each name
          ∙ ap (λ (k : ℕ). moved k (position test (drop k c.args.items.now))) none
          ∙ moved_zero (position test c.args.items.now);
    }
