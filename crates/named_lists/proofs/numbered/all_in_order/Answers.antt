use Rattle.std.proofs.Common.{◌≡◌, ◌+◌, ◌<◌, ◌≤◌, map, length, get_or, sym, ap, ◌∙◌, arith}
use Rattle.std.proofs.Math.ListN.{set}
use Rattle.named_lists.specs.declared.named.NamedList.{NamedList}
use Rattle.named_lists.specs.NumberedLists.{in_number_order, in_order}
use Rattle.named_lists.proofs.InPlace.{changed_from, none_changed, one_changed, all_changed, written_whole}
use Rattle.named_lists.proofs.numbered.all_in_order.Goals as goal

pub loop-list-init : goal.loop-list-init
loop-list-init g c = none_changed (in_order g.E.Numbered.number) c.deref_mut-list-items.result.now
    ∙ ap (map (in_order g.E.Numbered.number)) (c.deref_mut-list-items.ensures.value ∙ c.into_vec-lists.ensures)

pub loop-list-preserved : goal.loop-list-preserved
loop-list-preserved g c =
    let xs = c.loop-list.list-items in
    let i = c.loop-list.list-index in
    let item = c.list-item.result in
    let there = get_or xs i item in
    let inside : i < length xs = omega (arith, c.loop-list.auto.list-items, c.loop-list-test.true) in
    let sorted : c.in_ok-list.field-0 ≡ in_number_order g.E.Numbered.number there.entries = c.in_ok-list.ensures
    ∙ ap (in_number_order g.E.Numbered.number) c.replace-entries.ensures.value in
    ap (λ es. changed_from (in_order g.E.Numbered.number) (i + 1)
    (set xs i (let changed : NamedList g.row.E.Denot = record { name = there.name; entries = es } in changed))) sorted
    ∙ one_changed (in_order g.E.Numbered.number) xs i item inside ∙ c.loop-list.invariant

pub returns : goal.returns
returns g c =
    let xs = c.loop-list.list-items in
    let whole : length xs ≤ c.loop-list.list-index = omega (arith, c.loop-list.auto.list-items, c.loop-list-test.false) in
    c.from_vec.ensures ∙ written_whole c.into_vec-lists.result.len xs _
    (c.into_vec-lists.result.ok.0 ∙ sym (ap length c.deref_mut-list-items.ensures.value) ∙ sym c.loop-list.auto.list-items)
    ∙ sym (all_changed (in_order g.E.Numbered.number) c.loop-list.list-index xs whole) ∙ c.loop-list.invariant
