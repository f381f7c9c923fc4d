use Rattle.std.proofs.Common.{◌≡◌, ◌<◌, ◌++◌, Vec, length, flat_map, refl, ◌∙◌, ap, arith, string_bytes}
use Rattle.std.specs.List.{enumerate_from}
use Rattle.std.specs.declared.alloc.Global.{Global}
use Rattle.fat_gen.specs.declared.cable.Port.{Port}
use Rattle.fat_gen.specs.Cables.{ports_at}
use Rattle.fat_gen.specs.SwitchLines.{switch_lines}
use Rattle.fat_gen.proofs.Steps.{one_item, all_items}
use Rattle.fat_gen.proofs.tree.put_switches.Goals as goal

pub loop-i-preserved : goal.loop-i-preserved
loop-i-preserved c = λ cables are.
    let place = c.loop-i.i in
    let inside : place < length c.args.table.now = omega (arith, c.requires.total) in
    let ports : c.deref.result.now ≡ ports_at place cables = c.deref.ensures.value ∙ ap (λ (v : Vec Port Global). v.items) c.index-table-i.is
    ∙ are.each place c.index-table-i.result inside in
    let put = rw ports at c.in_ok-put_switch.ensures in
    one_item (switch_lines cables) place c.args.switches.now _ _ (string_bytes c.loop-i.text) (string_bytes c.put_switch.new.text)
    (string_bytes c.args.text.now ++ flat_map (switch_lines cables) (enumerate_from 0 c.args.switches.now)) c.loop-i-test.true refl put
    (c.loop-i.invariant cables are)

pub returns : goal.returns
returns c = λ cables are.
    all_items (switch_lines cables) c.loop-i.i c.args.switches.now (string_bytes c.loop-i.text)
    (string_bytes c.args.text.now ++ flat_map (switch_lines cables) (enumerate_from 0 c.args.switches.now)) c.loop-i-test.false (c.loop-i.invariant cables are)
