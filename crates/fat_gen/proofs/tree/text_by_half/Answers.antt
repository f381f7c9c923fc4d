use Rattle.std.proofs.Common.{◌≡◌, ℕ, List, Vec, length, arith, sym, ◌∙◌, ap, subst}
use Rattle.std.specs.declared.alloc.Global.{Global}
use Rattle.fat_gen.specs.declared.cable.Cable.{Cable}
use Rattle.fat_gen.specs.declared.cable.Port.{Port}
use Rattle.fat_gen.specs.Cables.{cables}
use Rattle.fat_gen.specs.PortTables.{ArePortsByPlace}
use Rattle.fat_gen.specs.Switches.{switches}
use Rattle.fat_gen.proofs.Counts.{few_switches, few_cables}
use Rattle.fat_gen.proofs.tree.text_by_half.Goals as goal

pub ports_by_place-requires : goal.ports_by_place-requires
ports_by_place-requires c = omega (arith, few_cables c.args.half c.requires, ap length c.in_ok-cables.ensures)

pub put_switches-requires-clause-switches : goal.put_switches-requires-clause-switches
put_switches-requires-clause-switches c = omega (arith, few_switches c.args.half c.requires, ap length c.in_ok-switches.ensures)

pub put_switches-requires-clause-total : goal.put_switches-requires-clause-total
put_switches-requires-clause-total c = omega (arith, c.in_ok-table.ensures.total)

pub returns : goal.returns
returns c =
    let half = c.args.half in
    let by_place = subst (λ (cs : List Cable). ArePortsByPlace cs c.in_ok-table.table.items) (c.deref.ensures.value ∙ c.in_ok-cables.ensures)
    c.in_ok-table.ensures.ports in
    let ports = subst (λ (t : List (Vec Port Global)). ArePortsByPlace (cables half) t) (sym c.deref-3.ensures.value) by_place in
    let text = c.in_ok-put_switches.ensures (cables half) ports in
    let all : c.deref-2.result.now ≡ switches half = c.deref-2.ensures.value ∙ c.in_ok-switches.ensures in
    let written = rw (c.new-text.ensures.bytes, all) at text in
    ap (λ (v : Vec ℕ Global). v.items) c.into_bytes.ensures.value ∙ written
