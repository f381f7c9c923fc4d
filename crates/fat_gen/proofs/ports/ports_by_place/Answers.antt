use Rattle.std.proofs.Common.{refl, ◌∙◌}
use Rattle.fat_gen.proofs.PortSteps.{none_before, one_cable, all_cables}
use Rattle.fat_gen.proofs.ports.ports_by_place.Goals as goal

pub loop-i-init : goal.loop-i-init
loop-i-init c = record {
  total = c.in_ok-table.ensures.total;
  before = none_before c.args.cables.now c.in_ok-table.table.items c.in_ok-table.ensures.empty;
}

pub loop-i-preserved : goal.loop-i-preserved
loop-i-preserved c = record {
  total = c.in_ok-push_ports.ensures.total ∙ c.loop-i.invariant.total;
  before = one_cable c.loop-i.i c.args.cables.now _ _ c.loop-i.table.items c.push_ports.new.table.items c.loop-i-test.true refl c.in_ok-push_ports.ensures
      c.loop-i.invariant.before;
}

pub returns-clause-ports : goal.returns-clause-ports
returns-clause-ports c = all_cables c.loop-i.i c.args.cables.now c.loop-i.table.items c.loop-i-test.false c.loop-i.invariant.before
