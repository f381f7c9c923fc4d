use Rattle.std.proofs.Common.{◌++◌}
use Rattle.fat_gen.specs.Cables.{switch_cables, pod_cables}
use Rattle.fat_gen.proofs.Steps.{one_less}
use Rattle.fat_gen.proofs.cables.push_pod_cables.Goals as goal

pub loop-number-preserved : goal.loop-number-preserved
loop-number-preserved c =
    let half = c.args.half in
    one_less (switch_cables half c.args.pod) c.loop-number.cables.items c.push_switch_cables.new.cables.items
    (c.args.cables.now.items ++ pod_cables half c.args.pod) c.loop-number.number half c.loop-number-test.true c.in_ok-push_switch_cables.ensures
    c.loop-number.invariant
