use Rattle.std.proofs.Common.{◌*◌}
use Rattle.fat_gen.specs.Cables.{pod_cables, cables}
use Rattle.fat_gen.proofs.Steps.{one_less}
use Rattle.fat_gen.proofs.cables.cables.Goals as goal

pub loop-pod-preserved : goal.loop-pod-preserved
loop-pod-preserved c =
    let half = c.args.half in
    one_less (pod_cables half) c.loop-pod.all.items c.push_pod_cables.new.cables.items (cables half) c.loop-pod.pod (2 * half) c.loop-pod-test.true
    c.in_ok-push_pod_cables.ensures c.loop-pod.invariant
