use Rattle.std.proofs.Common.{◌*◌}
use Rattle.fat_gen.specs.Switches.{pod_switches, switches}
use Rattle.fat_gen.proofs.Steps.{one_less}
use Rattle.fat_gen.proofs.switches.switches.Goals as goal

pub loop-pod-preserved : goal.loop-pod-preserved
loop-pod-preserved c =
    let half = c.args.half in
    one_less (pod_switches half) c.loop-pod.all.items c.push_pod.new.switches.items (switches half) c.loop-pod.pod (2 * half) c.loop-pod-test.true
    c.in_ok-push_pod.ensures c.loop-pod.invariant
