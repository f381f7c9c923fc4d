use Rattle.std.proofs.Common.{arith}
use Rattle.fat_gen.specs.declared.switch.Switch.TheVariants.{Edge}
use Rattle.fat_gen.proofs.Steps.{one_more}
use Rattle.fat_gen.proofs.switches.push_edges.Goals as goal

pub loop-number-preserved : goal.loop-number-preserved
loop-number-preserved c =
    let n = c.loop-number.number in
    one_more (λ number. Edge c.args.pod number) c.args.switches.now.items c.loop-number.switches.items c.push.new.self.items 0 n n (omega arith)
    c.in_ok-push.ensures.items c.loop-number.invariant
