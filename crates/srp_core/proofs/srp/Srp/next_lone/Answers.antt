use Rattle.std.proofs.Common.{arith}
use Rattle.srp_core.specs.Problem.{is_lone_number}
use Rattle.srp_core.proofs.LoneOrder.{next_start, next_down}
use Rattle.srp_core.proofs.srp.Srp.next_lone.Goals as goal

pub loop-i-init : goal.loop-i-init
loop-i-init c = (omega arith, next_start (is_lone_number c.args.self.now) c.args.bound c.args.path.now)

pub loop-i-preserved : goal.loop-i-preserved
loop-i-preserved c = (
  omega arith,
  next_down (is_lone_number c.args.self.now) c.args.bound c.args.path.now c.loop-i.i c.loop-i.best _ (omega arith)
      (omega arith) c.loop-i.invariant.1 c.nearer_lone-best.ensures,
)
