use Rattle.std.proofs.Common.{refl, ◌∙◌, nat_eq}
use Rattle.cfg_ast.specs.declared.bgp.Neighbor.{Neighbor}
use Rattle.cfg_check.specs.Items.{neighbor_line}
use Rattle.cfg_check.proofs.Turns.{filter_step}
use Rattle.cfg_check.proofs.processes.internal_peer_in.Goals as goal

pub loop-neighbor-preserved : goal.loop-neighbor-preserved
loop-neighbor-preserved c = c.with_line_if-least.ensures ∙ filter_step neighbor_line (λ (neighbor : Neighbor). nat_eq neighbor.remote c.args.process.now.number)
    c.as_slice-neighbor-items.result.now c.loop-neighbor.neighbor-index c.neighbor-item.result c.loop-neighbor.least _ c.loop-neighbor-test.true
    c.neighbor-item.is c.loop-neighbor.invariant refl
