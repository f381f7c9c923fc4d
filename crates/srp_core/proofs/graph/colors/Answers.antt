use Rattle.std.proofs.Common.{◌∷◌, [], length, length-append, ap, ◌∙◌, arith}
use Rattle.srp_core.proofs.Colors.{few_more, placed_more, start_read}
use Rattle.srp_core.proofs.graph.colors.Goals as goal

pub loop-router-preserved : goal.loop-router-preserved
loop-router-preserved c = record {
  colored = (let e = ap length c.in_ok-push.ensures.items ∙ length-append c.loop-router.colors.items (c.in_ok-color.color ∷ []) in let t =
      c.loop-router.invariant.colored in omega (arith, e, t));
  few = few_more _ _ _ _ c.in_ok-color.ensures.grown c.loop-router.invariant.few;
  placed = placed_more c.args.srp.now _ _ _ _ _ _ _ c.in_ok-color.ensures.grown c.loop-router.invariant.colored c.in_ok-push.ensures.items
      c.in_ok-color.ensures.found (c.of-start.ensures ∙ start_read c.args.srp.now c.loop-router.router c.lone.result.now c.init.result.now
      c.index-init-router.result (let rules = c.count-router-end.ensures.rules in let t = rules.tables.init in let e = ap length c.init.ensures in
      omega (arith, t, e)) c.lone.ensures c.init.ensures c.index-init-router.is) c.loop-router.invariant.placed;
}
