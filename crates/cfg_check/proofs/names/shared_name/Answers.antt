use Rattle.std.proofs.Common.{◌≡◌, not, take, ap, ◌∙◌}
use Rattle.std.specs.List.{list_any}
use Rattle.numbered_names.specs.NameSets.{has_name}
use Rattle.std.proofs.Math.Bool.{not-not}
use Rattle.cfg_ast.specs.declared.network.Router.{Router}
use Rattle.cfg_check.specs.Items.{router_line, same_name}
use Rattle.cfg_check.proofs.Repeats.{least_repeat_turn}
use Rattle.cfg_check.proofs.Seen.{text_turn}
use Rattle.cfg_check.proofs.names.shared_name.Goals as goal

pub loop-router-preserved : goal.loop-router-preserved
loop-router-preserved c =
    let name = c.router-item.result.name in
    let again : not c.in_ok-is_new.is_new ≡ list_any (same_name c.router-item.result) (take c.loop-router.router-index c.args.routers.now) =
    ap not c.in_ok-is_new.ensures.new ∙ not-not _ ∙ ap (has_name c.loop-router.seen) c.as_str.ensures
    ∙ c.loop-router.invariant.1 name in (
      c.with_line_if-least.ensures ∙ least_repeat_turn same_name router_line c.args.routers.now c.loop-router.router-index c.router-item.result
          c.loop-router.least (not c.in_ok-is_new.is_new) c.loop-router-test.true c.router-item.is c.loop-router.invariant.0 again,
      text_turn (λ (r : Router). r.name) c.args.routers.now c.loop-router.router-index c.router-item.result c.loop-router.seen c.insert.new.self
          c.as_str.result.now c.loop-router-test.true c.router-item.is c.as_str.ensures c.in_ok-is_new.ensures.adds c.loop-router.invariant.1,
    )
