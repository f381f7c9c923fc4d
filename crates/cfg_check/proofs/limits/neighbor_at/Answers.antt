use Rattle.std.proofs.Common.{◌≡◌, ◌<◌, List, Some, drop, length, get_or, flat_map, sym, ap, ◌∙◌}
use Rattle.std.specs.Option.{option_map}
use Rattle.std.specs.Prelude.{slice_get}
use Rattle.cfg_ast.specs.meaning.Topology.{neighbors_of}
use Rattle.std.proofs.Common.{subst, ◌+◌, ◌-◌, ◌≤◌}
use Rattle.std.proofs.lemmas.Option.{slice_get-get_or}
use Rattle.cfg_ast.specs.declared.bgp.Neighbor.{Neighbor}
use Rattle.cfg_check.specs.Items.{neighbor_line}
use Rattle.cfg_check.proofs.Counted.{get_behind, get_within}
use Rattle.cfg_check.proofs.limits.neighbor_at.Goals as goal

pub loop-router-preserved : goal.loop-router-preserved
loop-router-preserved c =
    let same = c.neighbors-neighbors.ensures in
    ap (λ (ns : List Neighbor). slice_get (flat_map neighbors_of (drop (c.loop-router.router-index + 1) c.args.routers.now)) (c.loop-router.left - length ns))
    same
    ∙ sym (get_behind neighbors_of c.args.routers.now c.loop-router.router-index c.router-item.result c.loop-router.left c.loop-router-test.true
    c.router-item.is (subst (λ (ns : List Neighbor). length ns ≤ c.loop-router.left) same c.if-left-neighbors.false))
    ∙ c.loop-router.invariant

pub returns-then-left-neighbors : goal.returns-then-left-neighbors
returns-then-left-neighbors c =
    let same = c.neighbors-neighbors.ensures in
    let left = c.loop-router.left in
    let x = c.index-neighbors-left.result in
    let found : slice_get c.neighbors-neighbors.result.now left ≡ Some (get_or c.neighbors-neighbors.result.now left x) =
    slice_get-get_or c.neighbors-neighbors.result.now left x c.if-left-neighbors.true in
    ap (option_map neighbor_line)
    (sym found ∙ ap (λ (ns : List Neighbor). slice_get ns left) same
    ∙ sym (get_within neighbors_of c.args.routers.now c.loop-router.router-index c.router-item.result left c.loop-router-test.true c.router-item.is
    (subst (λ (ns : List Neighbor). left < length ns) same c.if-left-neighbors.true))
    ∙ c.loop-router.invariant)
