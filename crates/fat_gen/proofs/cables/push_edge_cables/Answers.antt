use Rattle.std.proofs.Common.{◌≡◌, ◌++◌, ◌∷◌, [], arith, ◌∙◌}
use Rattle.fat_gen.specs.Cables.{edge_cable}
use Rattle.fat_gen.proofs.Steps.{one_more}
use Rattle.fat_gen.proofs.cables.push_edge_cables.Goals as goal

pub loop-edge-preserved : goal.loop-edge-preserved
loop-edge-preserved c =
    let edge = c.loop-edge.edge in
    let made : c.push.new.self.items ≡ c.loop-edge.cables.items ++ edge_cable c.args.half c.args.pod c.args.number edge ∷ [] =
    c.in_ok-push.ensures.items ∙ (λ j. c.loop-edge.cables.items ++ record { even = c.aggregation_place-even.ensures j; odd = c.edge_place-odd.ensures j } ∷ [])
    in
    one_more (edge_cable c.args.half c.args.pod c.args.number) c.args.cables.now.items c.loop-edge.cables.items c.push.new.self.items 0 edge edge (omega arith)
    made c.loop-edge.invariant
