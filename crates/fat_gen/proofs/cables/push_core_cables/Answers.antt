use Rattle.std.proofs.Common.{◌≡◌, ◌*◌, ◌++◌, ◌∷◌, [], ℕ, ap, ◌∙◌}
use Rattle.fat_gen.specs.Cables.{core_cable}
use Rattle.fat_gen.proofs.Steps.{one_more_to}
use Rattle.fat_gen.proofs.cables.push_core_cables.Goals as goal

pub loop-core-preserved : goal.loop-core-preserved
loop-core-preserved c =
    let core = c.loop-core.core in
    let first = c.from.result * c.from-2.result in
    let made : c.push.new.self.items ≡ c.loop-core.cables.items ++ core_cable c.args.half c.args.pod c.args.number core ∷ [] =
    c.in_ok-push.ensures.items ∙ ap (λ (even : ℕ). c.loop-core.cables.items ++ record { even = even; odd = core } ∷ []) c.aggregation_place-even.ensures in
    one_more_to (core_cable c.args.half c.args.pod c.args.number) c.args.cables.now.items c.loop-core.cables.items c.push.new.self.items first core
    c.loop-core.auto.core made c.loop-core.invariant
