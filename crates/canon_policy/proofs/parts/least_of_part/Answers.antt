use Rattle.std.proofs.Common.{◌≡◌, ◌∙◌, ap, sym, subst, refl}
use Rattle.std.specs.Option.{option_map}
use Rattle.canon_policy.specs.declared.parts.PartNodes.{PartNodes}
use Rattle.canon_policy.specs.declared.parts.PartNodes.TheVariants.{Told}
use Rattle.canon_policy.specs.Nodes.{IsTold, community_number}
use Rattle.canon_policy.proofs.Told.{told_number}
use Rattle.canon_policy.proofs.parts.least_of_part.Goals as goal

pub returns-in-Told-clause-unsettled : goal.returns-in-Told-clause-unsettled
returns-in-Told-clause-unsettled c = λ kept fixing asked kept_hangs hangs of_rest told.
    let e : c.args.part.now ≡ Told c.as_slice.result.now = c.in-Told.is ∙ ap Told (sym c.as_slice.ensures) in
    told_number c.args.store.now fixing c.args.store.now.universe c.as_slice.result.now kept (option_map community_number c.least_of.result) asked refl hangs
    (subst (λ (x : PartNodes). IsTold c.args.store.now fixing x asked) e told) c.least_of.ensures.least
