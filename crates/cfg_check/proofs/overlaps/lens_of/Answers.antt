use Rattle.std.proofs.Common.{◌≡◌, ◌+◌, take, sym, ap, ◌∙◌, subst}
use Rattle.base_kit.specs.Sets.{with_number}
use Rattle.cfg_check.specs.Blocks.{HasLens}
use Rattle.cfg_check.proofs.BlockLemmas.{lens_turn}
use Rattle.cfg_check.proofs.overlaps.lens_of.Goals as goal

pub loop-address-preserved : goal.loop-address-preserved
loop-address-preserved c =
    let xs = c.args.addresses.now in
    let i = c.loop-address.address-index in
    let x = c.address-item.result in
    let put : c.add.new.self ≡ with_number x.len c.loop-address.lens = c.in_ok-add.ensures.ok
    ∙ ap (λ n. with_number n c.loop-address.lens) (c.from.ensures ∙ c.len.ensures.value) in
    subst (λ lens. HasLens lens (take (i + 1) xs)) (sym put)
    (lens_turn c.loop-address.lens xs i x c.loop-address-test.true c.address-item.is c.loop-address.invariant)
