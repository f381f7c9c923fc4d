use Rattle.std.proofs.Common.{◌+◌, ℕ, List, take, refl, sym, subst}
use Rattle.route_maps.specs.declared.plain.Plain.{Plain}
use Rattle.srp_build.specs.LineMaps.{AreMapsOfPolicies}
use Rattle.srp_build.specs.Plains.{IsNumberOf, IsGrownBy}
use Rattle.srp_build.proofs.PolicyMaps.{maps_next}
use Rattle.srp_build.proofs.policy_maps.policy_maps.Goals as goal

pub loop-first-preserved : goal.loop-first-preserved
loop-first-preserved c =
    let p = c.args.p in
    let routers = c.args.routers.now in
    let firsts = c.args.firsts.now in
    let i = c.loop-first.first-index in
    let maps = c.loop-first.plains.maps.items in
    let more = c.number.new.self.maps.items in
    let number = c.in_ok-number.field-0 in
    subst (λ (l : List ℕ). AreMapsOfPolicies p routers (take (i + 1) firsts) more l) (sym c.in_ok-push.ensures.items)
    (maps_next p routers firsts i _ _ maps more c.loop-first.numbers.items number c.loop-first-test.true refl c.loop-first.invariant
    (subst (IsNumberOf more number) c.in_ok-map.ensures c.in_ok-number.ensures.number)
    (subst (λ (m : Plain). IsGrownBy maps more m number) c.in_ok-map.ensures c.in_ok-number.ensures.grown))
