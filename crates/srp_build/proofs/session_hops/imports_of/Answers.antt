use Rattle.std.proofs.Common.{◌+◌, List, take, refl, sym, ◌∙◌, subst}
use Rattle.srp_build.specs.declared.imports.ImportByPolicies.{ImportByPolicies}
use Rattle.srp_build.specs.LinePolicies.{AreImportsOf}
use Rattle.srp_build.proofs.PolicyMaps.{imports_next}
use Rattle.srp_build.proofs.LinesJoined.{import_missing}
use Rattle.srp_build.proofs.session_hops.imports_of.Goals as goal

pub unreachable-requires : goal.unreachable-requires
unreachable-requires c =
    let routers = c.args.routers.now in
    let policies = c.args.policies.now in
    let joins = c.requires.lines c.loop-hop.hop-index _ c.loop-hop-test.true in
    import_missing routers policies c.as_slice-outs.result.now c.as_slice-ins.result.now _ c.as_slice-outs.ensures c.as_slice-ins.ensures c.requires.policies
    joins
    (sym c.import_by_policies.ensures ∙ c.in_default.is)

pub loop-hop-preserved : goal.loop-hop-preserved
loop-hop-preserved c =
    let routers = c.args.routers.now in
    let policies = c.args.policies.now in
    let hops = c.args.hops.now in
    let i = c.loop-hop.hop-index in
    subst (λ (l : List ImportByPolicies). AreImportsOf routers policies (take (i + 1) hops) l) (sym c.in_ok-push.ensures.items)
    (imports_next routers policies c.as_slice-outs.result.now c.as_slice-ins.result.now hops i _ _ c.loop-hop.imports.items c.in-Some.import
    c.as_slice-outs.ensures c.as_slice-ins.ensures c.loop-hop-test.true refl c.loop-hop.invariant (sym c.import_by_policies.ensures ∙ c.in-Some.is))
