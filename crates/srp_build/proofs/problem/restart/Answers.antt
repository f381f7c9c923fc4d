use Rattle.std.proofs.Common.{◌≤◌, length, subst}
use Rattle.cfg_ast.specs.declared.network.Network.{Network}
use Rattle.srp_build.proofs.Restarted.{starts_for, rules_for, built_for}
use Rattle.srp_build.proofs.problem.restart.Goals as goal

pub restart-requires : goal.restart-requires
restart-requires c = λ before.
    let n = c.args.net.now.network in
    let same = c.network.ensures.same in
    let few = subst (λ (n : Network). length n.routers ≤ 4096) same c.network.ensures.few_routers in
    let starts = starts_for n _ c.args.class.now _ _ c.in_ok-init.init same c.as_slice-routers.ensures c.as_slice.ensures c.in_ok-init.ensures in
    rules_for n c.args.net.now.given c.args.net.now.faultless few c.args.problem.now c.requires.ospf c.requires.built c.args.class.now c.requires.class
    c.in_ok-init.init starts

pub returns-clause-built : goal.returns-clause-built
returns-clause-built c =
    let n = c.args.net.now.network in
    let same = c.network.ensures.same in
    let few = subst (λ (n : Network). length n.routers ≤ 4096) same c.network.ensures.few_routers in
    let starts = starts_for n _ c.args.class.now _ _ c.in_ok-init.init same c.as_slice-routers.ensures c.as_slice.ensures c.in_ok-init.ensures in
    rw c.restart.ensures
    (built_for n c.args.net.now.given c.args.net.now.faultless few c.args.problem.now c.requires.ospf c.requires.built c.args.class.now c.requires.class
    c.in_ok-init.init starts)
