use Rattle.std.proofs.Common.{◌≤◌, Contains, IfOk, length, sym, subst}
use Rattle.base_kit.specs.Prefixes.{Prefix}
use Rattle.cfg_ast.specs.declared.network.Network.{Network}
use Rattle.cfg_ast.specs.meaning.RouterFaults.{protocol_of}
use Rattle.srp_core.specs.ProblemOf.{IsProblemOf}
use Rattle.srp_build.specs.FirstActs.{HasFirstActs}
use Rattle.srp_build.specs.Ospf.{IsOspf}
use Rattle.srp_build.proofs.NoClasses.{no_class}
use Rattle.srp_build.proofs.OspfActs.{ospf_first}
use Rattle.srp_build.proofs.OspfChecked.{is_ospf, ospf_is}
use Rattle.srp_build.proofs.problem.problem_of_adjacencies.Goals as goal

-- without a `router` line there is no class
pub ospf_problem-requires-clause-ospf : goal.ospf_problem-requires-clause-ospf
ospf_problem-requires-clause-ospf c =
    let n = c.args.net.now.network in
    let same = c.network.ensures.same in
    let few = subst (λ (n : Network). length n.routers ≤ 4096) same c.network.ensures.few_routers in
    let ospf = ospf_is (protocol_of n) (λ none. no_class n c.args.class.now none c.requires.class) c.requires.directions.not_bgp in
    subst IsOspf (sym same) (is_ospf n c.args.net.now.given c.args.net.now.faultless few ospf)

pub returns-clause-problem : goal.returns-clause-problem
returns-clause-problem c =
    subst (λ (n : Network). IfOk c.ospf_problem.result (λ problem. (p : Prefix) → Contains c.args.class.now.prefixes p → IsProblemOf n p problem))
    c.network.ensures.same c.ospf_problem.ensures.problem

pub returns-clause-first : goal.returns-clause-first
returns-clause-first c =
    subst (λ (n : Network). IfOk c.ospf_problem.result (λ problem. (p : Prefix) → Contains c.args.class.now.prefixes p → HasFirstActs n p problem))
    c.network.ensures.same
    (ospf_first c.network.result.now c.args.class.now c.ospf_problem.result c.ospf_problem.ensures.problem c.ospf_problem.ensures.protocol)
