use Rattle.srp_build.proofs.Built.{parts_of, rules, problem_is, acts_by_first_use}
use Rattle.srp_build.proofs.StartsOfClass.{starts_of_class, starts_of_some}
use Rattle.srp_build.proofs.problem.ospf_problem.Goals as goal

pub new-problem-requires : goal.new-problem-requires
new-problem-requires c =
    let some = starts_of_some c.args.network.now c.args.class.now c.requires.class in
    let parts = parts_of c.args.network.now some.0 _ _ _ c.in_ok-init.init c.args.costs.now c.args.edges c.requires.ospf c.as_slice-routers.ensures
    c.as_slice.ensures some.1 c.in_ok-init.ensures c.requires.directions.numbers c.in_ok-acts.ensures.distinct c.requires.directions.few in
    λ keeps. rw (c.in_ok-names.ensures, c.in_ok-numbers.ensures, c.in_ok-lone.ensures, c.in_ok-acts.ensures.acts, c.as_slice-routers.ensures)
    (rules _ _ _ _ _ parts)

pub returns-clause-problem : goal.returns-clause-problem
returns-clause-problem c = λ p at.
    let starts = starts_of_class c.args.network.now c.args.class.now p c.requires.class at in
    let parts = parts_of c.args.network.now p _ _ _ c.in_ok-init.init c.args.costs.now c.args.edges c.requires.ospf c.as_slice-routers.ensures
    c.as_slice.ensures starts c.in_ok-init.ensures c.requires.directions.numbers c.in_ok-acts.ensures.distinct c.requires.directions.few in
    rw (c.new-problem.ensures, c.in_ok-names.ensures, c.in_ok-numbers.ensures, c.in_ok-lone.ensures, c.in_ok-acts.ensures.acts, c.as_slice-routers.ensures)
    (problem_is _ _ _ _ _ parts)

pub returns-clause-acts : goal.returns-clause-acts
returns-clause-acts c = rw (c.new-problem.ensures, c.in_ok-acts.ensures.acts)
    (acts_by_first_use c.args.costs.now c.args.edges c.requires.directions.numbers.in_order)
