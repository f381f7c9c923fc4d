use Rattle.std.proofs.Common.{sym, subst}
use Rattle.srp_core.specs.ProblemOf.{IsProblemOf}
use Rattle.driver.proofs.Emitting.{emitted_of}
use Rattle.driver.proofs.emitted.emitted_of.Goals as goal

pub emit-requires-clause-problem : goal.emit-requires-clause-problem
emit-requires-clause-problem c = λ p has. subst (IsProblemOf c.args.checked.now.network p) (sym c.in_ok-grouping.ensures.problem_is) (c.requires.problem p has)

pub emit-requires-clause-groups : goal.emit-requires-clause-groups
emit-requires-clause-groups c = c.in_ok-grouping.ensures.coarsest.admissible

pub emit-requires-clause-links : goal.emit-requires-clause-links
emit-requires-clause-links c = c.in_ok-grouping.ensures.links

pub returns : goal.returns
returns c =
    emitted_of c.args.checked.now.network c.args.class.now c.args.problem c.in_ok-grouping.grouping c.groups-known.result c.in_ok-grouping.ensures
    c.groups-known.ensures
    c.emit.result (c.emit.ensures.emits c.groups-known.result c.groups-known.ensures)
