use Rattle.std.proofs.Common.{length, ap, sym, subst, arith}
use Rattle.srp_build.specs.Built.{IsBuiltFor}
use Rattle.answer_kit.proofs.OneClass.{some_prefix}
use Rattle.answer_solutions.proofs.sides.sides_of.Goals as goal

pub quotient_srp-requires-clause-groups : goal.quotient_srp-requires-clause-groups
quotient_srp-requires-clause-groups c = c.in_ok-grouping.ensures.coarsest.admissible

pub quotient_srp-requires-clause-links : goal.quotient_srp-requires-clause-links
quotient_srp-requires-clause-links c = c.in_ok-grouping.ensures.links

pub quotient_srp-requires-clause-few : goal.quotient_srp-requires-clause-few
quotient_srp-requires-clause-few c =
    let n = c.args.checked.now.network in
    let class = c.args.class.now in
    let g = c.in_ok-grouping.grouping in
    let is = c.in_ok-grouping.ensures in
    let count = c.groups-known.result in
    let built = subst (IsBuiltFor n class) (sym is.problem_is) c.in_ok-problem.ensures in
    let p = some_prefix n class c.requires in
    let no_more = c.groups_have_no_more_links.ensures n p.0 g.problem g.groups count (built.of p.0 p.1) in
    let at_most = c.few_links.ensures n (c.given_is_well_formed.ensures n c.args.checked.now.given) c.args.checked.now.faultless in
    omega (arith, ap length (is.links count c.groups-known.ensures), no_more, at_most)

pub returns : goal.returns
returns c = record {
  built = subst (IsBuiltFor c.args.checked.now.network c.args.class.now) (sym c.in_ok-grouping.ensures.problem_is) c.in_ok-problem.ensures;
  coarsest = c.in_ok-grouping.ensures.coarsest;
  count = c.groups-known.result;
  numbered = c.groups-known.ensures;
  small_is = c.in_ok-small.ensures c.groups-known.result c.groups-known.ensures;
  small_rules = c.count-also_known.ensures.rules;
}
