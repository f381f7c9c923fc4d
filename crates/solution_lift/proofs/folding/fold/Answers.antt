use Rattle.std.proofs.Common.{◌≡◌, ◌<◌, ◌^◌, ℕ, List, length, sym, subst}
use Rattle.abstract_net.specs.declared.qlink.QLink.{QLink}
use Rattle.base_kit.specs.Partition.{IsNumbered}
use Rattle.srp_core.specs.Problem.{Problem}
use Rattle.srp_core.specs.Quotient.{IsQuotient}
use Rattle.srp_quotient.specs.Groups.{small_of}
use Rattle.solution_lift.specs.Carried.{IsFolding}
use Rattle.solution_lift.proofs.Carries.{ok_as}
use Rattle.solution_lift.proofs.folding.fold.Goals as goal

pub quotient_srp-requires-clause-few : goal.quotient_srp-requires-clause-few
quotient_srp-requires-clause-few c =
    let count = c.groups-also_known.result in
    let numbered = c.groups-also_known.ensures in
    subst (λ (l : List QLink). length l < 2 ^ 31) (sym (c.in_ok-links.ensures count numbered)) (c.requires.few count numbered)

pub fold_into-requires-clause-quotient : goal.fold_into-requires-clause-quotient
fold_into-requires-clause-quotient c =
    subst (IsQuotient c.args.srp.now c.args.p.now) (sym (c.in_ok-small.ensures c.groups-also_known.result c.groups-also_known.ensures))
    (c.quotient_is_quotient.ensures c.args.srp.now c.args.p.now c.groups-also_known.result c.count-known.ensures.rules c.requires.groups
    c.groups-also_known.ensures)

pub returns : goal.returns
returns c =
    ok_as (λ lower. lower ≡ c.in_ok-lower.lower)
    (λ lower. (groups : ℕ) → IsNumbered c.args.p.now groups → IsFolding c.args.srp.now (small_of c.args.srp.now c.args.p.now groups) c.args.p.now
    c.args.labels.now lower)
    c.plain.result
    (λ lower same groups numbered. subst (λ (P : Problem). IsFolding c.args.srp.now P c.args.p.now c.args.labels.now lower)
    (c.in_ok-small.ensures groups numbered)
    (subst (IsFolding c.args.srp.now c.in_ok-small.small c.args.p.now c.args.labels.now) (sym same) c.in_ok-lower.ensures))
    c.plain.ensures
