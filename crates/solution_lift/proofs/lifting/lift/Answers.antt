use Rattle.std.proofs.Common.{◌≡◌, ℕ, sym, subst}
use Rattle.base_kit.specs.Partition.{IsNumbered}
use Rattle.srp_core.specs.Problem.{Problem}
use Rattle.srp_core.specs.Quotient.{IsQuotient}
use Rattle.srp_core.specs.Stability.{IsStable}
use Rattle.srp_quotient.specs.Groups.{small_of}
use Rattle.solution_lift.specs.Carried.{IsLifting}
use Rattle.solution_lift.proofs.Carries.{ok_as}
use Rattle.solution_lift.proofs.lifting.lift.Goals as goal

pub lift_from-requires-clause-quotient : goal.lift_from-requires-clause-quotient
lift_from-requires-clause-quotient c =
    subst (IsQuotient c.args.srp.now c.args.p.now) (sym (c.in_ok-small.ensures c.groups-also_known.result c.groups-also_known.ensures))
    (c.quotient_is_quotient.ensures c.args.srp.now c.args.p.now c.groups-also_known.result c.count-known.ensures.rules c.requires.groups
    c.groups-also_known.ensures)

pub lift_from-requires-clause-stable : goal.lift_from-requires-clause-stable
lift_from-requires-clause-stable c =
    subst (λ (P : Problem). IsStable P c.args.labels.now) (sym (c.in_ok-small.ensures c.groups-also_known.result c.groups-also_known.ensures))
    (c.requires.stable c.groups-also_known.result c.groups-also_known.ensures)

pub returns : goal.returns
returns c =
    ok_as (λ upper. upper ≡ c.in_ok-upper.upper)
    (λ upper. (groups : ℕ) → IsNumbered c.args.p.now groups → IsLifting c.args.srp.now (small_of c.args.srp.now c.args.p.now groups) c.args.p.now
    c.args.labels.now upper)
    c.plain.result
    (λ upper same groups numbered. subst (λ (P : Problem). IsLifting c.args.srp.now P c.args.p.now c.args.labels.now upper)
    (c.in_ok-small.ensures groups numbered)
    (subst (IsLifting c.args.srp.now c.in_ok-small.small c.args.p.now c.args.labels.now) (sym same) c.in_ok-upper.ensures))
    c.plain.ensures
