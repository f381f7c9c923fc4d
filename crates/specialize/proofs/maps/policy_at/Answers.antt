use Rattle.std.proofs.Common.{sym, subst}
use Rattle.std.specs.Prelude.{option_copied}
use Rattle.route_maps.specs.Printable.{IsPrintable}
use Rattle.specialize.specs.OnePrefix.{KeepsVerdict}
use Rattle.specialize.proofs.Printable.{printable_plain}
use Rattle.specialize.proofs.Verdicts.{verdict_kept}
use Rattle.specialize.proofs.maps.policy_at.Goals as goal

pub returns-clause-printable : goal.returns-clause-printable
returns-clause-printable c has =
    subst IsPrintable (sym c.in_ok-plain.ensures)
    (printable_plain c.args.router.now (option_copied c.args.map) (option_copied c.args.list) c.args.p c.args.inbound has)

pub returns-clause-verdict : goal.returns-clause-verdict
returns-clause-verdict c few =
    subst (KeepsVerdict c.args.router.now (option_copied c.args.map) (option_copied c.args.list) c.args.p c.args.inbound) (sym c.in_ok-plain.ensures)
    (verdict_kept c.args.router.now (option_copied c.args.map) (option_copied c.args.list) c.args.p c.args.inbound few)
