use Rattle.std.proofs.Common.{◌≡◌, ◌∙◌, true, subst, sym}
use Rattle.std.specs.Prelude.{Option, IfSome}
use Rattle.solution_search.specs.declared.board.Tie.{Tie}
use Rattle.spare_links.specs.declared.spare.SpareLinks.{SpareLinks}
use Rattle.ask_classes.specs.Failing.{IsTried}
use Rattle.ask_classes.specs.Known.{keeps_verdict, HasSpareLinks}
use Rattle.ask_classes.proofs.Knowing.{is_known}
use Rattle.ask_classes.proofs.known.known_of.Goals as goal

pub returns-in-Some : goal.returns-in-Some
returns-in-Some c =
    let asking = c.args.asking.now in
    let left = asking.problems.now.left.now in
    let spare = c.in-Some.spare in
    let keeps : keeps_verdict asking.asks.now c.args.verdict ≡ true = sym c.is_kept.ensures ∙ c.if-not-is_kept.false in
    let found = subst (λ (o : Option SpareLinks). IfSome o (λ s. HasSpareLinks left s.marks.items s.tied)) c.in-Some.is c.in_ok-spare.ensures in
    record {
      each = λ place loss less marked down_is.
          subst (λ (t : Option Tie). IsTried asking.problems.now.whole.now asking.asks.now loss (record { verdict = c.args.verdict; tied = t }))
          (sym c.tie_beside.ensures)
          (is_known c.spare_links_keep_verdicts.ensures asking c.requires.asking c.args.verdict keeps c.requires.verdict spare.marks.items spare.tied found
          place loss
          less marked down_is);
    }
