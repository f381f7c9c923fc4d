use Rattle.std.proofs.Common.{◌≡◌, not, take, get_or, ap, ◌∙◌}
use Rattle.std.proofs.Math.Bool.{not-not}
use Rattle.std.specs.List.{list_any}
use Rattle.cfg_check.specs.Processes.{same_numbered, line_of_numbered}
use Rattle.cfg_check.specs.declared.processes.Numbered.{Numbered}
use Rattle.cfg_check.proofs.Repeats.{least_repeat_turn}
use Rattle.std.proofs.lemmas.List.{get_or_default}
use Rattle.cfg_check.proofs.Seen.{number_turn}
use Rattle.cfg_check.proofs.processes.repeated_number.Goals as goal

pub loop-process-preserved : goal.loop-process-preserved
loop-process-preserved c =
    let none : Numbered = record { number = 0; line = 0 } in
    let all = c.args.all.now in
    let i = c.loop-process.process-index in
    let x = get_or all i none in
    let below = c.loop-process-test.true in
    let here = get_or_default all i none x below in
    let again : not c.in_ok-is_new.is_new ≡ list_any (same_numbered x) (take i all) = ap not c.in_ok-is_new.ensures.added ∙ not-not _
    ∙ c.loop-process.invariant.1 x.number in (
      c.with_line_if-least.ensures ∙ least_repeat_turn same_numbered line_of_numbered all i x c.loop-process.least (not c.in_ok-is_new.is_new) below here
          c.loop-process.invariant.0 again,
      number_turn (λ (y : Numbered). y.number) all i x c.loop-process.seen c.insert.new.self below here c.in_ok-is_new.ensures.updates
          c.loop-process.invariant.1,
    )
