use Rattle.std.proofs.Common.{get_or, string_bytes}
use Rattle.std.proofs.lemmas.List.{get_or_default}
use Rattle.srp_core.specs.Problem.{count}
use Rattle.route_run.specs.declared.schedule.Activation.{Activation}
use Rattle.route_run.specs.declared.schedule.Activation.TheVariants.{One}
use Rattle.answer_runs.proofs.NameLines.{lines_more}
use Rattle.answer_runs.proofs.reach.name_lines.Goals as goal

pub loop-activation-preserved : goal.loop-activation-preserved
loop-activation-preserved c =
    let P = c.args.problem.now in
    let schedule = c.args.schedule.now in
    let i = c.loop-activation.activation-index in
    let a : Activation = get_or schedule i (One 0) in
    lines_more P (count P) schedule i a (string_bytes c.loop-activation.text) (string_bytes c.put_name.new.text) c.loop-activation-test.true
    (get_or_default schedule i (One 0) a c.loop-activation-test.true) c.loop-activation.invariant c.in_ok-put_name.ensures
