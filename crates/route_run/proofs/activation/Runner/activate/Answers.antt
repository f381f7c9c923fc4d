use Rattle.std.proofs.Common.{sym, ap, ◌∙◌, subst, set}
use Rattle.srp_core.specs.Stability.{label, AreLabels}
use Rattle.route_run.specs.declared.choosing.Choice.{Choice}
use Rattle.route_run.specs.Activations.{chosen_label}
use Rattle.route_run.specs.Choices.{IsChoice}
use Rattle.route_run.proofs.AtRest.{activated_labels}
use Rattle.route_run.proofs.activation.Runner.activate.Goals as goal

pub returns-in-Take-clause-labels : goal.returns-in-Take-clause-labels
returns-in-Take-clause-labels c =
    let P = c.args.self.now in
    let L = c.args.labels.now in
    let u = c.args.router in
    let choice = subst (λ (x : Choice). IsChoice (chosen_label P L u) (label L u) x) c.in-Take.is c.in_ok-choice.ensures in
    subst (AreLabels P) (ap (set L u) choice.0 ∙ sym c.set.ensures) (activated_labels P c.count-known.ensures.rules L u c.requires.labels)
