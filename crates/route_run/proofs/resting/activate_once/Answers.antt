use Rattle.std.proofs.Common.{◌≡◌, ◌<◌, length, sym, ◌∙◌, subst, true, false, arith}
use Rattle.std.proofs.lemmas.List.{get_or_default}
use Rattle.srp_core.specs.Stability.{label}
use Rattle.route_run.specs.declared.choosing.Choice.{Choice}
use Rattle.route_run.specs.Activations.{chosen_label}
use Rattle.route_run.specs.Choices.{IsChoice}
use Rattle.route_run.specs.Rests.{is_at_rest}
use Rattle.route_run.proofs.AtRest.{kept_same}
use Rattle.route_run.proofs.resting.activate_once.Goals as goal

pub index-requires : goal.index-requires
index-requires c = let total = c.requires.state.total in let inside = c.requires.router in omega (arith, total, inside)

pub returns-then-index-clause-labels : goal.returns-then-index-clause-labels
returns-then-index-clause-labels c =
    let marks = c.args.state.now.rests.items in
    let total = c.requires.state.total in
    let router = c.requires.router in
    let inside : c.args.router < length marks = omega (arith, total, router) in
    let marked : is_at_rest marks c.args.router ≡ true = sym (get_or_default marks c.args.router c.index.result.now false inside) ∙ sym c.index.ensures
    ∙ c.if-index.true in
    sym (kept_same c.args.runner.now c.args.state.now.labels c.args.router (c.requires.state.rest c.args.router marked))

pub returns-in-Keep-clause-labels : goal.returns-in-Keep-clause-labels
returns-in-Keep-clause-labels c =
    let P = c.args.runner.now in
    let L = c.args.state.now.labels in
    let u = c.args.router in
    let keeps = subst (λ (x : Choice). IsChoice (chosen_label P L u) (label L u) x) c.in-Keep.is c.in_ok-choice.ensures in
    c.keep.ensures.labels ∙ sym (kept_same P L u keeps)

pub choice-requires-clause-labels : goal.choice-requires-clause-labels
choice-requires-clause-labels c = c.requires.state.fitting

pub keep-requires-clause-keeps : goal.keep-requires-clause-keeps
keep-requires-clause-keeps c =
    let P = c.args.runner.now in
    let L = c.args.state.now.labels in
    let u = c.args.router in
    subst (λ (x : Choice). IsChoice (chosen_label P L u) (label L u) x) c.in-Keep.is c.in_ok-choice.ensures

pub take-requires-clause-chosen : goal.take-requires-clause-chosen
take-requires-clause-chosen c =
    let P = c.args.runner.now in
    let L = c.args.state.now.labels in
    let u = c.args.router in
    (subst (λ (x : Choice). IsChoice (chosen_label P L u) (label L u) x) c.in-Take.is c.in_ok-choice.ensures).0
