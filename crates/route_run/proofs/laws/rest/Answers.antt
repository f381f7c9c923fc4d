use Rattle.route_run.proofs.AtRest.{rest_stable, stable_rest, after_labels}
use Rattle.route_run.specs.Activations.{labels_after}
use Rattle.route_run.proofs.laws.rest.Goals as goal

pub returns-clause-stable : goal.returns-clause-stable
returns-clause-stable c = λ problem labels run rules fits rest.
    rest_stable problem (labels_after problem labels run) (after_labels problem rules run labels fits) rest

pub returns-clause-rest : goal.returns-clause-rest
returns-clause-rest c = λ problem labels run stable. stable_rest problem (labels_after problem labels run) stable
