use Rattle.std.proofs.Common.{refl}
use Rattle.route_run.specs.Activations.{labels_after, no_labels}
use Rattle.route_run.proofs.RoundsEnough.{rounds_enough_by, ospf_enough_by}
use Rattle.route_run.proofs.laws.rounds.Goals as goal

pub returns-clause-ospf : goal.returns-clause-ospf
returns-clause-ospf c = λ problem run rules ospf inside has.
    ospf_enough_by problem rules run inside (labels_after problem (no_labels problem) run) refl ospf has

pub returns-clause-none_lone : goal.returns-clause-none_lone
returns-clause-none_lone c = λ problem most run rules none_lone few inside has.
    rounds_enough_by problem rules run inside (labels_after problem (no_labels problem) run) refl most none_lone few has
