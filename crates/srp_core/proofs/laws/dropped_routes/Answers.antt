use Rattle.srp_core.proofs.Dropped as dropped
use Rattle.srp_core.proofs.laws.dropped_routes.Goals as goal

pub returns : goal.returns
returns c = λ problem labels good stable edge from route has labelled stepped looped.
    dropped.has_shorter problem good labels stable edge from route has labelled stepped looped
