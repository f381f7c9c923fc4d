use Rattle.srp_core.proofs.Alike as alike
use Rattle.srp_core.proofs.laws.alike.edges.Goals as goal

pub returns : goal.returns
returns c = λ first second same edge has. alike.match first second same edge has
