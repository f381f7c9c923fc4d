use Rattle.net_topology.proofs.OnePeer.{few_sessions}
use Rattle.net_topology.proofs.laws.few_sessions.Goals as goal

pub returns : goal.returns
returns c = few_sessions
