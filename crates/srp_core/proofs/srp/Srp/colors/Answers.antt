use Rattle.srp_core.proofs.Colors.{graph_of}
use Rattle.srp_core.proofs.GraphPartitions.{coarsest_both}
use Rattle.srp_core.proofs.srp.Srp.colors.Goals as goal

pub returns-clause-graph : goal.returns-clause-graph
returns-clause-graph c = λ graph. graph_of c.args.self.now c.count-known.ensures.rules c.in_ok-colors.colors.items c.in_ok-colors.ensures graph

pub returns-clause-coarsest : goal.returns-clause-coarsest
returns-clause-coarsest c = λ graph routers are edges. coarsest_both c.args.self.now c.count-known.ensures.rules graph
    (graph_of c.args.self.now c.count-known.ensures.rules c.in_ok-colors.colors.items c.in_ok-colors.ensures graph routers are edges)
