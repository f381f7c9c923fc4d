use Rattle.std.proofs.Common.{refl}
use Rattle.config_emit.specs.Plan.{Plan}
use Rattle.library_uses.proofs.Compressing.{printed_compresses}
use Rattle.library_uses.proofs.worked.compression.compressed.Goals as goal

pub emit-requires-clause-problem : goal.emit-requires-clause-problem
emit-requires-clause-problem c = c.in_ok-problem.ensures.of

pub emit-requires-clause-groups : goal.emit-requires-clause-groups
emit-requires-clause-groups c = c.in_ok-groups.ensures.admissible

pub emit-requires-clause-links : goal.emit-requires-clause-links
emit-requires-clause-links c = c.in_ok-links.ensures

pub returns : goal.returns
returns c =
    let net = c.args.net.now in
    let plan : Plan = record {
      network = net.network;
      class = c.args.class.now;
      problem = c.in_ok-problem.problem;
      groups = c.in_ok-groups.groups;
      count = c.groups-count.result;
      links = c.in_ok-links.links.links;
    } in
    printed_compresses c.plan_compresses.ensures net.network c.args.class.now net.given net.faultless c.requires plan
    (record {
      network_is = refl;
      class_is = refl;
      built = c.in_ok-problem.ensures;
      coarsest = c.in_ok-groups.ensures;
      numbered = c.groups-count.ensures;
      links = c.in_ok-links.ensures c.groups-count.result c.groups-count.ensures;
    }) c.emit.result (c.emit.ensures.emits c.groups-count.result c.groups-count.ensures)
