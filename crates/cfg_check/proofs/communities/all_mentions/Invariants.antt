use Rattle.std.proofs.Common.{◌≡◌, take, flat_map}
use Rattle.cfg_ast.specs.meaning.PolicyFaults.{mentions_of}
use Rattle.cfg_check.proofs.communities.all_mentions.Given as goal

abbrev pub invariant-loop-router : goal.invariant-loop-router
invariant-loop-router l = l.found.items ≡ flat_map mentions_of (take l.router-index l.routers)
