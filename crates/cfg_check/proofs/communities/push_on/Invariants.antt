use Rattle.std.proofs.Common.{◌≡◌, ◌++◌, take, map}
use Rattle.cfg_ast.specs.meaning.PolicyFaults.{mention_at}
use Rattle.cfg_check.proofs.communities.push_on.Given as goal

abbrev pub invariant-loop-community : goal.invariant-loop-community
invariant-loop-community l = l.found.items ≡ l.initial.found.items ++ map (mention_at l.line) (take l.community-index l.comms)
