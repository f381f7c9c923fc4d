use Rattle.std.proofs.Common.{take, ◌≤◌}
use Rattle.std.specs.HashSet.{hash_set_len}
use Rattle.cfg_ast.specs.meaning.PolicyFaults.{communities_in}
use Rattle.cfg_check.specs.Communities.{mentions_up_to, HasNumbers}
use Rattle.cfg_check.proofs.communities.exceeds.Given as goal

abbrev pub invariant-loop-mention : goal.invariant-loop-mention
invariant-loop-mention l = record {
  seen : HasNumbers l.seen (communities_in (mentions_up_to (take l.mention-index l.mentions) l.line));
  few : hash_set_len l.seen ≤ 1024;
}
