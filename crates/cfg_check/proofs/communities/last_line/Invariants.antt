use Rattle.std.proofs.Common.{◌≡◌, false, take, nat_lt}
use Rattle.std.specs.List.{list_any}
use Rattle.cfg_ast.specs.declared.policy.Mention.{Mention}
use Rattle.cfg_check.proofs.communities.last_line.Given as goal

abbrev pub invariant-loop-mention : goal.invariant-loop-mention
invariant-loop-mention l = list_any (λ (m : Mention). nat_lt l.last m.line) (take l.mention-index l.mentions) ≡ false
