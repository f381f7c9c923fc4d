use Rattle.std.proofs.Common.{◌≡◌, ℕ, take, nat_eq}
use Rattle.std.specs.List.{list_any}
use Rattle.std.specs.HashSet.{contains}
use Rattle.cfg_ast.specs.declared.policy.Mention.{Mention}
use Rattle.cfg_ast.specs.meaning.PolicyFaults.{communities_in}
use Rattle.cfg_check.proofs.communities.communities.Given as goal

abbrev pub invariant-loop-mention : goal.invariant-loop-mention
invariant-loop-mention l = record {
  all : l.set ≡ communities_in (take l.mention-index l.mentions);
  seen : (q : ℕ) → contains nat_eq l.seen q ≡ list_any (λ (m : Mention). nat_eq q m.community) (take l.mention-index l.mentions);
}
