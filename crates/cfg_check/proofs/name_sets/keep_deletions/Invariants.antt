use Rattle.std.proofs.Common.{take}
use Rattle.std.specs.List.{list_any}
use Rattle.cfg_ast.specs.declared.policy.MapEntry.{MapEntry}
use Rattle.cfg_ast.specs.meaning.PolicyFaults.{is_name}
use Rattle.cfg_check.specs.NameSets.{AddsNames}
use Rattle.cfg_check.proofs.name_sets.keep_deletions.Given as goal

abbrev pub invariant-loop-entry : goal.invariant-loop-entry
invariant-loop-entry l = AddsNames l.initial.names l.names (λ q. list_any (λ (entry : MapEntry). is_name q entry.delete) (take l.entry-index l.entries))
