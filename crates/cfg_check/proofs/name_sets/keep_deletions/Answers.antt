use Rattle.cfg_ast.specs.declared.policy.MapEntry.{MapEntry}
use Rattle.cfg_ast.specs.meaning.PolicyFaults.{is_name}
use Rattle.cfg_check.proofs.NameTurns.{adds_turn}
use Rattle.cfg_check.proofs.name_sets.keep_deletions.Goals as goal

pub loop-entry-preserved : goal.loop-entry-preserved
loop-entry-preserved c = adds_turn (λ (entry : MapEntry) q. is_name q entry.delete) c.args.entries.now c.loop-entry.entry-index c.entry-item.result
    c.args.names.now c.loop-entry.names c.keep_deletion.new.names c.loop-entry-test.true c.entry-item.is c.loop-entry.invariant c.in_ok-keep_deletion.ensures
