use Rattle.policy_dd.proofs.RunLemmas.{run_none}
use Rattle.policy_dd.proofs.map_run.no_entries.Goals as goal

pub returns : goal.returns
returns c = λ carried. rw (c.new.ensures, c.new-2.ensures, c.new-3.ensures, c.new-4.ensures)
    (run_none c.args.store.now carried _ c.constant-never.ensures.constant)
