use Rattle.std.proofs.Common.{length}
use Rattle.policy_dd.proofs.map_run.+run_map.Given as goal

abbrev pub decreases-run_map : goal.decreases-run_map
decreases-run_map l = length l.entries.now
