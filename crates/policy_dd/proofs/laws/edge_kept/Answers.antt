use Rattle.policy_dd.proofs.KeptLemmas as lemmas
use Rattle.policy_dd.proofs.laws.edge_kept.Goals as goal

pub returns : goal.returns
returns c = lemmas.edge_kept
