use Rattle.line_number_laws.proofs.Communities as communities
use Rattle.line_number_laws.proofs.laws.few_communities_pass.Goals as goal

pub returns : goal.returns
returns c = communities.few_are_no_fault
