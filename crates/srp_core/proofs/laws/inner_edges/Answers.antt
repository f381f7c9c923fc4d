use Rattle.srp_core.proofs.Chains as chains_of
use Rattle.srp_core.proofs.laws.inner_edges.Goals as goal

pub returns : goal.returns
returns c = λ problem groups labels good adm st edge from route i same e s. chains_of.inner_edge problem good groups adm labels st edge from route i same e s
