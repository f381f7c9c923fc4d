use Rattle.srp_build.proofs.ProblemExists.{samples_give_problems}
use Rattle.srp_build.proofs.laws.samples_give_problems.Goals as goal

pub returns : goal.returns
returns c = samples_give_problems c.few_links.ensures c.given_is_well_formed.ensures
