use Rattle.existence_laws.proofs.Samples.{has_samples}
use Rattle.existence_laws.proofs.each_class_has_problem.Goals as goal

pub returns : goal.returns
returns c = c.samples_give_problems.ensures has_samples
