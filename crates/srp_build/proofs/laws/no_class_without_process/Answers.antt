use Rattle.srp_build.proofs.NoClasses.{no_class_without_process}
use Rattle.srp_build.proofs.laws.no_class_without_process.Goals as goal

pub returns : goal.returns
returns c = no_class_without_process
