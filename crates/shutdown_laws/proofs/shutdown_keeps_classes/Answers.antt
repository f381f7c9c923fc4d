use Rattle.shutdown_laws.proofs.SameClasses.{same_classes}
use Rattle.shutdown_laws.proofs.shutdown_keeps_classes.Goals as goal

pub returns : goal.returns
returns c = λ n router item. same_classes n router item
