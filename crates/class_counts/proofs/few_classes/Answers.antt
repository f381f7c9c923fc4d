use Rattle.class_counts.proofs.FewClasses.{few_classes}
use Rattle.class_counts.proofs.few_classes.Goals as goal

pub returns : goal.returns
returns c = few_classes
