use Rattle.cfg_ast.proofs.ClassFacts.{class_ascends}
use Rattle.dest_classes.proofs.laws.class_ascends.Goals as goal

pub returns : goal.returns
returns c = class_ascends
