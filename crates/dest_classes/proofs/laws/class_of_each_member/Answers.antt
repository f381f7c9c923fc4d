use Rattle.cfg_ast.proofs.ClassFacts.{class_of_each}
use Rattle.dest_classes.proofs.laws.class_of_each_member.Goals as goal

pub returns : goal.returns
returns c = class_of_each
