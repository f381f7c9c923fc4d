use Rattle.cfg_ast.proofs.ClassFacts.{one_class, is_one_class}
use Rattle.dest_classes.proofs.laws.same_class_is_decided.Goals as goal

pub returns : goal.returns
returns c = λ network p q. (one_class network p q, is_one_class network p q)
