use Rattle.std.proofs.Common.{refl}
use Rattle.cfg_ast.specs.meaning.Classes.{classes_of}
use Rattle.answer_kit.specs.ClassNumbers.{class_at}
use Rattle.answer_kit.proofs.OneClass.{one_of_class}
use Rattle.answer_solutions.specs.Carries.{IsFoldOf}
use Rattle.answer_solutions.proofs.OneCarry.{one_fold}
use Rattle.answer_solutions.proofs.laws.fold_answer_is_one.Goals as goal

pub returns : goal.returns
returns c = λ n number second told o p x y.
    one_of_class n (IsFoldOf n second) (λ class has. one_fold n class has c.quotient_is_quotient.ensures c.built_problem_is_one.ensures c.folding_is_one.ensures
    second told) number (class_at (classes_of n) number) refl o p x y
