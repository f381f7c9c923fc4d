-- A command has one answer to a network, the number of a class and a solution that is known.
use Rattle.std.proofs.Common.{refl}
use Rattle.cfg_ast.specs.meaning.Classes.{classes_of}
use Rattle.answer_kit.specs.ClassNumbers.{class_at}
use Rattle.answer_kit.proofs.OneClass.{one_of_class}
use Rattle.answer_solutions.specs.Checks.{IsCheckOf}
use Rattle.answer_solutions.specs.OneAnswer.{CheckAnswerIsOne}
use Rattle.answer_solutions.proofs.OneCheck.{one_check}

pub check_answer_is_one : CheckAnswerIsOne
check_answer_is_one n number second told o p x y = one_of_class n (IsCheckOf n second) (λ class c. one_check n class c second told) number
    (class_at (classes_of n) number) refl o p x y
