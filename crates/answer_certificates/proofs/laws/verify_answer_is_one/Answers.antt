use Rattle.std.proofs.Common.{refl}
use Rattle.cfg_ast.specs.meaning.Classes.{classes_of}
use Rattle.answer_kit.specs.ClassNumbers.{class_at}
use Rattle.answer_kit.proofs.OneClass.{one_of_class}
use Rattle.answer_certificates.specs.Verified.{IsVerifyOf}
use Rattle.answer_certificates.proofs.OneVerify.{one_verify}
use Rattle.answer_certificates.proofs.laws.verify_answer_is_one.Goals as goal

pub returns : goal.returns
returns c = λ n number second told o p x y.
    one_of_class n (IsVerifyOf n second) (λ class has. one_verify n class has c.built_problem_is_one.ensures c.colors_are_aside.ensures second told) number
    (class_at (classes_of n) number) refl o p x y
