-- A command has one answer to a network, the number of a class and a second file that is known.
use Rattle.std.proofs.Common.{refl}
use Rattle.cfg_ast.specs.meaning.Classes.{classes_of}
use Rattle.answer_kit.specs.ClassNumbers.{class_at}
use Rattle.answer_kit.proofs.OneClass.{one_of_class}
use Rattle.answer_runs.specs.OneAnswer.{RunAnswerIsOne, ReachAnswerIsOne}
use Rattle.answer_runs.specs.Reaches.{IsReachOf}
use Rattle.answer_runs.specs.Schedules.{IsRunOf}
use Rattle.answer_runs.proofs.OneReach.{one_reach}
use Rattle.answer_runs.proofs.OneRun.{one_run}

pub run_answer_is_one : RunAnswerIsOne
run_answer_is_one n number second told o p x y = one_of_class n (IsRunOf n second) (λ class c. one_run n class c second told) number
    (class_at (classes_of n) number) refl o p x y

pub reach_answer_is_one : ReachAnswerIsOne
reach_answer_is_one n number second told o p x y = one_of_class n (IsReachOf n second) (λ class c. one_reach n class c second told) number
    (class_at (classes_of n) number) refl o p x y
