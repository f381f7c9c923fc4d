use Rattle.answer_kit.proofs.OneClass.{some_prefix}
use Rattle.class_laws.proofs.OneProblem.{one_problem}
use Rattle.class_laws.proofs.built_problem_is_one.Goals as goal

pub returns : goal.returns
returns c = λ n class has first second x y.
    (let p = some_prefix n class has in
    one_problem n p.0 first second (x.of p.0 p.1) (y.of p.0 p.1) x.order y.order (x.acts p.0 p.1) (y.acts p.0 p.1))
