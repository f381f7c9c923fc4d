use Rattle.io_kit.specs.Ends.{Rose}
use Rattle.answer_kit.specs.Outcome.{Outcome}
use Rattle.answer_kit.specs.SecondFiles.{IsOfSecond}
use Rattle.answer_certificates.specs.Verified.{certificate_limit, long_certificate, IsVerdictOn, IsVerifyOf}
use Rattle.answer_kit.proofs.Replies.{answers_as}
use Rattle.answer_certificates.proofs.verify.answer.Goals as goal

pub returns-in-Ok-graph-clause-answers : goal.returns-in-Ok-graph-clause-answers
returns-in-Ok-graph-clause-answers g c =
    let files = c.args.files.now in
    let second = c.args.second.now in
    let problem = c.in-Ok.problem in
    let graph = c.in-Ok-graph.graph in
    let A : Outcome → Type 0 = IsOfSecond certificate_limit long_certificate (g.S.Source.contents files second) (IsVerdictOn problem graph) in
    let B : Outcome → Type 0 = IsVerifyOf c.args.checked.now.network (g.S.Source.contents files second) c.args.class.now in
    let rose = Rose (g.S.Source.faults files second) (g.S.Source.faults c.answer_of_graph.new.files second) in
    answers_as c.answer_of_graph.result A B ⊥ ⊥ rose rose
    (λ o verdict. record {
      problem = problem;
      graph = graph;
      are = record { built = c.in-Ok.ensures; of_problem = c.in-Ok-graph.ensures.graph };
      verdict =
          verdict;
    })
    (λ e. e) (λ r. r) c.answer_of_graph.ensures.answers
