use Rattle.std.proofs.Common.{ap, Bool, Bor}
use Rattle.srp_questions.specs.declared.question.Question.{Question}
use Rattle.solution_answers.specs.Seen.{wants_more}
use Rattle.solution_answers.proofs.Solving.{unseen, seen_as, shown_no, answer_no, answer_all, shown_all}
use Rattle.solution_answers.proofs.answering.solved.Goals as goal

pub returns-in-Some : goal.returns-in-Some
returns-in-Some c =
    let problem = c.args.srp.now in
    let asked = c.args.question.now in
    let shows = c.args.shows in
    let ends = c.in_ok-ending.ensures.ends (unseen problem asked shows) in
    let seen = seen_as problem _ asked _ shows _ _ _ ends.0 c.in_ok-ending.ensures.problem
    (ap (λ (t : Bor Question × Bool). t.0.now) c.in_ok-ending.ensures.task)
    (ap (λ (t : Bor Question × Bool). t.1) c.in_ok-ending.ensures.task) ends.1 in
    let failure = rw c.in-Some.is at seen.fails in
    record {
      answer = answer_no problem asked shows c.in-Some.shown.items failure;
      shown = shown_no problem asked shows c.in-Some.shown.items failure;
    }

pub returns : goal.returns
returns c =
    let problem = c.args.srp.now in
    let asked = c.args.question.now in
    let shows = c.args.shows in
    let ends = c.in_ok-ending.ensures.ends (unseen problem asked shows) in
    let seen = seen_as problem _ asked _ shows _ _ _ ends.0 c.in_ok-ending.ensures.problem
    (ap (λ (t : Bor Question × Bool). t.0.now) c.in_ok-ending.ensures.task)
    (ap (λ (t : Bor Question × Bool). t.1) c.in_ok-ending.ensures.task) ends.1 in
    let last = rw c.in-All.is at ends.2 in
    record {
      answer = answer_all problem asked ends.0 (wants_more c.search.new.visitor.failed) c.keys_decide.ensures c.count-known.ensures.rules shows
          c.search.new.visitor.some c.search.new.visitor.failed seen c.in_default.is c.in-All.tie last
          c.verdict_of.result c.verdict_of.ensures;
      shown = shown_all problem asked shows c.search.new.visitor.some c.new.result.items c.new.ensures.items c.verdict_of.result c.verdict_of.ensures;
    }
