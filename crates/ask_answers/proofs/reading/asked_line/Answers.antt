use Rattle.std.proofs.Common.{ap, sym, ◌∙◌, subst, List, ℕ}
use Rattle.std.specs.Prelude.{codes}
use Rattle.std.specs.Option.{option_map}
use Rattle.ask_requests.specs.Faults.{fault_kind, IsSpanOf}
use Rattle.ask_answers.specs.Questions.{kind_of_request, questions_reason}
use Rattle.ask_answers.proofs.reading.asked_line.Goals as goal

pub returns-in_default : goal.returns-in_default
returns-in_default c =
    let network = c.args.checked.now.network in
    record {
      kind = codes "BadForm";
      fault = ap (kind_of_request network) (sym c.in_ok-request.ensures ∙ c.in_default.is);
      reason_is = c.in_ok-reason.ensures;
    }

pub returns-in_ok-reason-in-Err : goal.returns-in_ok-reason-in-Err
returns-in_ok-reason-in-Err c =
    let network = c.args.checked.now.network in
    record {
      kind = fault_kind c.in-Err.fault;
      fault = ap (kind_of_request network) (sym c.in_ok-request.ensures ∙ c.in-Some.is)
          ∙ ap (option_map fault_kind) (subst (IsSpanOf network c.in-Some.request) c.in-Err.is c.in_ok-span.ensures);
      reason_is = c.in_ok-reason-in-Err.ensures ∙ ap (λ (kind : List ℕ). questions_reason c.args.line.now.number kind) c.kind.ensures;
    }
