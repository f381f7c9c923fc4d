use Rattle.std.proofs.Common.{◌++◌, ℕ, List, ap, ◌∙◌}
use Rattle.std.specs.Prelude.{string_bytes}
use Rattle.solution_answers.proofs.Tellings.{told_more}
use Rattle.solution_answers.proofs.solutions.TellerVisitor.see.Goals as goal

pub returns-clause-saw : goal.returns-clause-saw
returns-clause-saw c = λ found before.
    (let self = c.args.self.now in
    told_more self.srp.now self.told self.one self.number self.count c.in-Some.index self.bytes.items c.put.new.bytes.items c.put-2.new.bytes.items
    (string_bytes c.in_ok-head.head) c.in_ok-text.text.items found c.args.labels.now c.in-Some.ensures.1 c.in_ok-head.ensures
    (c.in_ok-put.ensures ∙ ap (λ (t : List ℕ). self.bytes.items ++ t) c.as_bytes.ensures.value)
    (c.in_ok-put-2.ensures ∙ ap (λ (t : List ℕ). c.put.new.bytes.items ++ t) c.deref.ensures.value) c.in_ok-text.ensures before)
