use Rattle.std.proofs.Common.{◌++◌, ℕ, [], List, sym, ap, ◌∙◌, subst}
use Rattle.solution_answers.specs.Told.{HasTold}
use Rattle.solution_answers.proofs.Appended.{all_seen, texts_written, none_told, told_same}
use Rattle.solution_answers.proofs.solutions.put_solutions.Goals as goal

pub returns : goal.returns
returns c =
    let srp = c.args.srp.now in
    let start = subst (λ (b : List ℕ). HasTold srp c.args.told c.args.one c.args.number 0 b []) (sym c.new.ensures.items)
    (none_told srp c.args.told c.args.one c.args.number) in
    let ends = c.in_ok-search.ensures.ends start in
    let new = c.search.new.visitor in
    let told = told_same new.srp.now srp (new.told, new.one, new.number) (c.args.told, c.args.one, c.args.number) new.count new.bytes.items ends.0
    c.in_ok-search.ensures.problem c.in_ok-search.ensures.task ends.1 in
    texts_written srp c.args.told c.args.one c.args.number new.count ends.0 c.args.bytes.now.items c.put.new.bytes.items new.bytes.items
    (all_seen srp ends.0 c.in_ok-search.field-0 ends.2) told (c.in_ok-put.ensures ∙ ap (λ (t : List ℕ). c.args.bytes.now.items ++ t) c.deref.ensures.value)
