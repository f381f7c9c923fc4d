use Rattle.std.proofs.Common.{◌++◌, List, ℕ, refl, ap, ◌∙◌}
use Rattle.std.specs.Prelude.{string_bytes}
use Rattle.solution_answers.proofs.Appended.{all_seen, count_written}
use Rattle.solution_answers.proofs.counting.put_count.Goals as goal

pub returns : goal.returns
returns c =
    let ends = c.in_ok-search.ensures.ends refl in
    let old = c.args.bytes.now.items in
    count_written c.args.srp.now c.args.number c.search.new.visitor.count ends.0 old c.put.new.bytes.items (string_bytes c.in_ok-line.line)
    (all_seen c.args.srp.now ends.0 c.in_ok-search.field-0 ends.2) ends.1 c.in_ok-line.ensures
    (c.in_ok-put.ensures ∙ ap (λ (t : List ℕ). old ++ t) c.as_bytes.ensures.value)
