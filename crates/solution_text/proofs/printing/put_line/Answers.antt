use Rattle.std.proofs.Common.{◌++◌, ◌∙◌, ap, List, ℕ, string_bytes}
use Rattle.solution_text.proofs.Written.{line_written}
use Rattle.solution_text.proofs.printing.put_line.Goals as goal

pub returns : goal.returns
returns c =
    line_written (string_bytes c.args.text.now) (string_bytes c.push_str.new.self) (string_bytes c.put_label.new.text) (string_bytes c.push_str-2.new.self)
    c.args.name.now c.args.label.now
    (c.in_ok-push_str.ensures.bytes ∙ ap (λ (xs : List ℕ). string_bytes c.args.text.now ++ xs) c.as_str.ensures) c.in_ok-put_label.ensures
    c.in_ok-push_str-2.ensures.bytes
