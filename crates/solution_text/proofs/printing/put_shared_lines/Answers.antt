use Rattle.std.proofs.Common.{◌++◌, ◌∙◌, append-nil, [], ap, sym, arith, drop, List, ℕ, Option, string_bytes}
use Rattle.std.proofs.lemmas.List.{drop_all}
use Rattle.srp_core.specs.declared.route.Route.{Route}
use Rattle.solution_text.specs.Printed.{labels_text}
use Rattle.solution_text.proofs.Written.{no_lines, lines_written}
use Rattle.solution_text.proofs.printing.put_shared_lines.Goals as goal

pub loop-i-preserved : goal.loop-i-preserved
loop-i-preserved c =
    lines_written c.args.names.now c.args.labels.now c.loop-i.i c.index-names-i.result c.index-labels-i.result (string_bytes c.loop-i.text)
    (string_bytes c.put_shared_line.new.text) _ c.requires c.loop-i-test.true c.index-names-i.is c.index-labels-i.is
    c.in_ok-put_shared_line.ensures c.loop-i.invariant

pub returns : goal.returns
returns c =
    let names = drop_all c.loop-i.i c.args.names.now c.loop-i-test.false in
    let labels = drop_all c.loop-i.i c.args.labels.now (omega (arith, c.requires, c.loop-i-test.false)) in
    let none = ap (λ (xs : List (List ℕ)). string_bytes c.loop-i.text ++ labels_text xs (drop c.loop-i.i c.args.labels.now)) names
    ∙ ap (λ (xs : List (Option Route)). string_bytes c.loop-i.text ++ labels_text [] xs) labels
    ∙ ap (λ (xs : List ℕ). string_bytes c.loop-i.text ++ xs) no_lines ∙ append-nil (string_bytes c.loop-i.text) in
    sym none ∙ c.loop-i.invariant
