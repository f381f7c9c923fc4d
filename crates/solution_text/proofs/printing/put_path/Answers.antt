use Rattle.std.proofs.Common.{◌++◌, ◌∙◌, append-nil, ap, sym, arith, get_or, List, ℕ, string_bytes}
use Rattle.std.proofs.lemmas.List.{drop_all, get_or_default}
use Rattle.printed_words.specs.Spaced.{spaced_words}
use Rattle.solution_text.specs.Printed.{path_words}
use Rattle.solution_text.proofs.Written.{run_at, run_inside, written_run, no_path}
use Rattle.solution_text.proofs.printing.put_path.Goals as goal

pub loop-from-preserved : goal.loop-from-preserved
loop-from-preserved c =
    let path = c.args.path.now in
    let from = c.loop-from.from in
    let count = c.run_length-count.result in
    let number = get_or path from 0 in
    let run = run_at path from number count c.loop-from-test.true (get_or_default path from 0 number c.loop-from-test.true) c.run_length-count.ensures.value in
    record {
      inside = run_inside path from count c.loop-from.invariant.inside c.run_length-count.ensures.bound;
      written = written_run (string_bytes c.loop-from.text) (string_bytes c.put_run.new.text) path from number count _ run c.in_ok-put_run.ensures
          c.loop-from.invariant.written;
    }

pub loop-from-smaller : goal.loop-from-smaller
loop-from-smaller c =
    let path = c.args.path.now in
    let from = c.loop-from.from in
    let count = c.run_length-count.result in
    let number = get_or path from 0 in
    let some = (run_at path from number count c.loop-from-test.true (get_or_default path from 0 number c.loop-from-test.true)
    c.run_length-count.ensures.value).some in
    omega (arith, some, c.loop-from-test.true)

pub returns : goal.returns
returns c =
    let rest = drop_all c.loop-from.from c.args.path.now c.loop-from-test.false in
    let none = ap (λ (xs : List ℕ). string_bytes c.loop-from.text ++ spaced_words (path_words xs)) rest
    ∙ ap (λ (ws : List (List ℕ)). string_bytes c.loop-from.text ++ spaced_words ws) no_path ∙ append-nil (string_bytes c.loop-from.text) in
    sym none ∙ c.loop-from.invariant.written
