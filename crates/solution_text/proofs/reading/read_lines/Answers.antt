use Rattle.std.proofs.Common.{◌≡◌, ◌+◌, arith, ap, sym, ◌∙◌, refl, length, map, ℕ, Bool, false, None, Err}
use Rattle.std.proofs.Math.ListN.{length-replicate}
use Rattle.cfg_ast.specs.text.TextLines.{text_line}
use Rattle.cfg_ast.specs.text.Lines.{begins_line}
use Rattle.cfg_ast.specs.text.Members.{all_lines_of}
use Rattle.cfg_ast.proofs.Pieces.{begins_next}
use Rattle.solution_text.specs.declared.refusal.SolKind.TheVariants.{Missing}
use Rattle.solution_text.specs.declared.refusal.SolRefusal.TheVariants.{At}
use Rattle.solution_text.specs.Solutions.{labels_unless}
use Rattle.numbered_names.specs.NamePlaces.{place_in}
use Rattle.solution_text.specs.Steps.{LabelsSoFar, answer_from}
use Rattle.cfg_lex.proofs.LinesLeft.{Cut, count_left, none_counted, lines_counted}
use Rattle.solution_text.proofs.LinesLeft.{left_next, left_fault, none_left, words_count, refused_too}
use Rattle.solution_text.proofs.reading.read_lines.Goals as goal

pub loop-from-init : goal.loop-from-init
loop-from-init c =
    let bs = c.args.bytes.now in
    let nothing = c.in_ok-said.ensures in
    let count : length c.in_ok-said.said.seen ≡ c.args.count = ap (λ (s : LabelsSoFar). length s.seen) nothing
    ∙ length-replicate {A = Bool} c.args.count false in
    record {
      few = omega arith;
      inside = omega arith;
      begins = λ h. refl;
      left = omega (arith, lines_counted bs);
      within = λ wanted place at. (let lt = c.requires.within wanted place at in omega (arith, lt, count));
      answer = ap (answer_from c.args.protocol (place_in c.args.places.now) (length (all_lines_of bs) + 1) (map (text_line bs) (all_lines_of bs))) nothing;
    }

pub loop-from-preserved : goal.loop-from-preserved
loop-from-preserved c =
    let bs = c.args.bytes.now in
    let cut : Cut bs c.loop-from.from c.newline_from-end.result c.without_return-upto.result = record {
      inside = c.loop-from-test.true;
      begins = c.loop-from.invariant.begins c.loop-from-test.true;
      to_newline = c.newline_from-end.ensures.place;
      less_return = c.without_return-upto.ensures.place;
      front = c.without_return-upto.ensures.bounds.0;
      short = omega arith;
    } in
    let n = c.loop-from.line + 1 in
    let place_of = place_in c.args.places.now in
    record {
      few = omega arith;
      inside = omega arith;
      begins = λ h. ap (λ (e : ℕ). begins_line bs (e + 1)) c.newline_from-end.ensures.place
          ∙ begins_next bs c.loop-from.from c.loop-from-test.true (omega (arith, h, c.newline_from-end.ensures.place));
      left = omega (arith, count_left bs n c.loop-from.from c.newline_from-end.result c.without_return-upto.result cut, c.loop-from.invariant.left);
      within = λ wanted place at. (let lt = c.loop-from.invariant.within wanted place at in let same =
          words_count c.args.protocol place_of n c.loop-from.said _ c.in-Ok.more c.in-Ok.ensures in omega (arith, lt, same));
      answer = sym (left_next c.args.protocol place_of (length (all_lines_of bs) + 1) bs n c.loop-from.from c.newline_from-end.result
          c.without_return-upto.result cut c.loop-from.said c.in-Ok.more c.in-Ok.ensures) ∙ c.loop-from.invariant.answer;
    }

pub returns-in-Err : goal.returns-in-Err
returns-in-Err c =
    let bs = c.args.bytes.now in
    let cut : Cut bs c.loop-from.from c.newline_from-end.result c.without_return-upto.result = record {
      inside = c.loop-from-test.true;
      begins = c.loop-from.invariant.begins c.loop-from-test.true;
      to_newline = c.newline_from-end.ensures.place;
      less_return = c.without_return-upto.ensures.place;
      front = c.without_return-upto.ensures.bounds.0;
      short = omega arith;
    } in
    let place_of = place_in c.args.places.now in
    let last = length (all_lines_of bs) + 1 in
    refused_too c.in-Err.refusal _ _ (λ fault e. sym c.loop-from.invariant.answer
    ∙ left_fault c.args.protocol place_of last bs (c.loop-from.line + 1) c.loop-from.from c.newline_from-end.result c.without_return-upto.result cut
    c.loop-from.said fault e) c.in-Err.ensures

pub returns-in-Some : goal.returns-in-Some
returns-in-Some c =
    let bs = c.args.bytes.now in
    let place_of = place_in c.args.places.now in
    let last = length (all_lines_of bs) + 1 in
    sym c.loop-from.invariant.answer ∙ none_left c.args.protocol place_of last bs (c.loop-from.line + 1) c.loop-from.from c.loop-from.said
    c.loop-from-test.false ∙ ap (labels_unless None last) (sym c.in-Some.ensures)

pub returns-in-None : goal.returns-in-None
returns-in-None c =
    let bs = c.args.bytes.now in
    let place_of = place_in c.args.places.now in
    let last = length (all_lines_of bs) + 1 in
    let at : last ≡ c.loop-from.line + 1 = omega (
      arith,
      c.loop-from.invariant.left,
      none_counted bs (c.loop-from.line + 1) c.loop-from.from c.loop-from-test.false,
    ) in
    sym c.loop-from.invariant.answer ∙ none_left c.args.protocol place_of last bs (c.loop-from.line + 1) c.loop-from.from c.loop-from.said
    c.loop-from-test.false ∙ ap (labels_unless None last) (sym c.in-None.ensures) ∙ ap (λ (n : ℕ). Err (At n Missing)) at
