use Rattle.std.proofs.Common.{◌≡◌, ◌+◌, arith, ap, sym, ◌∙◌, subst, refl, length, map, ℕ, Err}
use Rattle.cfg_ast.specs.text.TextLines.{text_line}
use Rattle.cfg_ast.specs.text.Lines.{begins_line}
use Rattle.cfg_ast.specs.text.Members.{all_lines_of}
use Rattle.cfg_ast.proofs.Pieces.{begins_next}
use Rattle.numbered_names.specs.NamePlaces.{place_in}
use Rattle.cut_certificate.specs.Texts.{Standing, opening, ended, certificate_from}
use Rattle.cut_certificate.specs.declared.certificate.Certificate.{Certificate}
use Rattle.cut_certificate.specs.declared.refusal.CutRefusal.{CutRefusal}
use Rattle.cut_certificate.specs.Answers.{Verifies}
use Rattle.cfg_lex.proofs.LinesLeft.{Cut, count_left, none_counted, lines_counted}
use Rattle.cut_certificate.proofs.LinesLeft.{left_next, left_fault, none_left}
use Rattle.cut_certificate.proofs.Reached.{first_reached}
use Rattle.cut_certificate.proofs.StepsOf.{line_total}
use Rattle.cut_certificate.proofs.Verified.{verifies_same, stopped}
use Rattle.cut_certificate.proofs.reading.read_lines.Goals as goal

pub loop-from-init : goal.loop-from-init
loop-from-init c =
    let bs = c.args.bytes.now in
    let nothing = c.in_ok-standing.ensures in
    record {
      few = omega arith;
      inside = omega arith;
      begins = λ h. refl;
      left = omega (arith, lines_counted bs);
      total = ap (λ (s : Standing). length s.blocks.numbers) nothing ∙ (first_reached c.args.graph.now).total;
      answer = ap (certificate_from c.args.graph.now.edges (place_in c.args.places.now) (length (all_lines_of bs) + 1) (map (text_line bs) (all_lines_of bs)))
          nothing;
    }

pub loop-from-preserved : goal.loop-from-preserved
loop-from-preserved c =
    let bs = c.args.bytes.now in
    let cut : Cut bs c.loop-from.from c.newline_from-end.result c.without_return-upto.result = record {
      inside = c.loop-from-test.true;
      begins = c.loop-from.invariant.begins c.loop-from-test.true;
      to_newline = c.newline_from-end.ensures.place;
      less_return = c.without_return-upto.ensures.place;
      front = c.without_return-upto.ensures.bounds.0;
      short = omega arith;
    } in
    let n = c.loop-from.line + 1 in
    let edges = c.args.graph.now.edges in
    let routers = place_in c.args.places.now in
    record {
      few = omega arith;
      inside = omega arith;
      begins = λ h. ap (λ (e : ℕ). begins_line bs (e + 1)) c.newline_from-end.ensures.place
          ∙ begins_next bs c.loop-from.from c.loop-from-test.true (omega (arith, h, c.newline_from-end.ensures.place));
      left = omega (arith, count_left bs n c.loop-from.from c.newline_from-end.result c.without_return-upto.result cut, c.loop-from.invariant.left);
      total = line_total edges routers c.loop-from.standing c.in-Ok.more _ c.in-Ok.ensures ∙ c.loop-from.invariant.total;
      answer = sym (left_next edges routers (length (all_lines_of bs) + 1) bs n c.loop-from.from c.newline_from-end.result c.without_return-upto.result cut
          c.loop-from.standing c.in-Ok.more c.in-Ok.ensures) ∙ c.loop-from.invariant.answer;
    }

pub returns-in-Err : goal.returns-in-Err
returns-in-Err c =
    let bs = c.args.bytes.now in
    let cut : Cut bs c.loop-from.from c.newline_from-end.result c.without_return-upto.result = record {
      inside = c.loop-from-test.true;
      begins = c.loop-from.invariant.begins c.loop-from-test.true;
      to_newline = c.newline_from-end.ensures.place;
      less_return = c.without_return-upto.ensures.place;
      front = c.without_return-upto.ensures.bounds.0;
      short = omega arith;
    } in
    let n = c.loop-from.line + 1 in
    let edges = c.args.graph.now.edges in
    let routers = place_in c.args.places.now in
    let P : CutRefusal → Type 0 = λ e. Verifies {X = Certificate} (Err e)
    (certificate_from edges routers (length (all_lines_of bs) + 1) (map (text_line bs) (all_lines_of bs)) (opening c.args.graph.now)) in
    subst P (sym c.refused_at.ensures)
    (stopped n c.in-Err.stop _ _
    (λ kind e. sym c.loop-from.invariant.answer ∙ left_fault edges routers (length (all_lines_of bs) + 1) bs n c.loop-from.from c.newline_from-end.result
    c.without_return-upto.result cut c.loop-from.standing kind e)
    c.in-Err.ensures)

pub returns : goal.returns
returns c =
    let bs = c.args.bytes.now in
    let last = length (all_lines_of bs) + 1 in
    let at : last ≡ c.loop-from.line + 1 = omega (
      arith,
      c.loop-from.invariant.left,
      none_counted bs (c.loop-from.line + 1) c.loop-from.from c.loop-from-test.false,
    ) in
    let s = c.loop-from.standing in
    verifies_same c.ended.result _
    (sym c.loop-from.invariant.answer ∙ none_left c.args.graph.now.edges (place_in c.args.places.now) last bs (c.loop-from.line + 1) c.loop-from.from s
    c.loop-from-test.false ∙ ap (λ (n : ℕ). ended n s s.stage) at ∙ sym c.ended.ensures)
