use Rattle.std.proofs.Common.{◌∙◌, sym, ap, subst, arith, Result}
use Rattle.std.specs.Prelude.{bytes_eq}
use Rattle.cfg_ast.specs.text.Lines.{words_of}
use Rattle.cut_certificate.specs.declared.refusal.CutKind.{CutKind}
use Rattle.cut_certificate.specs.Answers.{Steps}
use Rattle.numbered_names.specs.NamePlaces.{place_in}
use Rattle.cut_certificate.specs.Texts.{Standing}
use Rattle.cut_certificate.proofs.GroupLines.{group_line}
use Rattle.cut_certificate.proofs.lines.with_line.Goals as goal

pub with_group-requires-clause-places : goal.with_group-requires-clause-places
with_group-requires-clause-places c = λ name place is. omega (arith, c.requires.within name place is, c.requires.total, c.requires.few)

pub returns-then-eq-3 : goal.returns-then-eq-3
returns-then-eq-3 c =
    let word = c.in-Some.word.now in
    let P : Result Standing CutKind → Type 0 = λ r. Steps c.with_group.result r in
    subst P
    (sym (group_line c.args.graph.now.edges (place_in c.args.places.now) c.args.standing (words_of c.args.line.now) word (words_of c.in-Some.rest.now)
    c.in-Some.ensures.words
    (ap (bytes_eq word) (sym c.as_slice.ensures) ∙ sym c.if-eq.ensures)
    (ap (bytes_eq word) (sym c.as_slice-2.ensures) ∙ sym c.if-eq-2.ensures)
    (ap (bytes_eq word) (sym c.as_slice-3.ensures) ∙ sym c.if-eq-3.ensures)))
    c.with_group.ensures
