use Rattle.std.proofs.Common.{◌+◌, sym, ap, ◌∙◌, subst, arith, ℕ, length, map, List}
use Rattle.cfg_ast.specs.text.Members.{all_lines_of}
use Rattle.cfg_ast.specs.text.TextLines.{text_line}
use Rattle.numbered_names.specs.NamePlaces.{ArePlacesOf, place_in}
use Rattle.solution_text.specs.Steps.{nothing_said, answer_from}
use Rattle.solution_text.proofs.Judging.{answer_is}
use Rattle.solution_text.proofs.Kept.{labels_total, labels_routes}
use Rattle.solution_text.proofs.LinesLeft.{places_within, refused_too}
use Rattle.solution_text.proofs.reading.read_labels.Goals as goal

pub read_lines-requires-clause-within : goal.read_lines-requires-clause-within
read_lines-requires-clause-within c =
    let has = (subst (ArePlacesOf (λ (text : List ℕ). text) c.in_ok-places.places) c.as_slice.ensures c.in_ok-places.ensures).each in
    places_within c.args.names.now (place_in c.in_ok-places.places) c.len.result has c.len.ensures

pub read_lines-requires-clause-few : goal.read_lines-requires-clause-few
read_lines-requires-clause-few c = λ name place is. omega (arith, read_lines-requires-clause-within c name place is, c.len.ensures, c.requires.few)

pub returns-in-Ok-clause-exact : goal.returns-in-Ok-clause-exact
returns-in-Ok-clause-exact c =
    let bs = c.args.bytes.now in
    let names = c.args.names.now in
    let has = (subst (ArePlacesOf (λ (text : List ℕ). text) c.in_ok-places.places) c.as_slice.ensures c.in_ok-places.ensures).each in
    sym (answer_is c.args.protocol names c.requires.names (place_in c.in_ok-places.places) has bs)
    ∙ ap (λ (n : ℕ). answer_from c.args.protocol (place_in c.in_ok-places.places) (length (all_lines_of bs) + 1) (map (text_line bs) (all_lines_of bs))
    (nothing_said n)) (sym c.len.ensures) ∙ c.in-Ok.ensures

pub returns-in-Ok-clause-total : goal.returns-in-Ok-clause-total
returns-in-Ok-clause-total c = labels_total c.args.protocol c.args.names.now c.args.bytes.now c.in-Ok.labels (returns-in-Ok-clause-exact c)

pub returns-in-Ok-clause-routes : goal.returns-in-Ok-clause-routes
returns-in-Ok-clause-routes c = labels_routes c.args.protocol c.args.names.now c.args.bytes.now c.in-Ok.labels (returns-in-Ok-clause-exact c)
    c.as_slice-known.ensures.sets

pub returns-clause-exact : goal.returns-clause-exact
returns-clause-exact c =
    let bs = c.args.bytes.now in
    let names = c.args.names.now in
    let has = (subst (ArePlacesOf (λ (text : List ℕ). text) c.in_ok-places.places) c.as_slice.ensures c.in_ok-places.ensures).each in
    let same = ap (λ (n : ℕ). answer_from c.args.protocol (place_in c.in_ok-places.places) (length (all_lines_of bs) + 1) (map (text_line bs) (all_lines_of bs))
    (nothing_said n)) c.len.ensures ∙ answer_is c.args.protocol names c.requires.names (place_in c.in_ok-places.places) has bs in
    refused_too c.in-Err.refusal _ _ (λ fault e. sym same ∙ e) c.in-Err.ensures
