use Rattle.std.proofs.Common.{◌≡◌, ◌+◌, ◌<◌, ◌≤◌, ◌∷◌, ◌++◌, [], length, take, sym, ap, subst, ◌∙◌, arith}
use Rattle.std.proofs.lemmas.List.{take_more, take_all}
use Rattle.numbered_names.specs.NamePlaces.{ArePlacesOf}
use Rattle.named_lists.proofs.places.table_of.Goals as goal

pub loop-place-preserved : goal.loop-place-preserved
loop-place-preserved g c =
    let items = c.args.items.now in
    let place = c.loop-place.place in
    let item = c.index-items-place.result in
    let less : place < length items = omega (arith, c.loop-place-test.true) in
    let next : take (place + 1) items ≡ c.before-in-loop-place.result.now ++ item ∷ [] = take_more items place item less
    ∙ ap (λ x. take place items ++ x ∷ []) (sym c.index-items-place.is) ∙ ap (λ xs. xs ++ item ∷ []) (sym c.before-in-loop-place.ensures) in
    record {
      inside = omega (arith, less);
      noted = subst (λ xs. ArePlacesOf g.T.HasName.name c.note.new.self xs) (sym next) c.in_ok-note.ensures.ok;
    }

pub returns : goal.returns
returns g c =
    let items = c.args.items.now in
    let whole : length items ≤ c.loop-place.place = omega (arith, c.loop-place-test.false) in
    subst (λ xs. ArePlacesOf g.T.HasName.name c.loop-place.table xs) (take_all c.loop-place.place items whole) c.loop-place.invariant.noted
