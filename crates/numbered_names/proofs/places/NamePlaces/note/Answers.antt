use Rattle.std.proofs.Common.{◌≡◌, ℕ, List, None, Some, cond, length, string_bytes, sym, ap, ◌∙◌}
use Rattle.std.specs.Prelude.{bytes_eq, is_some}
use Rattle.std.proofs.lemmas.Map.Text.{hash_map_updates_text}
use Rattle.numbered_names.specs.NamePlaces.{place_in}
use Rattle.numbered_names.proofs.Firsts.{none_by}
use Rattle.numbered_names.proofs.Noted.{first_noted, again_noted}
use Rattle.numbered_names.proofs.places.NamePlaces.note.Goals as goal

pub returns-in_ok-insert-clause-ok : goal.returns-in_ok-insert-clause-ok
returns-in_ok-insert-clause-ok g c =
    let old = c.args.self.now in
    let items = c.args.items.now in
    let name = g.T.HasName.name c.args.item.now in
    let said : string_bytes c.in_ok-key.key ≡ name = c.in_ok-key.ensures.ok ∙ c.name-name.ensures in
    let none : place_in old name ≡ None = ap (place_in old) (sym c.name-name.ensures) ∙ sym c.place_of.ensures ∙ none_by _ c.if-is_none.ensures in
    first_noted g.T.HasName.name items c.args.item.now old (record { places = c.insert.new.self }) c.requires none (λ wanted.
    hash_map_updates_text (string_bytes c.in_ok-key.key) old.places c.insert.new.self (Some (length items)) c.in_ok-insert.ensures.updates wanted
    ∙ ap (λ (bs : List ℕ). cond (bytes_eq bs wanted) (Some (length items)) (place_in old wanted)) said)

pub returns-else-is_none-clause-ok : goal.returns-else-is_none-clause-ok
returns-else-is_none-clause-ok g c =
    let old = c.args.self.now in
    again_noted g.T.HasName.name c.args.items.now c.args.item.now old c.requires
    (ap is_some (ap (place_in old) (sym c.name-name.ensures) ∙ sym c.place_of.ensures) ∙ c.if-is_none.ensures)
