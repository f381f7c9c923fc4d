use Rattle.std.proofs.Common.{◌∙◌, sym, Some, None}
use Rattle.numbered_names.proofs.Positions.{item_found}
use Rattle.numbered_names.proofs.places.NamePlaces.item_named.Goals as goal

pub returns-in-Some : goal.returns-in-Some
returns-in-Some g c =
    c.item_at.ensures ∙ item_found g.T.HasName.name c.args.self.now c.args.items.now c.requires c.args.name.now (Some c.in-Some.place)
    (sym c.in-Some.is ∙ c.place_of.ensures)

pub returns-in-None : goal.returns-in-None
returns-in-None g c =
    item_found g.T.HasName.name c.args.self.now c.args.items.now c.requires c.args.name.now None (sym c.in-None.is ∙ c.place_of.ensures)
