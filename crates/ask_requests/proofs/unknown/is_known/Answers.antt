use Rattle.std.proofs.Common.{ap, ◌∙◌}
use Rattle.std.specs.Option.{is_some}
use Rattle.ask_names.proofs.Names.{placed_among}
use Rattle.ask_requests.proofs.unknown.is_known.Goals as goal

pub returns : goal.returns
returns c = c.is_some.ensures ∙ ap is_some c.place_of.ensures ∙ placed_among c.args.places.now c.args.network.now.routers c.args.name.now c.requires
