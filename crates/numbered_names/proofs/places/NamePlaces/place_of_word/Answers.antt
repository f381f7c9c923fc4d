use Rattle.std.proofs.Common.{sym}
use Rattle.numbered_names.proofs.Positions.{no_place}
use Rattle.numbered_names.proofs.places.NamePlaces.place_of_word.Goals as goal

pub returns-in-Err : goal.returns-in-Err
returns-in-Err c = sym (no_place c.args.self.now c.args.word.now c.in-Err.ensures.cases.0)
