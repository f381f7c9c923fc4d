use Rattle.cfg_round_trip.proofs.ShortLines.{lines_are_short}
use Rattle.cfg_round_trip.proofs.short_names_give_short_lines.Goals as goal

pub returns : goal.returns
returns c = lines_are_short
