use Rattle.cfg_round_trip.proofs.NetworkBack.{given_lines_are_short}
use Rattle.cfg_round_trip.proofs.given_lines_are_short.Goals as goal

pub returns : goal.returns
returns c = given_lines_are_short
