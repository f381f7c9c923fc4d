use Rattle.cfg_round_trip.proofs.NetworkBack.{given_is_read_back}
use Rattle.cfg_round_trip.proofs.given_is_read_back.Goals as goal

pub returns : goal.returns
returns c = given_is_read_back
