use Rattle.cfg_round_trip.proofs.NetworkBack.{printed_is_read_back}
use Rattle.cfg_round_trip.proofs.printed_is_read_back.Goals as goal

pub returns : goal.returns
returns c = printed_is_read_back
