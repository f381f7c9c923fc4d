use Rattle.certificate_round_trip.proofs.ReadBack.{printed_is_read_back}
use Rattle.certificate_round_trip.proofs.printed_is_read_back.Goals as goal

pub returns : goal.returns
returns c = printed_is_read_back
