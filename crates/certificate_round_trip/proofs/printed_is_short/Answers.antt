use Rattle.certificate_round_trip.proofs.Short.{printed_is_short}
use Rattle.certificate_round_trip.proofs.printed_is_short.Goals as goal

pub returns : goal.returns
returns c = printed_is_short
