use Rattle.cfg_round_trip.proofs.Numbers.{numbers_are_aside}
use Rattle.cfg_round_trip.proofs.numbers_are_aside.Goals as goal

pub returns : goal.returns
returns c = numbers_are_aside
