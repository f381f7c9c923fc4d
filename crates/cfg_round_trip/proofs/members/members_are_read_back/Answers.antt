use Rattle.cfg_round_trip.proofs.MemberLaw.{members_back}
use Rattle.cfg_round_trip.proofs.members.members_are_read_back.Goals as goal

pub returns : goal.returns
returns c = members_back
