use Rattle.srp_core.proofs.CandidateLists as lists
use Rattle.srp_core.proofs.Settled as settled_by
use Rattle.srp_core.proofs.laws.listed_candidates.Goals as goal

pub returns-clause-sound : goal.returns-clause-sound
returns-clause-sound c = λ problem labels u candidate i. lists.candidates_sound problem labels u candidate i

pub returns-clause-complete : goal.returns-clause-complete
returns-clause-complete c = λ problem labels u route candidate. lists.candidates_complete problem labels u route candidate

pub returns-clause-stable : goal.returns-clause-stable
returns-clause-stable c = λ problem labels fits settled. settled_by.settled_stable problem labels fits settled

pub returns-clause-settled : goal.returns-clause-settled
returns-clause-settled c = λ problem labels st u h. settled_by.stable_settled problem labels st u h
