use Rattle.specialize.proofs.Within as within
use Rattle.specialize.proofs.laws.maps_stay_within.Goals as goal

pub returns : goal.returns
returns c = λ network router contained name list p inbound. within.maps_stay_within network router contained name list p inbound
