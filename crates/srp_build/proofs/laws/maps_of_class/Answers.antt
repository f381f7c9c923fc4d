use Rattle.srp_build.proofs.MapsOfClass as lemmas
use Rattle.srp_build.proofs.laws.maps_of_class.Goals as goal

pub returns : goal.returns
returns c = lemmas.maps_of_class
