use Rattle.specialize.proofs.AddNothing as adding
use Rattle.specialize.proofs.laws.in_maps_add_nothing.Goals as goal

pub returns : goal.returns
returns c = λ network router line none in_network in_router p. adding.in_maps_add_nothing network router line none in_network in_router p
