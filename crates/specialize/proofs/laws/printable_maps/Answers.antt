use Rattle.specialize.proofs.Printable as printable
use Rattle.specialize.proofs.laws.printable_maps.Goals as goal

pub returns : goal.returns
returns c = λ network router form defined single contained. printable.printable_maps network router form defined single contained
