use Rattle.std.proofs.Common.{arith}
use Rattle.numbered_names.proofs.Positions.{are_below}
use Rattle.route_run.proofs.reading.activation_of.Goals as goal

pub number_of_word-requires : goal.number_of_word-requires
number_of_word-requires c = λ name place is. omega (
  arith,
  are_below (λ text. text) c.args.places.now c.args.names.now c.requires.places name place is,
  c.requires.few,
)
