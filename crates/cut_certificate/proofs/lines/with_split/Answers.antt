use Rattle.std.proofs.Common.{arith}
use Rattle.cut_certificate.proofs.lines.with_split.Goals as goal

pub number_of_word-requires : goal.number_of_word-requires
number_of_word-requires c = λ name place is. omega (arith, c.requires.within name place is, c.requires.total, c.requires.few)
