use Rattle.std.proofs.Common.{refl}
use Rattle.std.specs.Fmt.{digits}
use Rattle.printed_words.proofs.tables.octets.Goals as goal

pub returns : goal.returns
unfolding digits
returns c = refl
