use Rattle.std.proofs.Common.{length, ap, arith}
use Rattle.std.specs.Fmt.{decimal}
use Rattle.printed_words.proofs.LookedUp.{text_at, short}
use Rattle.printed_words.proofs.tables.octet_text.Goals as goal

pub returns-clause-text : goal.returns-clause-text
returns-clause-text c = text_at decimal c.octets.result.now 256 c.args.number _ c.octets.ensures (omega arith)

pub returns-clause-len : goal.returns-clause-len
returns-clause-len c = omega (arith, ap length (returns-clause-text c), short c.args.number (omega arith))
