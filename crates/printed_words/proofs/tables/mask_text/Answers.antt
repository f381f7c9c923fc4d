use Rattle.std.proofs.Common.{ℕ, length, ap, arith}
use Rattle.cfg_ast.specs.text.Words.{mask_of}
use Rattle.cfg_ast.specs.printing.Printed.{address_text}
use Rattle.printed_words.proofs.LookedUp.{text_at, short_address, mask_fits}
use Rattle.printed_words.proofs.tables.mask_text.Goals as goal

pub returns-clause-text : goal.returns-clause-text
returns-clause-text c = text_at (λ (len : ℕ). address_text (mask_of len)) c.masks.result.now 33 c.args.len _ c.masks.ensures (omega arith)

pub returns-clause-len : goal.returns-clause-len
returns-clause-len c = omega (arith, ap length (returns-clause-text c), short_address (mask_of c.args.len) (mask_fits c.args.len))
