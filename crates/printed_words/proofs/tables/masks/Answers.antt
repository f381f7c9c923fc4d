use Rattle.std.proofs.Common.{refl}
use Rattle.std.specs.Fmt.{digits}
use Rattle.cfg_ast.specs.printing.Printed.{address_text}
use Rattle.printed_words.proofs.tables.masks.Goals as goal

pub returns : goal.returns
unfolding digits address_text
returns c = refl
