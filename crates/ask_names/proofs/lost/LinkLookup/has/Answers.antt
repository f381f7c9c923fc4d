use Rattle.std.proofs.Common.{subst}
use Rattle.ask_names.specs.LinkLookups.{LooksUp}
use Rattle.ask_names.proofs.lost.LinkLookup.has.Goals as goal

pub returns-in-Hashed : goal.returns-in-Hashed
returns-in-Hashed c = λ items looks. c.is_among_pairs.ensures items (subst (λ lookup. LooksUp lookup items) c.in-Hashed.is looks)
