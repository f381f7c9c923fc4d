use Rattle.std.proofs.Common.{◌≡◌, Some, slice_get}
use Rattle.dd_core.specs.declared.table.Node.TheVariants.{Choice}
use Rattle.dd_core.proofs.IteLemmas.{choice_sons}
use Rattle.dd_core.proofs.build.sons.Goals as goal

pub returns-in-Choice : goal.returns-in-Choice
returns-in-Choice c =
    let at : slice_get c.args.table.now c.args.place ≡ Some (Choice c.args.variable c.in-Choice.high c.in-Choice.low) =
    rw c.if-other-variable.true at c.in-Choice.ensures in
    choice_sons _ _ _ _ _ c.requires.store at
