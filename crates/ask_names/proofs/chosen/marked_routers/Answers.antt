use Rattle.std.proofs.Common.{false, not, ◌&&◌, length, sym, subst}
use Rattle.std.specs.Prelude.{slice_index_or}
use Rattle.base_kit.specs.Sets.{IsAscending}
use Rattle.ask_names.proofs.Loops.{numbers_ascend}
use Rattle.ask_names.proofs.chosen.marked_routers.Goals as goal

pub from_ascending-requires : goal.from_ascending-requires
from_ascending-requires c =
    subst IsAscending (sym c.in_ok-places.ensures)
    (numbers_ascend (λ u. slice_index_or c.args.marks.now u false && not (slice_index_or c.args.down.now u false)) 0 (length c.args.marks.now))
