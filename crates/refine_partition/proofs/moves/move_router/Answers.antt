use Rattle.refine_partition.proofs.MoveLemmas.{listed_moved, moved_here}
use Rattle.refine_partition.proofs.moves.move_router.Goals as goal

pub returns-in_ok-push-clause-listed : goal.returns-in_ok-push-clause-listed
returns-in_ok-push-clause-listed c = listed_moved _ _ _ _ _ _ _ c.requires.listed c.requires.number c.requires.router (moved_here _ _ _ c.requires.router)
    c.index_mut.ensures.value c.in_ok-push.ensures.items
