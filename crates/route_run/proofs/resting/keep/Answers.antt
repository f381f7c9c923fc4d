use Rattle.std.proofs.Common.{refl, arith}
use Rattle.route_run.proofs.KnownRests.{state_kept}
use Rattle.route_run.proofs.resting.keep.Goals as goal

pub index_mut-requires : goal.index_mut-requires
index_mut-requires c = let total = c.requires.state.total in let inside = c.requires.router in omega (arith, total, inside)

pub returns-clause-state : goal.returns-clause-state
returns-clause-state c = state_kept c.args.runner.now c.args.state.now _ c.args.router c.requires.state c.requires.keeps refl refl
