use Rattle.std.proofs.Common.{◌≡◌, [], ◌++◌, map, drop}
use Rattle.std.specs.Prelude.{slice_index_or}
use Rattle.config_emit.proofs.groups.names_at.Given as goal

abbrev pub invariant-loop-place : goal.invariant-loop-place
invariant-loop-place l = l.found ++ map (λ u. slice_index_or l.names u []) (drop l.place-index l.places) ≡ map (λ u. slice_index_or l.names u []) l.places
