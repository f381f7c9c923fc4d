use Rattle.std.proofs.Common.{◌≡◌, drop}
use Rattle.config_emit.specs.BgpSteps.{first_among}
use Rattle.config_emit.proofs.as_numbers.first_among.Given as goal

abbrev pub invariant-loop-place : goal.invariant-loop-place
invariant-loop-place l = first_among l.numbers (drop l.place-index l.places) ≡ first_among l.numbers l.places
