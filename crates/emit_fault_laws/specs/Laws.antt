-- The network of the groups has no fault of meaning.
use Rattle.cfg_check.specs.Faultless.{IsFaultless}
use Rattle.config_emit.specs.Emitted.{emitted}
use Rattle.config_emit.specs.Laws.{IsPlan}
use Rattle.config_emit.specs.Plan.{Plan}

-- No fault stands in it.
abbrev pub EmittedIsFaultless : Type 0
EmittedIsFaultless = (e : Plan) → IsPlan e → IsFaultless (emitted e)
