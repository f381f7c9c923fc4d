-- The problem of the network of the groups.
use Rattle.std.specs.Prelude.{Contains}
use Rattle.base_kit.specs.Prefixes.{Prefix}
use Rattle.cfg_check.specs.Faultless.{IsFaultless}
use Rattle.srp_core.specs.ProblemOf.{IsProblemOf}
use Rattle.config_emit.specs.Emitted.{emitted}
use Rattle.config_emit.specs.Laws.{IsPlan}
use Rattle.config_emit.specs.Plan.{Plan, small}

-- If no fault stands in the network of the groups, its problem for every prefix of the class is that of
-- the groups.
abbrev pub EmittedHasProblem : Type 0
EmittedHasProblem = (e : Plan) → IsPlan e → IsFaultless (emitted e) → (p : Prefix) → Contains e.class.prefixes p → IsProblemOf (emitted e) p (small e)
