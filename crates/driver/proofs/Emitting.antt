-- Public: from what `emit` answers to what is emitted of a problem. What is emitted stays allowed if
-- more plans are allowed.
use Rattle.std.proofs.Common.{ℕ, Result, Ok, Err, refl}
use Rattle.base_kit.specs.Partition.{IsNumbered}
use Rattle.cfg_ast.specs.declared.classes.DestClass.{DestClass}
use Rattle.cfg_ast.specs.declared.network.Network.{Network}
use Rattle.config_emit.specs.Answers.{Emits}
use Rattle.config_emit.specs.Plan.{Plan}
use Rattle.config_emit.specs.declared.emitted.EmitRefusal.{EmitRefusal}
use Rattle.config_emit.specs.declared.emitted.EmitRefusal.TheVariants.{PoolOverlap, Memory}
use Rattle.config_emit.specs.declared.emitted.Emitted.{Emitted}
use Rattle.srp_core.specs.Problem.{Problem}
use Rattle.driver.specs.declared.grouping.Grouping.{Grouping}
use Rattle.driver.specs.Steps.{IsGroupingOf, IsPlanWith, IsEmittedBy, IsEmittedOf}

-- the plan of a grouping with so many groups
abbrev pub plan_by : Network → DestClass → Grouping → ℕ → Plan
plan_by network class g count = record { network = network; class = class; problem = g.problem; groups = g.groups; count = count; links = g.quotient.links }

is_plan : (n : Network) (class : DestClass) (problem : Problem) (g : Grouping) (count : ℕ) → IsGroupingOf problem g → IsNumbered g.groups count
    → IsPlanWith n class problem (plan_by n class g count)
is_plan n class problem g count is numbered = record {
  network_is = refl;
  class_is = refl;
  problem_is = is.problem_is;
  coarsest = is.coarsest;
  numbered = numbered;
  links = is.links count numbered;
}

pub emitted_of : (n : Network) (class : DestClass) (problem : Problem) (g : Grouping) (count : ℕ) → IsGroupingOf problem g → IsNumbered g.groups count
    → (answer : Result Emitted EmitRefusal) → Emits answer (plan_by n class g count) → IsEmittedOf n class problem answer
emitted_of n class problem g count is numbered (Ok x) emits =
    record { apart = emits.apart; plan = plan_by n class g count; is = is_plan n class problem g count is numbered; emitted = emits }
emitted_of n class problem g count is numbered (Err (PoolOverlap line)) emits = emits
emitted_of n class problem g count is numbered (Err Memory) emits = tt

-- more plans are allowed
pub emitted_as : (A B : Plan → Type 0) (n : Network) (class : DestClass) → ((plan : Plan) → A plan → B plan) → (answer : Result Emitted EmitRefusal)
    → IsEmittedBy A n class answer → IsEmittedBy B n class answer
emitted_as A B n class more (Ok x) of = record { apart = of.apart; plan = of.plan; is = more of.plan of.is; emitted = of.emitted }
emitted_as A B n class more (Err (PoolOverlap line)) of = of
emitted_as A B n class more (Err Memory) of = tt
