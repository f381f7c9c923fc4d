-- Public: from what is emitted of a class to what is to be reported.
use Rattle.std.proofs.Common.{◌≡◌, ℕ, List, Option, Result, Ok, Err, sym, subst}
use Rattle.cfg_ast.specs.declared.classes.DestClass.{DestClass}
use Rattle.cfg_ast.specs.declared.network.Network.{Network}
use Rattle.cfg_ast.specs.printing.Printed.{printed}
use Rattle.cfg_print.specs.Prints.{is_too_long}
use Rattle.config_emit.specs.Plan.{Plan}
use Rattle.config_emit.specs.Pool.{pool_line}
use Rattle.config_emit.specs.declared.emitted.EmitRefusal.{EmitRefusal}
use Rattle.config_emit.specs.declared.emitted.EmitRefusal.TheVariants.{PoolOverlap, Memory}
use Rattle.config_emit.specs.declared.emitted.Emitted.{Emitted}
use Rattle.srp_build.specs.Built.{IsBuiltFor}
use Rattle.srp_core.specs.Problem.{Problem}
use Rattle.driver.specs.Steps.{IsEmittedBy, IsEmittedOf, IsPlanWith}
use Rattle.driver.proofs.Emitting.{emitted_as}
use Rattle.answer_groups.specs.Compressing.{IsEmittedFor, IsTextOrRefusal}
use Rattle.answer_groups.specs.CompressText.{compressed_text, IsPlanOf, IsTextOr, IsTextOfPlan, IsUnlessPool}
use Rattle.answer_kit.specs.Outcome.{Outcome}

-- the plan with the problem that is built is the plan of the class
plan_of : (n : Network) (class : DestClass) (problem : Problem) → IsBuiltFor n class problem → (plan : Plan) → IsPlanWith n class problem plan
    → IsPlanOf n class plan
plan_of n class problem built plan is = record {
  network_is = is.network_is;
  class_is = is.class_is;
  built = subst (IsBuiltFor n class) (sym is.problem_is) built;
  coarsest = is.coarsest;
  numbered = is.numbered;
  links = is.links;
}

pub emitted_for : (n : Network) (class : DestClass) (problem : Problem) → IsBuiltFor n class problem → (answer : Result Emitted EmitRefusal)
    → IsEmittedOf n class problem answer → IsEmittedFor n class answer
emitted_for n class problem built answer of = emitted_as (IsPlanWith n class problem) (IsPlanOf n class) n class (plan_of n class problem built) answer of

-- the text of what is emitted of an allowed plan, or why there is none
pub told_of : (IsAllowed : Plan → Type 0) (n : Network) (class : DestClass) (answer : Result Emitted EmitRefusal) → IsEmittedBy IsAllowed n class answer
    → (o : Outcome) → IsTextOrRefusal answer o → IsUnlessPool (pool_line n class) (IsTextOfPlan IsAllowed) o
told_of IsAllowed n class (Ok x) of o is =
    let text : printed x.network x.notes ≡ compressed_text of.plan = λ j. printed (of.emitted.network j) (of.emitted.notes j) in
    let written = subst (λ (t : List ℕ). IsTextOr (is_too_long t) t o) text is in
    subst (λ (line : Option ℕ). IsUnlessPool line (IsTextOfPlan IsAllowed) o) (sym of.apart) (record { plan = of.plan; is = of.is; written = written })
told_of IsAllowed n class (Err (PoolOverlap line)) of o is = subst (λ (found : Option ℕ). IsUnlessPool found (IsTextOfPlan IsAllowed) o) (sym of) is
told_of IsAllowed n class (Err Memory) of o is = absurd is
