-- Answers for a problem that its quotient gives (Beckett, Gupta, Mahajan and Walker, Control Plane
-- Compression, SIGCOMM 2018, section 4).
use Rattle.std.specs.Prelude.{◌≡◌, ℕ, ◌<◌, List, map, Contains}
use Rattle.quotient_laws.specs.Questions.{IsQuotiented}
use Rattle.srp_core.specs.Problem.{Problem, count}
use Rattle.srp_core.specs.Quotient.{group_of}
use Rattle.srp_questions.specs.declared.question.Question.{Question}
use Rattle.srp_questions.specs.declared.question.Question.TheVariants as question
use Rattle.srp_questions.specs.declared.verdict.Verdict.{Verdict}
use Rattle.srp_questions.specs.Answers.{IsVerdict}
use Rattle.srp_questions.specs.Questions.{IsTrueIn, IsAskedOf, way_of}

-- the question with each router replaced by its group
abbrev pub in_groups : List ℕ → Question → Question
in_groups groups (question.Route routers) = question.Route (map (group_of groups) routers)
in_groups groups (question.Isolated routers) = question.Isolated (map (group_of groups) routers)
in_groups groups (question.Hops most routers) = question.Hops most (map (group_of groups) routers)
in_groups groups (question.Through way routers) = question.Through (map (group_of groups) way) (map (group_of groups) routers)
in_groups groups (question.Avoids way routers) = question.Avoids (map (group_of groups) way) (map (group_of groups) routers)
in_groups groups (question.Carries community routers) = question.Carries community (map (group_of groups) routers)
in_groups groups (question.Lacks community routers) = question.Lacks community (map (group_of groups) routers)

-- no group has routers inside and outside of these
abbrev pub AreWholeGroups : Problem → List ℕ → List ℕ → Type 0
AreWholeGroups problem groups way = (u v : ℕ) → u < count problem → v < count problem → group_of groups u ≡ group_of groups v → Contains way u → Contains way v

-- the two questions have the same verdicts
pub record HaveOneVerdict (first : Problem) (asked : Question) (second : Problem) (other : Question) : Type 0 where
  pub there : (verdict : Verdict) → IsVerdict first (IsTrueIn asked first) verdict → IsVerdict second (IsTrueIn other second) verdict
  pub back : (verdict : Verdict) → IsVerdict second (IsTrueIn other second) verdict → IsVerdict first (IsTrueIn asked first) verdict

-- The answer for a problem is that for its quotient by an admissible partition, each router replaced by
-- its group, where the way that is asked about is whole groups. The routers asked of may cut groups.
abbrev pub SmallAnswersForLarge : Type 0
SmallAnswersForLarge = (problem small : Problem) (groups : List ℕ) (asked : Question) → IsQuotiented problem small groups → IsAskedOf problem asked
    → AreWholeGroups problem groups (way_of asked) → HaveOneVerdict problem asked small (in_groups groups asked)
