-- What may be concluded from the small network: what its solutions show of groups, and three questions of the field.
use Rattle.std.specs.Prelude.{ℕ, List, Contains}
use Rattle.base_kit.specs.Prefixes.{Prefix}
use Rattle.cfg_ast.specs.declared.classes.DestClass.{DestClass}
use Rattle.cfg_ast.specs.declared.network.Network.{Network}
use Rattle.quotient_laws.specs.Questions.{of_picture, HasOneAnswer, HaveSamePictures, Picture, QuestionsAgree}
use Rattle.srp_core.specs.Problem.{Problem}
use Rattle.srp_core.specs.ProblemOf.{IsProblemOf}
use Rattle.srp_core.specs.Quotient.{IsCoarsest, IsQuotient}
use Rattle.workflow_laws.specs.Setting.{Contents, IsCompressed}

-- A problem of the large network and one of the small, whose routers are the coarsest groups of the large one's: each
-- stable solution of either shows the same of the groups as some stable solution of the other. Reachability, path
-- lengths and waypoints, asked of routers above and of groups below, have one answer.
pub record AnswerAlike (problem small : Problem) (groups : List ℕ) : Type 0 where
  pub coarsest : IsCoarsest problem groups
  pub quotient : IsQuotient problem groups small
  pub pictures : HaveSamePictures problem small groups
  pub questions : QuestionsAgree problem small groups

-- both networks have a problem for the prefix
pub record HaveProblems (large small : Network) (p : Prefix) : Type 0 where
  pub above : Problem
  pub below : Problem
  pub of_large : IsProblemOf large p above
  pub of_small : IsProblemOf small p below

-- The class has a prefix, and for each of its prefixes both networks have a problem. Whichever problems
-- they have answer alike.
pub record AnswersFor (large small : Network) (class : DestClass) : Type 0 where
  pub some : Prefix
  pub some_in : Contains class.prefixes some
  pub groups : List ℕ
  pub have : (p : Prefix) → Contains class.prefixes p → HaveProblems large small p
  pub alike : (p : Prefix) → Contains class.prefixes p
      → (above below : Problem) → IsProblemOf large p above → IsProblemOf small p below → AnswerAlike above below groups

-- The network of G answers for that of F.
abbrev pub SmallAnswersForLarge : Type 0
SmallAnswersForLarge = (contents : Contents) (F G : List ℕ) (N K : ℕ)
    → (c : IsCompressed contents F N G K) → AnswersFor c.of_large.network c.of_small.network c.of_large.class

-- ---- any question

-- A problem of the large network and one of the small, whose routers are the coarsest groups of the
-- large one's: what is asked holds of every stable solution of the one exactly if it holds of every one
-- of the other, and of some exactly if it holds of some.
pub record AnswerOf (asks : Picture → Type 0) (problem small : Problem) (groups : List ℕ) : Type 0 where
  pub coarsest : IsCoarsest problem groups
  pub quotient : IsQuotient problem groups small
  pub one : HasOneAnswer problem small groups (of_picture asks)

-- so for each prefix of the class, whichever problems both networks have for it
pub record AnswersOf (asks : Picture → Type 0) (large small : Network) (class : DestClass) : Type 0 where
  pub groups : List ℕ
  pub alike : (p : Prefix) → Contains class.prefixes p
      → (above below : Problem) → IsProblemOf large p above → IsProblemOf small p below → AnswerOf asks above below groups

-- A question about a labelling that depends only on the keys that groups hold and on which groups
-- forward to which: the network of G gives the same answer as that of F.
abbrev pub EachQuestionCarries : (Picture → Type 0) → Type 0
EachQuestionCarries asks = (contents : Contents) (F G : List ℕ) (N K : ℕ)
    → (c : IsCompressed contents F N G K) → AnswersOf asks c.of_large.network c.of_small.network c.of_large.class
