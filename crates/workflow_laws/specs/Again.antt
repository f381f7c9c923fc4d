-- Compressed again: the groups of the small network are its routers.
use Rattle.std.specs.Prelude.{◌≡◌, ℕ, List}
use Rattle.std.specs.List.{range_with_len}
use Rattle.cfg_ast.specs.declared.classes.DestClass.{DestClass}
use Rattle.cfg_ast.specs.declared.network.Network.{Network}
use Rattle.srp_core.specs.Problem.{Problem, count}
use Rattle.group_report.specs.GroupLines.{group_lines}
use Rattle.answer_kit.specs.Groups.{IsProblemOfClass}
use Rattle.answer_kit.specs.Outcome.{Outcome, done}
use Rattle.bonsai_top.specs.Outcomes.{IsOutcome}
use Rattle.workflow_laws.specs.Setting.{Contents, IsCompressed}
use Rattle.workflow_laws.specs.Words.{groups}

-- The outcome has a line for each router of the network, which is a group of its own: the first router is group 1, and
-- so on.
pub record PutsEachAlone (network : Network) (class : DestClass) (o : Outcome) : Type 0 where
  pub problem : Problem
  pub of_class : IsProblemOfClass network class problem
  pub told : o ≡ done (group_lines problem (range_with_len 0 (count problem)) (count problem))

-- `groups G K` puts each router alone: what was compressed is not made smaller by compressing it again.
abbrev pub CompressedAgain : Type 0
CompressedAgain = (contents : Contents) (F G : List ℕ) (N K : ℕ) → (c : IsCompressed contents F N G K)
    → (o : Outcome) → IsOutcome (groups G K) contents o → PutsEachAlone c.of_small.network c.of_small.class o
