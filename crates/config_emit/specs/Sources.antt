-- The plan of the arguments of `emit`, and what its parts keep.
use Rattle.std.specs.Prelude.{◌≡◌, ◌≤◌, ℕ, All, List, map, length, Contains}
use Rattle.std.specs.List.{range_with_len}
use Rattle.base_kit.specs.Partition.{IsNumbered}
use Rattle.base_kit.specs.Prefixes.{Prefix}
use Rattle.abstract_net.specs.Carried.{IsBelow}
use Rattle.srp_core.specs.ProblemOf.{IsProblemOf}
use Rattle.srp_quotient.specs.Groups.{number_of_group}
use Rattle.config_emit.specs.ActLinks.{act_link, act_links}
use Rattle.config_emit.specs.GroupLinks.{AreByGroup}
use Rattle.config_emit.specs.Interfaces.{links_at}
use Rattle.config_emit.specs.Plan.{Plan}
use Rattle.config_emit.specs.declared.act_links.ActLink.{ActLink}
use Rattle.config_emit.specs.declared.links_by_group.LinksByGroup.{LinksByGroup}
use Rattle.config_emit.specs.declared.source.Source.{Source}

abbrev pub plan_of : Source → Plan
plan_of s = record { network = s.network.now; class = s.class.now; problem = s.srp.now; groups = s.groups.now; count = s.count; links = s.links.now }

-- the groups are numbered, the problem is that of every prefix of the class, and the links join groups and are as few as a text may give
pub record IsSound (e : Plan) : Type 0 where
  pub numbered : IsNumbered e.groups e.count
  pub problem : (p : Prefix) → Contains e.class.prefixes p → IsProblemOf e.network p e.problem
  pub few : length e.links ≤ 1048576
  pub ends : All (IsBelow e.count) e.links

abbrev pub IsSource : Source → Type 0
IsSource s = IsSound (plan_of s)

-- the index has the links of the plan with their acts
pub record HasLinks (e : Plan) (index : LinksByGroup) : Type 0 where
  pub links : AreByGroup index (act_links e.problem.protocol e.problem.edges e.links) e.count

-- the AS numbers of the groups
pub record HasGroupNumbers (e : Plan) (numbers : List ℕ) : Type 0 where
  pub are : numbers ≡ map (number_of_group e.problem e.groups e.links) (range_with_len 0 e.count)

-- the links that end at a group, with their acts
pub record AreLinksOf (e : Plan) (g : ℕ) (links : List ActLink) : Type 0 where
  pub are : links ≡ map (act_link e.problem.protocol e.problem.edges e.links) (links_at e g)
