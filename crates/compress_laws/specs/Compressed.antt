-- What it means that configurations describe the compressed network of another one, for a class of
-- destination prefixes (Beckett, Gupta, Mahajan and Walker, Control Plane Compression, SIGCOMM 2018).
use Rattle.std.specs.Prelude.{◌≡◌, ◌≤◌, ◌<◌, ℕ, [], List, length, map, Option, Ok, Contains, slice_index_or}
use Rattle.std.specs.List.{range_with_len}
use Rattle.base_kit.specs.Partition.{IsNumbered, members_of}
use Rattle.base_kit.specs.Prefixes.{Prefix}
use Rattle.cfg_ast.specs.declared.network.Network.{Network}
use Rattle.cfg_ast.specs.declared.network.Router.{Router}
use Rattle.cfg_ast.specs.declared.classes.DestClass.{DestClass}
use Rattle.cfg_ast.specs.meaning.Topology.{links_of}
use Rattle.cfg_ast.specs.text.Members.{members_of_text}
use Rattle.cfg_ast.specs.text.Reading.{reading_of}
use Rattle.srp_core.specs.declared.route.Route.{Route}
use Rattle.srp_core.specs.Problem.{Problem}
use Rattle.srp_core.specs.ProblemOf.{IsProblemOf}
use Rattle.srp_quotient.specs.Groups.{first_member}
use Rattle.srp_core.specs.Stability.{IsStable}
use Rattle.srp_core.specs.Quotient.{IsCoarsest, IsQuotient}
use Rattle.srp_core.specs.Laws.{Below, Above}
use Rattle.compress_laws.specs.GroupLinks.{HasLinksForActs}

-- Every stable solution of either problem has a stable solution of the other in which each router and its
-- group hold routes of one key, or none, and forward to the same groups.
pub record Correspond (problem small : Problem) (groups : List ℕ) : Type 0 where
  pub down : (labels : List (Option Route)) → IsStable problem labels → Below problem small groups labels
  pub up : (lower : List (Option Route)) → IsStable small lower → Above problem small groups lower

-- For a prefix both networks have a routing problem. The groups are the coarsest admissible partition of
-- the one, the other is its quotient, their stable solutions correspond, and between two groups stand as
-- many links as the acts between them need.
pub record IsCompressedFor (network read : Network) (groups : List ℕ) (p : Prefix) : Type 0 where
  pub problem : Problem
  pub small : Problem
  pub of : IsProblemOf network p problem
  pub of_read : IsProblemOf read p small
  pub coarsest : (other : Problem) → IsProblemOf network p other → IsCoarsest other groups
  pub quotient : (other lower : Problem) → IsProblemOf network p other → IsProblemOf read p lower → IsQuotient other groups lower
  pub correspond : (other lower : Problem) → IsProblemOf network p other → IsProblemOf read p lower → Correspond other lower groups
  pub links : (other : Problem) → IsProblemOf network p other → (low high : ℕ) → low < high → high < length read.routers → HasLinksForActs other groups read low high

-- the name of a router by its place
abbrev pub router_name : Network → ℕ → List ℕ
router_name network u = slice_index_or (map (λ (r : Router). r.name) network.routers) u []

-- for each group the names of its members
abbrev pub names_of_groups : Network → List ℕ → ℕ → List (List (List ℕ))
names_of_groups network groups count = map (λ g. map (router_name network) (members_of groups g)) (range_with_len 0 count)

-- for each group the name of its first member
abbrev pub names_of_first_members : Network → List ℕ → ℕ → List (List ℕ)
names_of_first_members network groups count = map (λ g. router_name network (first_member groups g)) (range_with_len 0 count)

-- The bytes are few enough for a text, and are read without refusal, as a network whose routers are the groups, in their order, each under
-- the name of its first member, and whose notes name the members. It has no more routers and no more links, and is the compressed network for
-- every prefix of the class.
pub record Compresses (network : Network) (class : DestClass) (bytes : List ℕ) : Type 0 where
  pub groups : List ℕ
  pub count : ℕ
  pub numbered : IsNumbered groups count
  pub read : Network
  pub short : length bytes ≤ 16777216
  pub reads : reading_of bytes ≡ Ok read
  pub routers : length read.routers ≡ count
  pub names : map (λ (r : Router). r.name) read.routers ≡ names_of_first_members network groups count
  pub members : members_of_text bytes ≡ names_of_groups network groups count
  pub fewer_routers : length read.routers ≤ length network.routers
  pub fewer_links : length (links_of read) ≤ length (links_of network)
  pub for_each : (p : Prefix) → Contains class.prefixes p → IsCompressedFor network read groups p
