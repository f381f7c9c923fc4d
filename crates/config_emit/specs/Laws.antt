-- What holds of every network that equals the network of the groups except for line numbers.
use Rattle.std.specs.Prelude.{◌≡◌, List, ℕ, None, ◌≤◌, length, Contains}
use Rattle.std.specs.List.{AllByRecursion}
use Rattle.base_kit.specs.Prefixes.{Prefix}
use Rattle.base_kit.specs.Partition.{IsNumbered}
use Rattle.cfg_ast.specs.meaning.Classes.{classes_of}
use Rattle.cfg_ast.specs.meaning.Topology.{links_of}
use Rattle.cfg_ast.specs.meaning.PolicyFaults.{communities_of}
use Rattle.cfg_ast.specs.printing.Bare.{bare}
use Rattle.cfg_ast.specs.printing.WellFormed.{IsWellFormed}
use Rattle.cfg_ast.specs.declared.network.Network.{Network}
use Rattle.cfg_check.specs.Faultless.{IsFaultless}
use Rattle.cfg_round_trip.specs.Laws.{HasShortLines}
use Rattle.cfg_round_trip.specs.Notes.{AreNotes}
use Rattle.abstract_net.specs.Links.{quotient_links}
use Rattle.srp_core.specs.ActMaps.{IsPrintableAct, IsActWithin}
use Rattle.srp_core.specs.ProblemOf.{IsProblemOf}
use Rattle.srp_core.specs.Quotient.{IsAdmissible}
use Rattle.config_emit.specs.Plan.{Plan, small}
use Rattle.config_emit.specs.Emitted.{emitted, notes_of}
use Rattle.config_emit.specs.Pool.{pool_line}

-- A plan that fits together: a network that may be used, one of its classes, the problem of every prefix of the class,
-- an admissible partition of it with the groups numbered by their least members, and the links of the groups. No
-- prefix of the class meets the addresses of the links.
pub record IsPlan (e : Plan) : Type 0 where
  pub well_formed : IsWellFormed e.network
  pub faultless : IsFaultless e.network
  pub class : Contains (classes_of e.network) e.class
  pub problem : (p : Prefix) → Contains e.class.prefixes p → IsProblemOf e.network p e.problem
  pub printable : AllByRecursion IsPrintableAct e.problem.acts
  pub within : AllByRecursion (IsActWithin (communities_of e.network)) e.problem.acts
  pub groups : IsAdmissible e.problem e.groups
  pub numbered : IsNumbered e.groups e.count
  pub links : e.links ≡ quotient_links e.problem.edges e.groups e.count
  pub apart : pool_line e.network e.class ≡ None

-- The network of the groups can be printed and read back.
pub record CanBePrinted (e : Plan) : Type 0 where
  pub well_formed : IsWellFormed (emitted e)
  pub notes : AreNotes (emitted e) (notes_of e)
  pub short : HasShortLines (emitted e) (notes_of e)

abbrev pub EmittedCanBePrinted : Type 0
EmittedCanBePrinted = (e : Plan) → IsPlan e → CanBePrinted e

-- No fault of meaning stands in the network, and its problem, for every prefix of the class, is that of the groups.
pub record StandsForGroups (e : Plan) (n : Network) : Type 0 where
  pub faultless : IsFaultless n
  pub problem : (p : Prefix) → Contains e.class.prefixes p → IsProblemOf n p (small e)

abbrev pub EmittedStandsForGroups : Type 0
EmittedStandsForGroups = (e : Plan) → IsPlan e → (n : Network) → bare n ≡ bare (emitted e) → StandsForGroups e n

-- It has no more routers and no more links.
pub record IsNoLarger (m n : Network) : Type 0 where
  pub routers : length m.routers ≤ length n.routers
  pub links : length (links_of m) ≤ length (links_of n)

abbrev pub EmittedIsNoLarger : Type 0
EmittedIsNoLarger = (e : Plan) → IsPlan e → (n : Network) → bare n ≡ bare (emitted e) → IsNoLarger n e.network
