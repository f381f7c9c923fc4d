-- What holds while labels are lifted or folded, by ascending size, and what one step of it adds.
use Rattle.std.specs.Prelude.{◌≡◌, ℕ, ◌<◌, List, Option, Some, None}
use Rattle.base_kit.specs.declared.protocol.Protocol.TheVariants.{Bgp as OverBgp}
use Rattle.srp_core.specs.declared.route.Route.{Route}
use Rattle.srp_core.specs.Lifts.{TakesFrom, GroupTakes, IsFirstOn}
use Rattle.srp_core.specs.Problem.{Problem, count, initial, key_of, IsProblem}
use Rattle.srp_core.specs.Quotient.{group_of, IsAdmissible, IsFirstMember, IsQuotient}
use Rattle.srp_core.specs.Routes.{size_of, path_of}
use Rattle.srp_core.specs.Stability.{label, AreLabels, IsCandidate, IsStable}

-- a BGP problem, its quotient, and stable labels of the quotient
pub record CanBeLifted (problem small : Problem) (groups : List ℕ) (lower : List (Option Route)) : Type 0 where
  pub problem_rules : IsProblem problem
  pub small_rules : IsProblem small
  pub admissible : IsAdmissible problem groups
  pub quotient : IsQuotient problem groups small
  pub protocol : small.protocol ≡ OverBgp
  pub stable : IsStable small lower

-- every router of the group has a label
pub record IsGroupFilled (problem : Problem) (groups : List ℕ) (labels : List (Option Route)) (group : ℕ) : Type 0 where
  pub filled : (u : ℕ) → u < count problem → group_of groups u ≡ group → (r : Route) × (label labels u ≡ Some r)

-- each label so far is a candidate, has the key of the group's label, and is what lifting asks for
pub record IsLiftedPart (problem small : Problem) (groups : List ℕ) (lower labels : List (Option Route)) : Type 0 where
  pub fitting : AreLabels problem labels
  pub held : (u : ℕ) (r : Route) → label labels u ≡ Some r → IsCandidate problem labels u r
  pub keyed : (u : ℕ) (r : Route) → label labels u ≡ Some r → (m : Route) × (label lower (group_of groups u) ≡ Some m) × (key_of problem r ≡ key_of small m)
  pub started : (u : ℕ) (r i : Route) → label labels u ≡ Some r → initial problem u ≡ Some i → r ≡ i
  pub taken : (u source : ℕ) (r m : Route) → label labels u ≡ Some r → label lower (group_of groups u) ≡ Some m → initial problem u ≡ None →
      IsFirstOn small (path_of m) source → TakesFrom problem small groups labels u source r m × IsGroupFilled problem groups labels source

-- the routers whose groups have labels below the size have labels
pub record IsLiftedBelow (problem : Problem) (groups : List ℕ) (lower labels : List (Option Route)) (size : ℕ) : Type 0 where
  pub filled : (u : ℕ) (m : Route) → u < count problem → label lower (group_of groups u) ≡ Some m → size_of m < size → (r : Route) × (label labels u ≡ Some r)

-- the router is the next one: its group has that label, and it has none
pub record IsNextToLift (problem small : Problem) (groups : List ℕ) (lower labels : List (Option Route)) (u : ℕ) (m : Route) : Type 0 where
  pub part : IsLiftedPart problem small groups lower labels
  pub below : IsLiftedBelow problem groups lower labels (size_of m)
  pub inside : u < count problem
  pub asked : label lower (group_of groups u) ≡ Some m
  pub empty : label labels u ≡ None

-- a BGP problem with stable labels, and its quotient
pub record CanBeFolded (problem small : Problem) (groups : List ℕ) (labels : List (Option Route)) : Type 0 where
  pub problem_rules : IsProblem problem
  pub small_rules : IsProblem small
  pub admissible : IsAdmissible problem groups
  pub quotient : IsQuotient problem groups small
  pub protocol : problem.protocol ≡ OverBgp
  pub stable : IsStable problem labels

-- each label so far is a candidate, has the key of its members' labels, and is what folding asks for
pub record IsFoldedPart (problem small : Problem) (groups : List ℕ) (labels lower : List (Option Route)) : Type 0 where
  pub fitting : AreLabels small lower
  pub held : (g : ℕ) (m : Route) → label lower g ≡ Some m → IsCandidate small lower g m
  pub keyed : (u : ℕ) (m : Route) → u < count problem → label lower (group_of groups u) ≡ Some m → (r : Route) × (label labels u ≡ Some r)
      × (key_of small m ≡ key_of problem r)
  pub started : (u : ℕ) (m i : Route) → u < count problem → label lower (group_of groups u) ≡ Some m → initial problem u ≡ Some i → m ≡ i
  pub taken : (u source : ℕ) (r m : Route) → u < count problem → IsFirstMember groups u → label lower (group_of groups u) ≡ Some m → label labels u ≡ Some r →
      initial problem u ≡ None → IsFirstOn problem (path_of r) source → GroupTakes problem small lower (group_of groups u) (group_of groups source) m r

-- the groups whose members have labels below the size have labels
pub record IsFoldedBelow (problem : Problem) (groups : List ℕ) (labels lower : List (Option Route)) (size : ℕ) : Type 0 where
  pub filled : (u : ℕ) (r : Route) → u < count problem → label labels u ≡ Some r → size_of r < size → (m : Route) × (label lower (group_of groups u) ≡ Some m)

-- the group of this first member is the next one: the member has that label, and the group has none
pub record IsNextToFold (problem small : Problem) (groups : List ℕ) (labels lower : List (Option Route)) (u : ℕ) (r : Route) : Type 0 where
  pub part : IsFoldedPart problem small groups labels lower
  pub below : IsFoldedBelow problem groups labels lower (size_of r)
  pub inside : u < count problem
  pub first : IsFirstMember groups u
  pub asked : label labels u ≡ Some r
  pub empty : label lower (group_of groups u) ≡ None
