-- Questions about a labelling that have the same answer in a problem and in its quotient: questions
-- about the keys of groups and about the groups to which they forward, and three questions of the field
-- about routers (Beckett, Gupta, Mahajan and Walker, Control Plane Compression, SIGCOMM 2018, section
-- 4).
use Rattle.std.specs.Prelude.{◌≡◌, ◌≢◌, ℕ, ◌<◌, zero, suc, List, Option, None}
use Rattle.std.specs.Option.{option_map}
use Rattle.srp_core.specs.declared.route.Route.{Route}
use Rattle.srp_core.specs.Routes.{Key}
use Rattle.srp_core.specs.Problem.{Problem, count, key_of, IsProblem}
use Rattle.srp_core.specs.Stability.{label, IsStable, ForwardsTo}
use Rattle.srp_core.specs.Quotient.{group_of, IsAdmissible, IsQuotient}

-- What is asked of a labelling of a problem whose routers stand in groups.
abbrev pub Question : Type 1
Question = Problem → (ℕ → ℕ) → List (Option Route) → Type 0

-- each router of the quotient is the group that it stands for
abbrev pub itself : ℕ → ℕ
itself g = g

-- ---- one answer

-- a problem, and its quotient by an admissible partition
pub record IsQuotiented (problem small : Problem) (groups : List ℕ) : Type 0 where
  pub rules : IsProblem problem
  pub small_rules : IsProblem small
  pub admissible : IsAdmissible problem groups
  pub quotient : IsQuotient problem groups small

-- a stable solution of which holds what is asked
pub record IsSolution (problem : Problem) (asks : List (Option Route) → Type 0) : Type 0 where
  pub labels : List (Option Route)
  pub stable : IsStable problem labels
  pub holds : asks labels

-- what is asked holds of every stable solution
abbrev pub InEach : Problem → (List (Option Route) → Type 0) → Type 0
InEach problem asks = (labels : List (Option Route)) → IsStable problem labels → asks labels

-- What is asked holds of every stable solution of the one problem exactly if it holds of every one of
-- the other, and of some exactly if it holds of some.
pub record HasOneAnswer (problem small : Problem) (groups : List ℕ) (asks : Question) : Type 0 where
  pub every_below : InEach problem (asks problem (group_of groups)) → InEach small (asks small itself)
  pub every_above : InEach small (asks small itself) → InEach problem (asks problem (group_of groups))
  pub some_below : IsSolution problem (asks problem (group_of groups)) → IsSolution small (asks small itself)
  pub some_above : IsSolution small (asks small itself) → IsSolution problem (asks problem (group_of groups))

-- ---- what is asked of groups

-- What a labelling shows of the groups: group g holds a route of that key, or none, and group g forwards to group h.
pub record Picture : Type 1 where
  pub holds : ℕ → Option Key → Type 0
  pub forwards : ℕ → ℕ → Type 0

-- the key of a router's label
abbrev pub label_key : Problem → List (Option Route) → ℕ → Option Key
label_key problem labels u = option_map (key_of problem) (label labels u)

-- a member of group g holds that key
pub record MemberHolds (problem : Problem) (group : ℕ → ℕ) (labels : List (Option Route)) (g : ℕ) (key : Option Key) : Type 0 where
  pub member : ℕ
  pub inside : member < count problem
  pub in_group : group member ≡ g
  pub held : label_key problem labels member ≡ key

-- a member of group g forwards to one of group h
pub record MemberForwards (problem : Problem) (group : ℕ → ℕ) (labels : List (Option Route)) (g h : ℕ) : Type 0 where
  pub member : ℕ
  pub inside : member < count problem
  pub in_group : group member ≡ g
  pub next : ℕ
  pub next_in_group : group next ≡ h
  pub forwards : ForwardsTo problem labels member next

-- what a labelling of routers shows of their groups
abbrev pub picture : Problem → (ℕ → ℕ) → List (Option Route) → Picture
picture problem group labels = record { holds = MemberHolds problem group labels; forwards = MemberForwards problem group labels }

-- two pictures show the same
pub record ShowSame (first second : Picture) : Type 0 where
  pub holds : (g : ℕ) (key : Option Key) → first.holds g key → second.holds g key
  pub held : (g : ℕ) (key : Option Key) → second.holds g key → first.holds g key
  pub forwards : (g h : ℕ) → first.forwards g h → second.forwards g h
  pub forwarded : (g h : ℕ) → second.forwards g h → first.forwards g h

-- A question about pictures, whatever it asks: pictures that show the same have the same answer.
abbrev pub IsOfPictures : (Picture → Type 0) → Type 1
IsOfPictures asks = (first second : Picture) → ShowSame first second → asks first → asks second

-- Each stable solution of either problem shows the same of the groups as some stable solution of the other one.
pub record HaveSamePictures (problem small : Problem) (groups : List ℕ) : Type 0 where
  pub below : InEach problem (λ labels. IsSolution small (λ lower. ShowSame (picture problem (group_of groups) labels) (picture small itself lower)))
  pub above : InEach small (λ lower. IsSolution problem (λ labels. ShowSame (picture small itself lower) (picture problem (group_of groups) labels)))

abbrev pub PicturesAgree : Type 0
PicturesAgree = (problem small : Problem) (groups : List ℕ) → IsQuotiented problem small groups → HaveSamePictures problem small groups

-- what is asked of pictures, as a question about a labelling
abbrev pub of_picture : (Picture → Type 0) → Question
of_picture asks problem group labels = asks (picture problem group labels)

-- What is asked of pictures has one answer in a problem and in its quotient.
abbrev pub GroupQuestionCarries : (Picture → Type 0) → Type 0
GroupQuestionCarries asks = (problem small : Problem) (groups : List ℕ) → IsQuotiented problem small groups → HasOneAnswer problem small groups (of_picture asks)

-- ---- three questions that are asked of routers

-- Reachability: every router has a route.
abbrev pub has_routes : Question
has_routes problem group labels = (u : ℕ) → u < count problem → label labels u ≢ None

-- so many hops lead from a router to another one: each router forwards to the next one
abbrev pub HasHops : Problem → List (Option Route) → ℕ → ℕ → ℕ → Type 0
HasHops problem labels zero u v = u ≡ v
HasHops problem labels (suc hops) u v = (next : ℕ) × ForwardsTo problem labels u next × HasHops problem labels hops next v

-- Path length: no chain of forwarding that begins at a router of group g is longer than that.
abbrev pub is_no_longer : ℕ → ℕ → Question
is_no_longer most g problem group labels = (hops u v : ℕ) → most < hops → u < count problem → group u ≡ g → ¬ HasHops problem labels hops u v

-- no chain of forwarding at all is longer than that
abbrev pub is_nowhere_longer : ℕ → Question
is_nowhere_longer most problem group labels = (g : ℕ) → is_no_longer most g problem group labels

-- the same hops, and no router on the way, nor the first or the last one, is of group w
abbrev pub HasHopsAround : ℕ → Problem → (ℕ → ℕ) → List (Option Route) → ℕ → ℕ → ℕ → Type 0
HasHopsAround w problem group labels zero u v = (u ≡ v) × (group u ≢ w)
HasHopsAround w problem group labels (suc hops) u v =
    (group u ≢ w) × ((next : ℕ) × ForwardsTo problem labels u next × HasHopsAround w problem group labels hops next v)

-- Waypoint: traffic from group g to group h passes group w: no chain of forwarding from a router of g to one of h goes around w.
abbrev pub passes : ℕ → ℕ → ℕ → Question
passes g h w problem group labels = (hops u v : ℕ) → u < count problem → group u ≡ g → group v ≡ h → ¬ HasHopsAround w problem group labels hops u v

-- they have one answer in a problem and in its quotient
pub record QuestionsAgree (problem small : Problem) (groups : List ℕ) : Type 0 where
  pub reachability : HasOneAnswer problem small groups has_routes
  pub path_length : (most g : ℕ) → HasOneAnswer problem small groups (is_no_longer most g)
  pub longest : (most : ℕ) → HasOneAnswer problem small groups (is_nowhere_longer most)
  pub waypoint : (g h w : ℕ) → HasOneAnswer problem small groups (passes g h w)

abbrev pub QuestionsCarry : Type 0
QuestionsCarry = (problem small : Problem) (groups : List ℕ) → IsQuotiented problem small groups → QuestionsAgree problem small groups
