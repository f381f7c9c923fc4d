-- The acts of a problem while canonical ones take their places.
use Rattle.std.specs.Prelude.{◌≡◌, ◌≢◌, ℕ, ◌<◌, Bool, true, false, List, length, Some, None, Result, Ok, Err, Contains, slice_index_or}
use Rattle.std.specs.List.{AllByRecursion}
use Rattle.base_kit.specs.declared.act_graph.Edge.{Edge}
use Rattle.base_kit.specs.declared.protocol.Protocol.{Protocol}
use Rattle.srp_core.specs.declared.route.Act.{Act}
use Rattle.srp_core.specs.declared.route.Act.TheVariants.{Cost}
use Rattle.dd_core.specs.Marks.{is_marked}
use Rattle.srp_core.specs.Acts.{ActsAlike, IsActOf}
use Rattle.canon_policy.specs.declared.lists.CanonRefusal.{CanonRefusal}
use Rattle.canon_policy.specs.declared.lists.CanonRefusal.TheVariants as canon_refusal
use Rattle.canon_policy.specs.declared.problem.CanonSrpRefusal.{CanonSrpRefusal}
use Rattle.canon_policy.specs.declared.problem.CanonSrpRefusal.TheVariants as canon_srp_refusal
use Rattle.srp_core.specs.Problem.{Problem, act_of}
use Rattle.canon_policy.specs.CanonicalProblem.{canonical_act, IsFirstWithout}
use Rattle.srp_core.specs.ActMaps.{IsPrintableAct, IsActWithin}

-- the canonical act, or none, or out of memory
abbrev pub IsCanonicalActOr : List ℕ → Act → Result Act CanonRefusal → Type 0
IsCanonicalActOr universe old (Ok new) = canonical_act universe old ≡ Some new
IsCanonicalActOr universe old (Err canon_refusal.NoCanon) = canonical_act universe old ≡ None
IsCanonicalActOr universe old (Err canon_refusal.Memory) = Unit {0}

abbrev pub at_place : CanonRefusal → ℕ → CanonSrpRefusal
at_place canon_refusal.NoCanon place = canon_srp_refusal.NoCanon place
at_place canon_refusal.Memory place = canon_srp_refusal.Memory

abbrev pub act_at_place : List Act → ℕ → Act
act_at_place acts place = slice_index_or acts place (Cost 0)

-- an act instead of another: it acts alike in the same protocol, can be printed, and names only communities of the universe
pub record IsActFor (universe : List ℕ) (old new : Act) : Type 0 where
  pub alike : ActsAlike old new
  pub fits : (protocol : Protocol) → IsActOf protocol old → IsActOf protocol new
  pub printable : IsPrintableAct new
  pub within : IsActWithin universe new

-- the acts of the canonical problem
pub record AreCanonicalActs (universe : List ℕ) (problem : Problem) (acts : List Act) : Type 0 where
  pub count : length acts ≡ length problem.acts
  pub each : (place : ℕ) → place < length problem.acts → IsActFor universe (act_at_place problem.acts place) (act_at_place acts place)
  pub used : (edge : Edge) → Contains problem.edges edge → canonical_act universe (act_of problem edge) ≡ Some (act_at_place acts edge.act)
  pub unused : (place : ℕ) → ((edge : Edge) → Contains problem.edges edge → edge.act ≢ place) → act_at_place acts place ≡ act_at_place problem.acts place

abbrev pub AreCanonicalActsOr : List ℕ → Problem → Result (List Act) CanonSrpRefusal → Type 0
AreCanonicalActsOr universe problem (Ok acts) = AreCanonicalActs universe problem acts
AreCanonicalActsOr universe problem (Err (canon_srp_refusal.NoCanon place)) = IsFirstWithout universe problem place
AreCanonicalActsOr universe problem (Err canon_srp_refusal.Memory) = Unit {0}

-- the first edge without is refused
abbrev pub IsRefusedAtFirst : List ℕ → Problem → Result (Unit {0}) CanonSrpRefusal → Type 0
IsRefusedAtFirst universe problem (Ok done) = Unit {0}
IsRefusedAtFirst universe problem (Err (canon_srp_refusal.NoCanon place)) = IsFirstWithout universe problem place
IsRefusedAtFirst universe problem (Err canon_srp_refusal.Memory) = Unit {0}

-- the act at a place: the canonical one, where one of the edges has it, and else the old one
pub data IsActSoFar (universe : List ℕ) (problem : Problem) (edges : List Edge) (acts : List Act) (done : List Bool) (place : ℕ) : Type 0 where
  is_done : is_marked done place ≡ true → (edge : Edge) → Contains edges edge → edge.act ≡ place
      → canonical_act universe (act_at_place problem.acts place) ≡ Some (act_at_place acts place) → IsActSoFar universe problem edges acts done place
  not_done : is_marked done place ≡ false → act_at_place acts place ≡ act_at_place problem.acts place → IsActSoFar universe problem edges acts done place

-- the acts behind the first of the edges, each of which has a canonical one
pub record AreActsSoFar (universe : List ℕ) (problem : Problem) (edges : List Edge) (acts : List Act) (done : List Bool) : Type 0 where
  pub count : length acts ≡ length problem.acts
  pub done_count : length done ≡ length problem.acts
  pub each : (place : ℕ) → place < length problem.acts → IsActFor universe (act_at_place problem.acts place) (act_at_place acts place)
  pub so_far : (place : ℕ) → place < length problem.acts → IsActSoFar universe problem edges acts done place
  pub seen : AllByRecursion (λ edge. is_marked done edge.act ≡ true) edges
