-- Which preferences are accepted: by an import, by an act, and by the edges of a router.
use Rattle.std.specs.Prelude.{◌≡◌, ◌≢◌, ℕ, ◌<◌, Bool, true, false, List, [], ◌∷◌, Option, Some, nat_eq, length, slice_index_or, Contains, if◌then◌else◌}
use Rattle.base_kit.specs.declared.act_graph.Edge.{Edge}
use Rattle.base_kit.specs.Sets.{IsAscending}
use Rattle.route_maps.specs.declared.plain.Imported.{Imported}
use Rattle.srp_core.specs.declared.route.Act.{Act}
use Rattle.srp_core.specs.declared.route.Act.TheVariants.{Cost}
use Rattle.srp_core.specs.Acts.{import_by}
use Rattle.srp_core.specs.Problem.{Problem, count, is_lone}
use Rattle.srp_without.specs.declared.accepted.Accepted.{Accepted}
use Rattle.srp_without.specs.declared.accepted.Accepted.TheVariants.{Nothing, One, Several}

-- what is accepted by one or the other
abbrev pub joined : Accepted → Accepted → Accepted
joined Nothing other = other
joined (One first) Nothing = One first
joined (One first) (One second) = if nat_eq first second then One first else Several
joined (One first) Several = Several
joined Several other = Several

abbrev pub is_several : Accepted → Bool
is_several Nothing = false
is_several (One preference) = false
is_several Several = true

-- two different preferences are accepted
pub record HasTwo (accepts : ℕ → Type 0) : Type 0 where
  pub first : ℕ
  pub second : ℕ
  pub first_accepted : accepts first
  pub second_accepted : accepts second
  pub differ : first ≢ second

-- this preference is accepted, and no other
pub record HasOne (accepts : ℕ → Type 0) (preference : ℕ) : Type 0 where
  pub accepted : accepts preference
  pub only : (other : ℕ) → accepts other → other ≡ preference

-- what is said of all preferences that are accepted
abbrev pub IsAll : (ℕ → Type 0) → Accepted → Type 0
IsAll accepts Nothing = (preference : ℕ) → ¬ accepts preference
IsAll accepts (One preference) = HasOne accepts preference
IsAll accepts Several = HasTwo accepts

-- the import accepts some set of communities with that preference
pub record Accepts (import : List ℕ → Option Imported) (preference : ℕ) : Type 0 where
  pub comms : List ℕ
  pub is_set : IsAscending comms
  pub imported : Imported
  pub accepted : import comms ≡ Some imported
  pub preferred : imported.lp ≡ preference

abbrev pub ActAccepts : Act → ℕ → Type 0
ActAccepts act preference = Accepts (import_by act) preference

-- the act with that number
abbrev pub act_at : List Act → ℕ → Act
act_at acts number = slice_index_or acts number (Cost 0)

-- the router accepts it over one of these edges
pub record EdgesAccept (acts : List Act) (edges : List Edge) (router preference : ℕ) : Type 0 where
  pub edge : Edge
  pub edge_in : Contains edges edge
  pub importer : edge.importer ≡ router
  pub accepted : ActAccepts (act_at acts edge.act) preference

-- the preferences of a function's table
abbrev pub accepted_of : List (ℕ × ℕ) → Accepted
accepted_of [] = Nothing
accepted_of (case ∷ []) = One case.0
accepted_of (case ∷ other ∷ cases) = Several

-- for each act, what it accepts
pub record AreOfActs (acts : List Act) (accepted : List Accepted) : Type 0 where
  pub total : length accepted ≡ length acts
  pub each : (number : ℕ) → number < length acts → IsAll (ActAccepts (act_at acts number)) (slice_index_or accepted number Nothing)

-- for each router, what it accepts over these edges
pub record AreMet (acts : List Act) (count : ℕ) (edges : List Edge) (met : List Accepted) : Type 0 where
  pub total : length met ≡ count
  pub each : (router : ℕ) → router < count → IsAll (EdgesAccept acts edges router) (slice_index_or met router Nothing)

-- What is known of a problem serves all of its failures: no router is lone, or what each act accepts is known.
pub data Serves (problem : Problem) (accepted : List Accepted) : Type 0 where
  none_lone : ((u : ℕ) → u < count problem → is_lone problem u ≡ false) → Serves problem accepted
  known : AreOfActs problem.acts accepted → Serves problem accepted

-- the marks are those of the routers that accept two preferences over these edges
pub record AreMarksOf (problem : Problem) (edges : List Edge) (marks : List Bool) : Type 0 where
  pub total : length marks ≡ count problem
  pub only : (u : ℕ) → u < count problem → slice_index_or marks u false ≡ true → HasTwo (EdgesAccept problem.acts edges u)
  pub all : (u : ℕ) → u < count problem → HasTwo (EdgesAccept problem.acts edges u) → slice_index_or marks u false ≡ true
