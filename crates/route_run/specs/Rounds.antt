-- Rounds, and how many of them bring a network to rest.
use Rattle.std.specs.Prelude.{◌≡◌, ℕ, zero, suc, ◌+◌, ◌*◌, ◌-◌, ◌<◌, ◌≤◌, false, Contains, List, ◌++◌, Some}
use Rattle.base_kit.specs.Sets.{IsAscending}
use Rattle.base_kit.specs.declared.act_graph.Edge.{Edge}
use Rattle.route_maps.specs.declared.plain.Imported.{Imported}
use Rattle.srp_core.specs.Acts.{import_by}
use Rattle.srp_core.specs.Problem.{Problem, count, is_lone, act_of}

-- every router is activated at least once
abbrev pub IsRound : Problem → List ℕ → Type 0
IsRound problem piece = (u : ℕ) → u < count problem → Contains piece u

-- the run begins with so many rounds
abbrev pub HasRounds : Problem → ℕ → List ℕ → Type 0
HasRounds problem zero run = Unit {0}
HasRounds problem (suc rounds) run = (piece : List ℕ) × (rest : List ℕ) × (run ≡ piece ++ rest) × IsRound problem piece × HasRounds problem rounds rest

-- no router is lone
abbrev pub HasNoLone : Problem → Type 0
HasNoLone problem = (u : ℕ) → u < count problem → is_lone problem u ≡ false

-- no import over an edge prepends more numbers
pub record PrependsAtMost (problem : Problem) (bound : ℕ) : Type 0 where
  pub most : (edge : Edge) (comms : List ℕ) (imported : Imported) → Contains problem.edges edge → IsAscending comms →
      import_by (act_of problem edge) comms ≡ Some imported → imported.adds ≤ bound

-- so many rounds are enough, where no import prepends more numbers; in OSPF none prepends
abbrev pub enough_rounds : Problem → ℕ → ℕ
enough_rounds problem most = (count problem - 1) * (most + 1) + 1
