-- What a router does with its label.
use Rattle.std.specs.Prelude.{◌≡◌, ◌≢◌, ℕ, Bool, List, Option}
use Rattle.std.specs.List.{IsFirstBest}
use Rattle.srp_core.specs.declared.route.Route.{Route}
use Rattle.srp_core.specs.declared.route.Candidate.{Candidate}
use Rattle.route_run.specs.declared.choosing.Choice.{Choice}
use Rattle.route_run.specs.declared.choosing.Choice.TheVariants.{Keep, Take}
use Rattle.route_run.specs.Activations.{beats}

-- whether the first of two candidates has the better key
abbrev pub is_better : (ℕ → Bool) → Candidate → Candidate → Bool
is_better is_lone candidate other = beats is_lone candidate.route other.route

-- among the first so many candidates, none beats that at the place, and it beats each before it
abbrev pub IsBestUpto : (ℕ → Bool) → List Candidate → ℕ → ℕ → Type 0
IsBestUpto is_lone all upto place = IsFirstBest (is_better is_lone) all upto place

-- the label that is to be chosen is the one that the router has, or the one that is taken, another one
abbrev pub IsChoice : Option Route → Option Route → Choice → Type 0
IsChoice chosen label Keep = chosen ≡ label
IsChoice chosen label (Take other) = (chosen ≡ other) × (other ≢ label)
