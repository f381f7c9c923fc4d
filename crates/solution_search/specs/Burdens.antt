-- How far a search may still go.
use Rattle.std.specs.Prelude.{ℕ, zero, suc, ◌+◌, ◌-◌, ◌^◌, List, [], ◌∷◌, Option, Some, None}
use Rattle.srp_core.specs.declared.route.Route.{Route}
use Rattle.solution_search.specs.Cases.{Case}

-- how many routers have no label
unfoldable pub missing : List (Option Route) → ℕ
missing [] = 0
missing (None ∷ labels) = suc (missing labels)
missing (Some r ∷ labels) = missing labels

-- how many times a router may wait for a higher preference
unfoldable pub patience_by : Option ℕ → ℕ
patience_by None = 2 ^ 32
patience_by (Some p) = 2 ^ 32 - suc p

unfoldable pub patience : List (Option ℕ) → ℕ
patience [] = 0
patience (o ∷ waits) = patience_by o + patience waits

-- how many steps a case may still take
unfoldable pub weight : Case → ℕ
weight case = missing case.labels + patience case.waits

-- three to the power of the number
unfoldable pub tripled : ℕ → ℕ
tripled zero = 1
tripled (suc n) = tripled n + (tripled n + tripled n)

-- a number that falls with each step of a search
unfoldable pub burden : List Case → ℕ
burden [] = 0
burden (case ∷ cases) = tripled (weight case) + burden cases
