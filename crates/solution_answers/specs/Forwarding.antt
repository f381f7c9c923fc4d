-- Whom each router forwards to, as text.
use Rattle.std.specs.Prelude.{ℕ, List, [], ◌∷◌, ◌++◌, codes, flat_map, map, Option, Some, None}
use Rattle.std.specs.List.{enumerate_from}
use Rattle.printed_words.specs.Spaced.{spaced_words}
use Rattle.srp_core.specs.declared.route.Route.{Route}
use Rattle.srp_core.specs.Stability.{label}
use Rattle.solution_answers.specs.RouterNames.{name_at}

-- a router with a label forwards to nobody, or to these
abbrev pub next_words : List (List ℕ) → List ℕ → List ℕ
next_words names [] = codes " here"
next_words names (next ∷ more) = codes " to" ++ spaced_words (map (name_at names) (next ∷ more))

-- what is reported of a router
abbrev pub hops_words : List (List ℕ) → Option Route → List ℕ → List ℕ
hops_words names None hops = codes " none"
hops_words names (Some route) hops = next_words names hops

abbrev pub hops_line : List (List ℕ) → List (Option Route) → ℕ × List ℕ → List ℕ
hops_line names labels (u, hops) = name_at names u ++ hops_words names (label labels u) hops ++ 10 ∷ []

-- a line for each router
unfoldable pub hops_text : List (List ℕ) → List (Option Route) → List (List ℕ) → List ℕ
hops_text names labels hops = flat_map (hops_line names labels) (enumerate_from 0 hops)
