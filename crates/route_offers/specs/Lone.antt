-- The numbers of lone routers on the path of each label.
use Rattle.std.specs.Prelude.{◌≡◌, ℕ, Bool, List, [], Option, map}
use Rattle.std.specs.Option.{option_map_or}
use Rattle.srp_core.specs.declared.route.Route.{Route}
use Rattle.srp_core.specs.Routes.{path_of, chosen}
use Rattle.srp_core.specs.Problem.{Problem, is_lone_number}
use Rattle.route_keys.specs.Lone.{HasLoneNumbers}
use Rattle.route_offers.specs.declared.lone.Lone.{Lone}

-- the numbers on the path of a label that pass the test, ascending
abbrev pub chosen_on_path : (ℕ → Bool) → Option Route → List ℕ
chosen_on_path test label = option_map_or (λ (r : Route). chosen test (path_of r)) label []

-- the numbers of lone routers on it
abbrev pub lone_of : Problem → Option Route → List ℕ
lone_of problem label = chosen_on_path (is_lone_number problem) label

pub record IsLoneOf (problem : Problem) (labels : List (Option Route)) (lone : Lone) : Type 0 where
  pub numbers : HasLoneNumbers problem lone.numbers
  pub paths : lone.paths ≡ map (lone_of problem) labels
