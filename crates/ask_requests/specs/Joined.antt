-- Sets of the pairs of routers that links join.
use Rattle.std.specs.Prelude.{◌≡◌, ℕ, Bool, false, not, ◌&&◌, ◌||◌, List, bytes_eq}
use Rattle.std.specs.List.{list_any}
use Rattle.cfg_ast.specs.declared.topology.Link.{Link}
use Rattle.ask_names.specs.NamePairs.{has_pair}
use Rattle.ask_names.specs.Routers.{name_at}
use Rattle.ask_names.specs.declared.pairs.NamePairs.{NamePairs}
use Rattle.ask_words.specs.declared.request.Lost.{Lost}
use Rattle.ask_words.specs.declared.request.Lost.TheVariants as lost

-- the link goes from the one name to the other, in this order
abbrev pub is_between : List (List ℕ) → List ℕ → List ℕ → Link → Bool
is_between names first second link = bytes_eq first (name_at names link.low) && bytes_eq second (name_at names link.high)

-- the set has the pairs that these links join
pub record ArePairsOf (names : List (List ℕ)) (links : List Link) (pairs : NamePairs) : Type 0 where
  pub each : (first second : List ℕ) → has_pair pairs first second ≡ list_any (is_between names first second) links

-- the item is a pair that is not in the set
abbrev pub is_apart : NamePairs → Lost → Bool
is_apart pairs (lost.Router down) = false
is_apart pairs (lost.Links first second) = not (has_pair pairs first second || has_pair pairs second first)
