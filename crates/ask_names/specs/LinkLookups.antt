-- How links are looked up among the items that are down.
use Rattle.std.specs.Prelude.{◌≡◌, ℕ, List}
use Rattle.std.specs.List.{list_any}
use Rattle.ask_words.specs.declared.request.Lost.{Lost}
use Rattle.ask_names.specs.declared.lost.LinkLookup.{LinkLookup}
use Rattle.ask_names.specs.declared.lost.LinkLookup.TheVariants.{Listed, Hashed}
use Rattle.ask_names.specs.NamePairs.{has_pair}
use Rattle.ask_names.specs.Routers.{names_pair}

-- these are the items
abbrev pub LooksUp : LinkLookup → List Lost → Type 0
LooksUp (Listed listed) items = listed.now ≡ items
LooksUp (Hashed pairs) items = (first second : List ℕ) → has_pair pairs first second ≡ list_any (names_pair first second) items
