use Rattle.std.proofs.Common.{◌≡◌, ℕ, List, take}
use Rattle.std.specs.List.{list_any}
use Rattle.ask_names.specs.NamePairs.{has_pair}
use Rattle.ask_names.specs.Routers.{names_pair}
use Rattle.ask_names.proofs.lost.pairs_in.Given as goal

abbrev pub invariant-loop-item : goal.invariant-loop-item
invariant-loop-item l =
    (first second : List ℕ) → has_pair l.pairs first second ≡ list_any (names_pair first second) (take l.item-index l.items)
