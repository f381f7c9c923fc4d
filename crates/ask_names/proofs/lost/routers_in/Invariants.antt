use Rattle.std.proofs.Common.{◌≡◌, ℕ, List, take}
use Rattle.std.specs.List.{list_any}
use Rattle.numbered_names.specs.NameSets.{has_name}
use Rattle.ask_names.specs.Routers.{is_router_lost}
use Rattle.ask_names.proofs.lost.routers_in.Given as goal

abbrev pub invariant-loop-item : goal.invariant-loop-item
invariant-loop-item l = (name : List ℕ) → has_name l.routers name ≡ list_any (is_router_lost name) (take l.item-index l.items)
