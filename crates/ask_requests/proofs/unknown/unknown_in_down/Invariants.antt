use Rattle.std.proofs.Common.{◌≡◌, drop, flat_map}
use Rattle.ask_names.specs.Networks.{names_of}
use Rattle.ask_names.specs.Routers.{names_in_lost, unknown_in}
use Rattle.ask_requests.proofs.unknown.unknown_in_down.Given as goal

abbrev pub invariant-loop-item : goal.invariant-loop-item
invariant-loop-item l =
    unknown_in (names_of l.network) (flat_map names_in_lost (drop l.item-index l.items)) ≡ unknown_in (names_of l.network) (flat_map names_in_lost l.items)
