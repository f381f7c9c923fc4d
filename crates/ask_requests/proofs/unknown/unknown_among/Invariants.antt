use Rattle.std.proofs.Common.{◌≡◌, drop}
use Rattle.ask_names.specs.Networks.{names_of}
use Rattle.ask_names.specs.Routers.{unknown_in}
use Rattle.ask_requests.proofs.unknown.unknown_among.Given as goal

abbrev pub invariant-loop-name : goal.invariant-loop-name
invariant-loop-name l = unknown_in (names_of l.network) (drop l.name-index l.names) ≡ unknown_in (names_of l.network) l.names
