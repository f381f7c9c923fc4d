use Rattle.std.proofs.Common.{take}
use Rattle.ask_names.specs.Networks.{names_of}
use Rattle.ask_requests.specs.Joined.{ArePairsOf}
use Rattle.ask_requests.proofs.unjoined.joined_pairs.Given as goal

abbrev pub invariant-loop-link : goal.invariant-loop-link
invariant-loop-link l = ArePairsOf (names_of l.network) (take l.link-index l.links) l.pairs
