use Rattle.std.proofs.Common.{◌∙◌}
use Rattle.ask_names.specs.Networks.{names_of}
use Rattle.ask_requests.proofs.Joined.{first_unjoined}
use Rattle.ask_requests.proofs.unjoined.unjoined.Goals as goal

pub returns : goal.returns
returns c = c.first_apart.ensures ∙ first_unjoined (names_of c.args.network.now) c.args.links.now c.in_ok-pairs.pairs c.in_ok-pairs.ensures c.args.items.now
