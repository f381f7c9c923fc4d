-- The links of every network that is the network of the groups except for line numbers.
use Rattle.std.specs.Prelude.{◌≡◌, map}
use Rattle.std.specs.List.{enumerate_from}
use Rattle.cfg_ast.specs.declared.network.Network.{Network}
use Rattle.cfg_ast.specs.meaning.Topology.{links_of}
use Rattle.cfg_ast.specs.printing.Bare.{bare}
use Rattle.config_emit.specs.Emitted.{emitted}
use Rattle.config_emit.specs.Laws.{IsPlan}
use Rattle.config_emit.specs.Plan.{Plan}
use Rattle.emit_link_laws.specs.Laws.{emitted_link}

-- They are those of the plan, in order.
abbrev pub EmittedHasPlannedLinks : Type 0
EmittedHasPlannedLinks = (e : Plan) → IsPlan e → (n : Network) → bare n ≡ bare (emitted e) → links_of n ≡ map (emitted_link e) (enumerate_from 0 e.links)
