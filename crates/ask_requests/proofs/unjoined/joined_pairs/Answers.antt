use Rattle.std.proofs.Common.{List, subst, take_all}
use Rattle.cfg_ast.specs.declared.topology.Link.{Link}
use Rattle.ask_names.specs.Networks.{names_of}
use Rattle.ask_requests.specs.Joined.{ArePairsOf}
use Rattle.ask_requests.proofs.Joined.{with_link}
use Rattle.ask_requests.proofs.unjoined.joined_pairs.Goals as goal

pub loop-link-init : goal.loop-link-init
loop-link-init c = record { each = λ first second. c.new-pairs.ensures first second }

pub loop-link-preserved : goal.loop-link-preserved
loop-link-preserved c =
    with_link (names_of c.args.network.now) c.args.links.now c.loop-link.link-index _ c.loop-link.pairs _ _ _ c.loop-link-test.true
    c.loop-link.invariant c.name_at-low.ensures c.name_at-high.ensures c.in_ok-insert.ensures

pub returns : goal.returns
returns c =
    subst (λ (ls : List Link). ArePairsOf (names_of c.args.network.now) ls c.loop-link.pairs)
    (take_all c.loop-link.link-index c.args.links.now c.loop-link-test.false) c.loop-link.invariant
