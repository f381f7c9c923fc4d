use Rattle.std.proofs.Common.{false, List, ap, ◌∙◌}
use Rattle.std.specs.List.{list_any}
use Rattle.std.proofs.lemmas.List.{take_all}
use Rattle.std.proofs.lemmas.List.FromFn.{fill_by_all}
use Rattle.abstract_net.specs.declared.qlink.QLink.{QLink}
use Rattle.srp_quotient.specs.Groups.{touches}
use Rattle.solution_lift.proofs.tables.linked.Goals as goal

pub returns : goal.returns
returns c =
    fill_by_all (λ group. list_any (touches group) c.args.links.now) c.loop-link.flags.items c.args.count false c.loop-link.invariant.total
    (λ k inside. c.loop-link.invariant.flagged k inside ∙ ap (λ (ls : List QLink). list_any (touches k) ls)
    (take_all c.loop-link.link-index c.args.links.now c.loop-link-test.false))
