use Rattle.std.proofs.Common.{ap, ◌∙◌}
use Rattle.cfg_ast.specs.text.Stanzas.{has_neighbor}
use Rattle.cfg_stanzas.proofs.Indexed.{has_address}
use Rattle.cfg_stanzas.proofs.neighbors.Neighbors.has.Goals as goal

pub returns : goal.returns
returns c = c.contains_key.ensures ∙ has_address c.self.inside.places c.self.inside.items.items c.args.addr c.self.invariant.0
    ∙ ap (λ peers. has_neighbor peers c.args.addr) c.self.view_is
