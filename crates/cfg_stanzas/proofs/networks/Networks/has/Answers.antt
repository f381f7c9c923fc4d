use Rattle.std.proofs.Common.{ap, ◌∙◌}
use Rattle.cfg_ast.specs.text.Stanzas.{has_network}
use Rattle.cfg_stanzas.proofs.Indexed.{has_prefix}
use Rattle.cfg_stanzas.proofs.networks.Networks.has.Goals as goal

pub returns : goal.returns
returns c = c.contains.ensures ∙ has_prefix c.self.inside.prefixes c.self.inside.items c.args.prefix c.self.invariant
    ∙ ap (λ nets. has_network nets c.args.prefix) c.self.view_is
