use Rattle.std.proofs.Common.{◌||◌, List, ℕ, ap, ◌∙◌}
use Rattle.ask_names.specs.NamePairs.{has_pair}
use Rattle.ask_names.specs.Networks.{names_of}
use Rattle.ask_names.specs.Routers.{name_at}
use Rattle.ask_names.proofs.Items.{link_among}
use Rattle.ask_names.proofs.lost.is_among_pairs.Goals as goal

pub returns : goal.returns
returns c = λ items are.
    let names = names_of c.args.network.now in
    let pairs = c.args.pairs.now in
    let low = name_at names c.args.link.now.low in
    c.has_either.ensures
    ∙ ap (λ (n : List ℕ). has_pair pairs n c.name_at-high.result.now || has_pair pairs c.name_at-high.result.now n) c.name_at-low.ensures
    ∙ ap (λ (n : List ℕ). has_pair pairs low n || has_pair pairs n low) c.name_at-high.ensures
    ∙ link_among names c.args.link.now items pairs are
