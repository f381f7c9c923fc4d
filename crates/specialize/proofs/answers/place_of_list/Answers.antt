use Rattle.std.proofs.Common.{◌∙◌, ap}
use Rattle.cfg_ast.specs.declared.policy.PrefixList.{PrefixList}
use Rattle.numbered_names.specs.NamePlaces.{place_in}
use Rattle.numbered_names.proofs.Positions.{item_found}
use Rattle.specialize.proofs.answers.place_of_list.Goals as goal

pub returns : goal.returns
returns c =
    let places = c.args.places.now.prefix_lists in
    item_found (λ (list : PrefixList). list.name) places c.args.router.now.prefix_lists c.requires.prefix_lists c.args.name.now c.place_of.result
    (c.place_of.ensures ∙ ap (place_in places) c.as_str.ensures)
