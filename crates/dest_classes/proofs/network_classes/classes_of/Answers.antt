use Rattle.std.proofs.Common.{◌∙◌, [], ap, map}
use Rattle.dest_classes.specs.Groups.{class_from}
use Rattle.dest_classes.specs.Lists.{lists_asked}
use Rattle.dest_classes.proofs.Keys.{entries_are}
use Rattle.dest_classes.proofs.Likes.{cells_do}
use Rattle.dest_classes.proofs.Leaders.{classes_are}
use Rattle.dest_classes.proofs.Noted.{noted_is}
use Rattle.dest_classes.proofs.Same.{asked_alike}
use Rattle.dest_classes.proofs.Traits.{with_likes, class_of_likes}
use Rattle.dest_classes.proofs.network_classes.classes_of.Goals as goal

pub returns : goal.returns
returns c =
    let network = c.args.net.now in
    let lists = lists_asked network in
    let originators = c.in_ok-originators.originators in
    let entries = entries_are network originators c.in_ok-members.ensures.ordered (λ p. c.in_ok-originators.ensures p ∙ noted_is network p) in
    c.in_ok-classes.ensures ∙ ap (map class_from) c.in_ok-groups.ensures
    ∙ cells_do lists originators.entries c.in_ok-members.members.items c.in_ok-members.ensures.members
    ∙ ap (λ es. map class_of_likes (with_likes lists es [])) entries ∙ classes_are network lists (asked_alike network)
