use Rattle.std.proofs.Common.{[], ◌∷◌, ap, map, sym, subst, ◌∙◌}
use Rattle.std.proofs.lemmas.List.{map-append}
use Rattle.dest_classes.specs.Lists.{AreSaid}
use Rattle.dest_classes.proofs.Rules.{at_now, said_more}
use Rattle.dest_classes.proofs.lists.ask.Goals as goal

pub returns-in_ok-push-clause-said : goal.returns-in_ok-push-clause-said
returns-in_ok-push-clause-said c =
    let before = c.args.asked.now.items in
    subst (AreSaid c.insert.new.self) (sym (ap (map at_now) c.in_ok-push.ensures.items ∙ map-append at_now before (c.args.list ∷ [])))
    (said_more c.args.said.now c.insert.new.self c.in_ok-rules_of.field-0 c.args.list.now (map at_now before) c.in_ok-rules_of.ensures
    c.in_ok-insert.ensures.updates c.requires)
