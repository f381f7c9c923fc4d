use Rattle.std.proofs.Common.{◌≡◌, ◌∷◌, ◌∙◌, refl, rules}
use Rattle.dest_classes.proofs.Entries.{members_step}
use Rattle.dest_classes.proofs.groups.groups_of.Goals as goal

pub loop-member-preserved : goal.loop-member-preserved
loop-member-preserved c =
    let m = c.in-Some.member in
    let next : c.loop-member.member-iterator.rest.items ≡ m ∷ c.next.new.self.rest.items = search rules in
    members_step m c.loop-member.member-iterator.rest.items c.next.new.self.rest.items c.loop-member.groups.entries c.add.new.groups.entries _ next
    c.in_ok-add.ensures c.into_vec.ensures refl ∙ c.loop-member.invariant
