use Rattle.std.proofs.Common.{◌≡◌, [], sym, ◌∙◌, map, inl, inr}
use Rattle.std.proofs.lemmas.List.{nil_from_length}
use Rattle.dest_classes.specs.Cells.{cell_key}
use Rattle.dest_classes.proofs.Rules.{at_now}
use Rattle.dest_classes.proofs.Asked.{asked_step, next_key, no_member, asked_all}
use Rattle.dest_classes.proofs.cells.ask.Goals as goal

pub loop-member-preserved : goal.loop-member-preserved
loop-member-preserved c =
    let lists = map at_now c.args.lists.now in
    let m = c.in-Some.member in
    let left = c.loop-member.member-iterator.a.rest.items in
    let rest = c.next.new.self.a.rest.items in
    let steps = c.in-Some.ensures.steps in
    let key = next_key (cell_key lists) m c.in-Some.key left rest c.loop-member.member-iterator.b.rest.items c.next.new.self.b.rest.items steps.0.0 steps.1.0
    c.loop-member.invariant.keys in
    record {
      keys = key.1;
      asked = asked_step lists m c.in-Some.key left rest c.loop-member.asked.items c.push.new.self.items c.loop-member.different.keys
          c.insert_full.new.self.keys c.in_ok-cell.cell steps.0.0 key.0 c.in_ok-cell.ensures.index c.in_ok-cell.ensures.keys c.in_ok-push.ensures.items
          ∙ c.loop-member.invariant.asked;
    }

pub returns : goal.returns
returns c =
    let lists = map at_now c.args.lists.now in
    let members = c.loop-member.member-iterator.a.rest in
    let keys = c.loop-member.member-iterator.b.rest in
    let none : members.items ≡ [] = elim c.in-None.ensures.steps [
      | inl h ↦ nil_from_length members.items (sym members.ok.0 ∙ h.1.0)
      | inr h ↦ no_member (cell_key lists) members.items keys.items c.loop-member.invariant.keys (sym keys.ok.0 ∙ h.1.0)
    ] in
    sym (asked_all lists members.items c.loop-member.asked.items c.loop-member.different.keys none) ∙ c.loop-member.invariant.asked
