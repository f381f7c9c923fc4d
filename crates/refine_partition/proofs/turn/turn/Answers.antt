use Rattle.std.proofs.Common.{rules, ◌≡◌, ℕ, ◌+◌, Vec, length, get_or, ◌∙◌, sym, ap, arith}
use Rattle.std.specs.declared.alloc.Global.{Global}
use Rattle.refine_partition.proofs.TurnLemmas.{parted, divided}
use Rattle.refine_partition.proofs.turn.turn.Goals as goal

pub list_arrivals-requires-clause-members : goal.list_arrivals-requires-clause-members
list_arrivals-requires-clause-members g c =
    let numbers : c.deref-2.result.now ≡ c.deref.result.now = c.deref-2.ensures.value ∙ sym c.deref.ensures.value in
    let list : c.deref-3.result.now ≡ (get_or c.keep_members.new.lists.items c.args.taken c.index-members.result.now).items =
    c.deref-3.ensures.value ∙ ap (λ (v : Vec ℕ Global). v.items) c.index-members.ensures in
    rw (numbers, list) (c.keep_members.ensures.members c.index-members.result.now)

pub returns-clause-split : goal.returns-clause-split
returns-clause-split g c =
    let counted : c.len-count.result ≡ length c.args.blocks.now.lists.items = search rules in
    let arrived = rw c.deref-2.ensures.value at c.in_ok-list_arrivals.ensures.arrivals in
    let are = rw (c.deref-4.ensures.value, c.requires.settled.classes_are, counted) at c.in_ok-_next.ensures.classes in
    let moved = rw (c.deref-7.ensures.value, c.deref-9.ensures.value, c.keep_members.ensures.total) at c.in_ok-move_reached.ensures.moved in
    let total = c.in_ok-move_reached.ensures.total in
    let kept = c.keep_members.ensures.total in
    let size : length c.move_reached.new.lists.items ≡ length c.args.blocks.now.lists.items + length c.move_reached.new.pieces.origins.items = omega arith in
    divided _ _ _ _ _ _ _ _ _ _ _ c.requires.one_number_each c.requires.settled.listed.below arrived are moved size

pub returns-clause-parted : goal.returns-clause-parted
returns-clause-parted g c =
    let counted : c.len-count.result ≡ length c.args.blocks.now.lists.items = search rules in
    let arrived = rw c.deref-2.ensures.value at c.in_ok-list_arrivals.ensures.arrivals in
    let are = rw (c.deref-4.ensures.value, c.requires.settled.classes_are, counted) at c.in_ok-_next.ensures.classes in
    let moved = rw (c.deref-7.ensures.value, c.deref-9.ensures.value, c.keep_members.ensures.total) at c.in_ok-move_reached.ensures.moved in
    let total = c.in_ok-move_reached.ensures.total in
    let kept = c.keep_members.ensures.total in
    let size : length c.move_reached.new.lists.items ≡ length c.args.blocks.now.lists.items + length c.move_reached.new.pieces.origins.items = omega arith in
    parted _ _ _ _ _ _ _ _ _ _ _ c.requires.one_number_each c.requires.settled.listed.below arrived are moved size
