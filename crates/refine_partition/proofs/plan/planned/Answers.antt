use Rattle.std.proofs.Common.{◌≡◌, ℕ, Vec, ap, ◌∙◌}
use Rattle.std.specs.declared.alloc.Global.{Global}
use Rattle.base_kit.specs.Partition.{members_of}
use Rattle.refine_partition.proofs.MemberLemmas.{members_are}
use Rattle.refine_partition.proofs.PlanLemmas.{planned as planned_by, queue_is}
use Rattle.refine_partition.proofs.plan.planned.Goals as goal

pub list_arrivals-requires-clause-members : goal.list_arrivals-requires-clause-members
list_arrivals-requires-clause-members c =
    let read : c.deref.result.now ≡ members_of c.args.numbers.now c.args.taken =
    c.deref.ensures.value ∙ ap (λ (v : Vec ℕ Global). v.items) c.index-blocks-taken.is ∙ c.requires.numbered.members.each c.args.taken _ c.requires.known in
    rw read (members_are c.args.numbers.now c.args.taken)

pub renumbered-requires-clause-queue : goal.renumbered-requires-clause-queue
renumbered-requires-clause-queue c = rw c.deref-6.ensures.value (queue_is _ _ _ c.in_ok-queue.ensures)

pub returns : goal.returns
returns c = planned_by _ _ _ _ _ _ _ _ _ _ _ _ c.requires.one_number_each c.requires.numbered c.in_ok-list_arrivals.ensures.arrivals
    (rw (c.in_ok-classes.ensures, c.deref-2.ensures.value) at c.in_ok-class_count.ensures.classes)
    c.in_ok-class_count.ensures.reached
    c.in_ok-list_touched.ensures.in_order
    (rw c.deref-3.ensures.value at c.in_ok-list_touched.ensures.touched)
    (rw c.deref-4.ensures.value at c.in_ok-queue.ensures)
    (rw (c.deref-5.ensures.value, c.deref-6.ensures.value) at c.in_ok-renumbering.ensures)
