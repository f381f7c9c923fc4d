use Rattle.std.proofs.Common.{◌≡◌, ◌<◌, ℕ, List, length, get_or, Option, Some, None, ap, sym, ◌∙◌, subst, arith}
use Rattle.std.specs.Prelude.{slice_index, slice_set, replicate}
use Rattle.std.specs.List.{range_with_len}
use Rattle.std.proofs.lemmas.List.FromFn.{length-range_with_len}
use Rattle.srp_core.specs.declared.route.Route.{Route}
use Rattle.srp_core.specs.Filling.{IsLiftedPart}
use Rattle.solution_lift.specs.declared.tasks.Task.{Task}
use Rattle.solution_lift.proofs.Ranges.{get_any, range_at}
use Rattle.solution_lift.proofs.TasksDone.{IsSoFar, none_so_far, more_so_far, order_of, next_of, first_sourced, known_by}
use Rattle.solution_lift.proofs.LiftLoop.{next_task, all_done, next_part}
use Rattle.solution_lift.proofs.lifting.lift_routes.Goals as goal

pub sources_of-requires-clause-long : goal.sources_of-requires-clause-long
sources_of-requires-clause-long c =
    let numbers = ap (length {A = ℕ}) c.numbers.ensures in
    let own = ap (length {A = ℕ}) (c.deref.ensures.value ∙ c.in_ok-own.ensures) in
    let long = length-range_with_len 0 c.count.result in
    let count = c.count.ensures.count in
    omega arith

pub loop-task-init : goal.loop-task-init
loop-task-init c =
    let is = c.in_ok-upper.ensures ∙ ap (λ (n : ℕ). replicate {A = Option Route} n None) c.count-count.ensures.count in
    record {
      part = subst (IsLiftedPart c.args.srp.now c.args.small.now c.args.p.now c.args.labels.now) (sym is)
          (c.lift_steps.ensures.empty c.args.srp.now c.args.small.now c.args.p.now c.args.labels.now);
      so_far = subst (λ (ls : List (Option Route)). IsSoFar c.deref-task-items.result.now ls 0) (sym c.in_ok-upper.ensures)
          (none_so_far c.deref-task-items.result.now c.count-count.result);
    }

pub next-requires-clause-router : goal.next-requires-clause-router
next-requires-clause-router c =
    let S = c.args.srp.now in
    let Q = c.args.small.now in
    let groups : List ℕ = c.args.p.now in
    let lower = c.args.labels.now in
    let can = c.requires in
    let tasks = c.deref-task-items.result.now in
    let order = order_of c.as_slice.result.now c.args.labels.now c.deref-2.result.now c.in_ok-groups.groups.items c.args.p.now c.in_ok-tasks.tasks.items
    c.deref-task-items.result.now c.in_ok-tasks.ensures c.as_slice.ensures.all c.deref-2.ensures.value c.in_ok-groups.ensures
    c.deref-task-items.ensures.value in
    let i = c.loop-task.task-index in
    let none : Task = record { place = 0; size = 0 } in
    let task = get_or c.deref-task-items.result.now c.loop-task.task-index (record { place = 0; size = 0 }) in
    let g = get_any c.deref-task-items.result.now c.loop-task.task-index (record { place = 0; size = 0 }) c.loop-task-test.true in
    let e = (order.each i task g).0 in
    let total = c.requires.admissible.total in
    omega arith

pub next-requires-clause-place : goal.next-requires-clause-place
next-requires-clause-place c =
    let S = c.args.srp.now in
    let Q = c.args.small.now in
    let groups : List ℕ = c.args.p.now in
    let lower = c.args.labels.now in
    let can = c.requires in
    let tasks = c.deref-task-items.result.now in
    let order = order_of c.as_slice.result.now c.args.labels.now c.deref-2.result.now c.in_ok-groups.groups.items c.args.p.now c.in_ok-tasks.tasks.items
    c.deref-task-items.result.now c.in_ok-tasks.ensures c.as_slice.ensures.all c.deref-2.ensures.value c.in_ok-groups.ensures
    c.deref-task-items.ensures.value in
    let i = c.loop-task.task-index in
    let none : Task = record { place = 0; size = 0 } in
    let task = get_or c.deref-task-items.result.now c.loop-task.task-index (record { place = 0; size = 0 }) in
    let g = get_any c.deref-task-items.result.now c.loop-task.task-index (record { place = 0; size = 0 }) c.loop-task-test.true in
    let e = (order.each i task g).0 in
    let long = ap (length {A = ℕ}) (c.deref-in-loop-task.ensures.value ∙ c.in_ok-groups.ensures) in
    omega arith

pub set-requires : goal.set-requires
set-requires c =
    let S = c.args.srp.now in
    let Q = c.args.small.now in
    let groups : List ℕ = c.args.p.now in
    let lower = c.args.labels.now in
    let can = c.requires in
    let tasks = c.deref-task-items.result.now in
    let order = order_of c.as_slice.result.now c.args.labels.now c.deref-2.result.now c.in_ok-groups.groups.items c.args.p.now c.in_ok-tasks.tasks.items
    c.deref-task-items.result.now c.in_ok-tasks.ensures c.as_slice.ensures.all c.deref-2.ensures.value c.in_ok-groups.ensures
    c.deref-task-items.ensures.value in
    let i = c.loop-task.task-index in
    let none : Task = record { place = 0; size = 0 } in
    let task = get_or c.deref-task-items.result.now c.loop-task.task-index (record { place = 0; size = 0 }) in
    let g = get_any c.deref-task-items.result.now c.loop-task.task-index (record { place = 0; size = 0 }) c.loop-task-test.true in
    let e = (order.each i task g).0 in
    let total = c.requires.admissible.total in
    let long = c.loop-task.invariant.part.fitting.total in
    omega arith

pub loop-task-preserved : goal.loop-task-preserved
loop-task-preserved c =
    let S = c.args.srp.now in
    let Q = c.args.small.now in
    let groups : List ℕ = c.args.p.now in
    let lower = c.args.labels.now in
    let can = c.requires in
    let tasks = c.deref-task-items.result.now in
    let order = order_of c.as_slice.result.now c.args.labels.now c.deref-2.result.now c.in_ok-groups.groups.items c.args.p.now c.in_ok-tasks.tasks.items
    c.deref-task-items.result.now c.in_ok-tasks.ensures c.as_slice.ensures.all c.deref-2.ensures.value c.in_ok-groups.ensures
    c.deref-task-items.ensures.value in
    let i = c.loop-task.task-index in
    let none : Task = record { place = 0; size = 0 } in
    let task = get_or c.deref-task-items.result.now c.loop-task.task-index (record { place = 0; size = 0 }) in
    let g = get_any c.deref-task-items.result.now c.loop-task.task-index (record { place = 0; size = 0 }) c.loop-task-test.true in
    let E = c.loop-task.upper in
    let u = task.place in
    let total = c.requires.admissible.total in
    let n = next_task S Q groups lower tasks order total E i task c.loop-task.invariant.part c.loop-task.invariant.so_far g in
    let steps = c.lift_steps.ensures in
    let known = known_by c.numbers.result.now c.args.small.now.numbers c.deref.result.now (range_with_len 0 c.count.result) c.in_ok-sources.sources
    c.numbers.ensures (c.deref.ensures.value ∙ c.in_ok-own.ensures) c.in_ok-sources.ensures in
    let is = next_of S _ lower _ _ groups _ _ groups c.in_ok-sources.sources E u c.in_ok-route.route c.in_ok-route.ensures c.as_slice-asked.ensures.all
    c.deref-in-loop-task.ensures.value c.in_ok-groups.ensures c.deref-in-loop-task-2.ensures.value c.in_ok-groups.ensures in
    let t = next_part S Q groups lower E u n.0 c.in_ok-sources.sources c.in_ok-route.route n.1
    (λ start init. steps.started S Q groups lower E can u n.0 start n.1 init)
    (λ none. steps.source S Q groups lower can u n.0 n.1.inside n.1.asked none)
    (λ s none on. steps.found S Q groups lower E can u s n.0 n.1 none on)
    (λ s r none on takes. steps.taken S Q groups lower E can u s n.0 r n.1 none on takes)
    (c.across_quotients.ensures S Q groups can.problem_rules can.small_rules can.admissible can.quotient n.0)
    (λ s on. (let at = range_at 0 c.count.result s (let few = on.inside in let size = c.count.ensures.count in omega arith) in
    first_sourced Q (range_with_len 0 c.count.result) c.in_ok-sources.sources known n.0 s on
    ∙ ap Some (let same : slice_index (range_with_len 0 c.count.result) s ≡ s = omega arith in same)))
    is in
    let inside : task.place < length c.loop-task.upper = (let e = (order.each i task g).0 in let long = c.loop-task.invariant.part.fitting.total in omega arith)
    in
    record {
      part = subst (IsLiftedPart c.args.srp.now c.args.small.now c.args.p.now c.args.labels.now)
          (sym (c.set.ensures ∙ ap (slice_set c.loop-task.upper task.place) t.1)) t.2;
      so_far = more_so_far lower groups tasks E c.set.new.self i task c.in_ok-route.route t.0 order c.loop-task.invariant.so_far g inside c.set.ensures t.1;
    }

pub returns : goal.returns
returns c =
    let S = c.args.srp.now in
    let Q = c.args.small.now in
    let groups : List ℕ = c.args.p.now in
    let lower = c.args.labels.now in
    let can = c.requires in
    let tasks = c.deref-task-items.result.now in
    let order = order_of c.as_slice.result.now c.args.labels.now c.deref-2.result.now c.in_ok-groups.groups.items c.args.p.now c.in_ok-tasks.tasks.items
    c.deref-task-items.result.now c.in_ok-tasks.ensures c.as_slice.ensures.all c.deref-2.ensures.value c.in_ok-groups.ensures
    c.deref-task-items.ensures.value in
    let total = c.requires.admissible.total in
    c.lift_steps.ensures.whole S Q groups lower c.loop-task.upper can c.loop-task.invariant.part
    (all_done S Q groups lower tasks order total c.loop-task.upper c.loop-task.task-index c.loop-task.invariant.so_far c.loop-task-test.false)
