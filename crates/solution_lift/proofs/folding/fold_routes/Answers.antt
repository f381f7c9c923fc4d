-- Each turn of the loop gives a group its route: the groups of smaller labels have theirs, so that the path is known. What the
-- groups have is a part of the fold after each turn, and the whole of it after the last one.
use Rattle.std.proofs.Common.{◌<◌, ℕ, List, length, get_or, Option, None, refl, ap, sym, ◌∙◌, subst, arith}
use Rattle.std.specs.Prelude.{slice_index, slice_set, replicate}
use Rattle.std.specs.List.{range_with_len}
use Rattle.std.proofs.lemmas.List.FromFn.{length-map-range_with_len}
use Rattle.srp_core.specs.declared.route.Route.{Route}
use Rattle.srp_core.specs.Filling.{IsFoldedPart}
use Rattle.srp_quotient.specs.Groups.{first_member}
use Rattle.solution_lift.proofs.Ranges.{get_any}
use Rattle.solution_lift.proofs.TasksDone.{IsSoFar, none_so_far, more_so_far, order_of, next_of, first_sourced, known_by}
use Rattle.solution_lift.proofs.FoldLoop.{next_group, all_done, group_first, next_part}
use Rattle.solution_lift.proofs.folding.fold_routes.Goals as goal

pub tasks_of-requires : goal.tasks_of-requires
tasks_of-requires c =
    let long = ap (length {A = ℕ}) (c.deref-2.ensures.value ∙ c.in_ok-firsts.ensures) ∙ length-map-range_with_len (first_member c.args.p.now) 0 c.args.count in
    let few = c.requires.can.small_rules.tables.few_routers in
    let size = c.requires.size in
    omega arith

pub loop-task-init : goal.loop-task-init
loop-task-init c =
    let is = c.in_ok-lower.ensures ∙ ap (λ (n : ℕ). replicate {A = Option Route} n None) (sym c.requires.size) in
    record {
      part = subst (IsFoldedPart c.args.srp.now c.args.small.now c.args.p.now c.args.labels.now) (sym is)
          (c.fold_steps.ensures.empty c.args.srp.now c.args.small.now c.args.p.now c.args.labels.now);
      so_far = subst (λ (ls : List (Option Route)). IsSoFar c.deref-task-items.result.now ls 0) (sym c.in_ok-lower.ensures)
          (none_so_far c.deref-task-items.result.now c.args.count);
    }

pub next-requires-clause-router : goal.next-requires-clause-router
next-requires-clause-router c =
    let S = c.args.srp.now in
    let Q = c.args.small.now in
    let groups : List ℕ = c.args.p.now in
    let labels = c.args.labels.now in
    let can = c.requires.can in
    let tasks = c.deref-task-items.result.now in
    let order = order_of c.as_slice.result.now c.args.labels.now c.deref-2.result.now c.in_ok-firsts.firsts.items c.in_ok-firsts.firsts.items
    c.in_ok-tasks.tasks.items c.deref-task-items.result.now c.in_ok-tasks.ensures c.as_slice.ensures.all c.deref-2.ensures.value refl
    c.deref-task-items.ensures.value in
    let total = c.requires.can.admissible.total in
    let firsts = c.in_ok-firsts.firsts.items in
    let long = ap (length {A = ℕ}) c.in_ok-firsts.ensures ∙ length-map-range_with_len (first_member c.args.p.now) 0 c.args.count in
    let i = c.loop-task.task-index in
    let task = get_or c.deref-task-items.result.now c.loop-task.task-index (record { place = 0; size = 0 }) in
    let g = get_any c.deref-task-items.result.now c.loop-task.task-index (record { place = 0; size = 0 }) c.loop-task-test.true in
    let below : task.place < c.args.count = (let e = (order.each i task g).0 in omega arith) in
    let size = c.requires.size in
    omega arith

pub next-requires-clause-place : goal.next-requires-clause-place
next-requires-clause-place c =
    let S = c.args.srp.now in
    let Q = c.args.small.now in
    let groups : List ℕ = c.args.p.now in
    let labels = c.args.labels.now in
    let can = c.requires.can in
    let tasks = c.deref-task-items.result.now in
    let order = order_of c.as_slice.result.now c.args.labels.now c.deref-2.result.now c.in_ok-firsts.firsts.items c.in_ok-firsts.firsts.items
    c.in_ok-tasks.tasks.items c.deref-task-items.result.now c.in_ok-tasks.ensures c.as_slice.ensures.all c.deref-2.ensures.value refl
    c.deref-task-items.ensures.value in
    let total = c.requires.can.admissible.total in
    let firsts = c.in_ok-firsts.firsts.items in
    let long = ap (length {A = ℕ}) c.in_ok-firsts.ensures ∙ length-map-range_with_len (first_member c.args.p.now) 0 c.args.count in
    let i = c.loop-task.task-index in
    let task = get_or c.deref-task-items.result.now c.loop-task.task-index (record { place = 0; size = 0 }) in
    let g = get_any c.deref-task-items.result.now c.loop-task.task-index (record { place = 0; size = 0 }) c.loop-task-test.true in
    let below : task.place < c.args.count = (let e = (order.each i task g).0 in omega arith) in
    let own = ap (length {A = ℕ}) c.deref-in-loop-task.ensures.value in
    omega arith

pub set-requires : goal.set-requires
set-requires c =
    let S = c.args.srp.now in
    let Q = c.args.small.now in
    let groups : List ℕ = c.args.p.now in
    let labels = c.args.labels.now in
    let can = c.requires.can in
    let tasks = c.deref-task-items.result.now in
    let order = order_of c.as_slice.result.now c.args.labels.now c.deref-2.result.now c.in_ok-firsts.firsts.items c.in_ok-firsts.firsts.items
    c.in_ok-tasks.tasks.items c.deref-task-items.result.now c.in_ok-tasks.ensures c.as_slice.ensures.all c.deref-2.ensures.value refl
    c.deref-task-items.ensures.value in
    let total = c.requires.can.admissible.total in
    let firsts = c.in_ok-firsts.firsts.items in
    let long = ap (length {A = ℕ}) c.in_ok-firsts.ensures ∙ length-map-range_with_len (first_member c.args.p.now) 0 c.args.count in
    let i = c.loop-task.task-index in
    let task = get_or c.deref-task-items.result.now c.loop-task.task-index (record { place = 0; size = 0 }) in
    let g = get_any c.deref-task-items.result.now c.loop-task.task-index (record { place = 0; size = 0 }) c.loop-task-test.true in
    let below : task.place < c.args.count = (let e = (order.each i task g).0 in omega arith) in
    let all = c.loop-task.invariant.part.fitting.total in
    let size = c.requires.size in
    omega arith

pub loop-task-preserved : goal.loop-task-preserved
loop-task-preserved c =
    let S = c.args.srp.now in
    let Q = c.args.small.now in
    let groups : List ℕ = c.args.p.now in
    let labels = c.args.labels.now in
    let can = c.requires.can in
    let tasks = c.deref-task-items.result.now in
    let order = order_of c.as_slice.result.now c.args.labels.now c.deref-2.result.now c.in_ok-firsts.firsts.items c.in_ok-firsts.firsts.items
    c.in_ok-tasks.tasks.items c.deref-task-items.result.now c.in_ok-tasks.ensures c.as_slice.ensures.all c.deref-2.ensures.value refl
    c.deref-task-items.ensures.value in
    let total = c.requires.can.admissible.total in
    let firsts = c.in_ok-firsts.firsts.items in
    let long = ap (length {A = ℕ}) c.in_ok-firsts.ensures ∙ length-map-range_with_len (first_member c.args.p.now) 0 c.args.count in
    let i = c.loop-task.task-index in
    let task = get_or c.deref-task-items.result.now c.loop-task.task-index (record { place = 0; size = 0 }) in
    let g = get_any c.deref-task-items.result.now c.loop-task.task-index (record { place = 0; size = 0 }) c.loop-task-test.true in
    let below : task.place < c.args.count = (let e = (order.each i task g).0 in omega arith) in
    let E = c.loop-task.lower in
    let u = slice_index c.in_ok-firsts.firsts.items task.place in
    let n = next_group S Q groups c.args.count labels firsts tasks order c.in_ok-firsts.ensures c.requires.numbered total
    (λ u v h k same. c.equal_keys.ensures S groups labels can.problem_rules can.admissible can.stable u v h k same) E i task c.loop-task.invariant.part
    c.loop-task.invariant.so_far g in
    let there = group_first S Q groups c.args.count labels firsts tasks order c.in_ok-firsts.ensures c.requires.numbered total
    (λ u v h k same. c.equal_keys.ensures S groups labels can.problem_rules can.admissible can.stable u v h k same) task.place below in
    let steps = c.fold_steps.ensures in
    let known = known_by c.numbers.result.now c.args.srp.now.numbers c.deref.result.now c.args.p.now c.in_ok-sources.sources c.numbers.ensures
    (c.deref.ensures.value ∙ c.in_ok-groups.ensures) c.in_ok-sources.ensures in
    let is = next_of Q _ labels _ _ firsts _ _ (range_with_len 0 c.args.count) c.in_ok-sources.sources E task.place c.in_ok-route.route c.in_ok-route.ensures
    c.as_slice-asked.ensures.all c.deref-in-loop-task.ensures.value refl c.deref-in-loop-task-2.ensures.value c.in_ok-own.ensures in
    let t = next_part S Q groups c.args.count labels E firsts task.place u n.0 c.in_ok-sources.sources c.in_ok-route.route refl there
    (can.quotient.origins u n.1.inside) can.small_rules c.requires.size n.1
    (λ start init. steps.started S Q groups labels E can u n.0 start n.1 init)
    (λ none. steps.source S Q groups labels can u n.0 n.1.inside n.1.asked none)
    (λ s none on. steps.found S Q groups labels E can u s n.0 n.1 none on)
    (λ s m none on takes. steps.taken S Q groups labels E can u s n.0 m n.1 none on takes)
    (c.across_quotients.ensures S Q groups can.problem_rules can.small_rules can.admissible can.quotient n.0)
    (λ s on. first_sourced S groups c.in_ok-sources.sources known n.0 s on)
    is in
    let inside : task.place < length c.loop-task.lower = (let all = c.loop-task.invariant.part.fitting.total in let size = c.requires.size in omega arith) in
    record {
      part = subst (IsFoldedPart c.args.srp.now c.args.small.now c.args.p.now c.args.labels.now)
          (sym (c.set.ensures ∙ ap (slice_set c.loop-task.lower task.place) t.1)) t.2;
      so_far = more_so_far labels firsts tasks E c.set.new.self i task c.in_ok-route.route t.0 order c.loop-task.invariant.so_far g inside c.set.ensures t.1;
    }

pub returns : goal.returns
returns c =
    let S = c.args.srp.now in
    let Q = c.args.small.now in
    let groups : List ℕ = c.args.p.now in
    let labels = c.args.labels.now in
    let can = c.requires.can in
    let tasks = c.deref-task-items.result.now in
    let order = order_of c.as_slice.result.now c.args.labels.now c.deref-2.result.now c.in_ok-firsts.firsts.items c.in_ok-firsts.firsts.items
    c.in_ok-tasks.tasks.items c.deref-task-items.result.now c.in_ok-tasks.ensures c.as_slice.ensures.all c.deref-2.ensures.value refl
    c.deref-task-items.ensures.value in
    let total = c.requires.can.admissible.total in
    let firsts = c.in_ok-firsts.firsts.items in
    let long = ap (length {A = ℕ}) c.in_ok-firsts.ensures ∙ length-map-range_with_len (first_member c.args.p.now) 0 c.args.count in
    c.fold_steps.ensures.whole S Q groups labels c.loop-task.lower can c.loop-task.invariant.part
    (all_done S Q groups c.args.count labels firsts tasks order c.in_ok-firsts.ensures c.requires.numbered total
    (λ u v h k same. c.equal_keys.ensures S groups labels can.problem_rules can.admissible can.stable u v h k same) c.loop-task.lower c.loop-task.task-index
    c.loop-task.invariant.so_far c.loop-task-test.false)
