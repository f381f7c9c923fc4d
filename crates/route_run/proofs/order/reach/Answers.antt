use Rattle.std.proofs.Common.{length, ap, ◌∙◌, Result, Ok, Err, IfOk}
use Rattle.srp_core.specs.Problem.{count}
use Rattle.route_run.specs.Schedules.{run_of}
use Rattle.route_run.proofs.RankOrder.{order_is, order_by, all_single}
use Rattle.route_run.proofs.Reaching.{order_reaches}
use Rattle.route_run.proofs.order.reach.Goals as goal

if_ok : {X E : Type 0} {P Q : X → Type 0} (r : Result X E) → ((x : X) → P x → Q x) → IfOk r P → IfOk r Q
if_ok (Ok x) more is = more x is
if_ok (Err e) more is = tt

pub returns : goal.returns
returns c =
    let P = c.args.srp.now in
    let labels = c.as_slice.result.now in
    let read = c.as_slice-2.result.now in
    let order =
    order_is labels P (length labels) c.in_ok-ranks.ranks.items c.sort_by_size.new.ranks.items (ap length c.as_slice.ensures.all ∙ c.requires.fitting.total)
    c.in_ok-ranks.ensures.short c.in_ok-ranks.ensures.ranks c.in_ok-sort_by_size.ensures in
    record {
      order = if_ok c.activations_of.result (λ schedule is. order_by P labels c.args.labels.now c.sort_by_size.new.ranks.items read schedule
          c.as_slice.ensures.all c.as_slice-2.ensures.value is order) c.activations_of.ensures;
      single = if_ok c.activations_of.result (λ schedule is. all_single read schedule is) c.activations_of.ensures;
      reached = if_ok c.activations_of.result (λ schedule is.
          order_reaches P c.count-known.ensures.rules c.args.labels.now c.requires (run_of (count P) schedule)
          (order_by P labels c.args.labels.now c.sort_by_size.new.ranks.items read schedule c.as_slice.ensures.all c.as_slice-2.ensures.value is order))
          c.activations_of.ensures;
    }
