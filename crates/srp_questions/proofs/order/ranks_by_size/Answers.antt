use Rattle.std.proofs.Common.{List, Option, subst}
use Rattle.srp_core.specs.declared.route.Route.{Route}
use Rattle.srp_questions.specs.Walks.{AreRanks}
use Rattle.srp_questions.proofs.SizeOrder.{sorted_ranks}
use Rattle.srp_questions.proofs.order.ranks_by_size.Goals as goal

pub returns : goal.returns
returns c = sorted_ranks c.args.labels.now c.in_ok-ranks.ranks.items c.sort_by_size.new.ranks.items
    (subst (λ (l : List (Option Route)). AreRanks l c.in_ok-ranks.ranks.items) c.as_slice.ensures c.in_ok-ranks.ensures) c.sort_by_size.ensures.same
    c.sort_by_size.ensures.rising
