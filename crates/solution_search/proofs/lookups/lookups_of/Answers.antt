use Rattle.std.proofs.Common.{ℕ, ◌<◌, get_or, sym, subst}
use Rattle.solution_search.proofs.Sure.{edge_inside}
use Rattle.solution_search.proofs.lookups.lookups_of.Goals as goal

pub exports_of-requires : goal.exports_of-requires
exports_of-requires c = λ k d h. subst (λ (n : ℕ). (get_or c.edges.result.now k d).exporter < n) (sym c.count.ensures.count)
    (edge_inside c.args.srp.now c.count.ensures.rules c.edges.result.now c.edges.ensures k d h).exporter_in
