use Rattle.std.proofs.Common.{ℕ, ◌<◌, get_or, sym, subst}
use Rattle.route_run.proofs.KnownRests.{edge_inside}
use Rattle.route_run.proofs.activation.Runner.new.Goals as goal

pub exports_of-requires : goal.exports_of-requires
exports_of-requires c = λ k d h. subst (λ (n : ℕ). (get_or c.edges.result.now k d).exporter < n) (sym c.count.ensures.count)
    (edge_inside c.args.srp.now c.count.ensures.rules c.edges.result.now c.edges.ensures k d h).exporter_in
