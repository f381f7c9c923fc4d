use Rattle.std.proofs.Common.{◌≡◌, ◌∙◌, true, false, sym, ap, arith, Option}
use Rattle.base_kit.specs.declared.protocol.Protocol.{Protocol}
use Rattle.srp_core.specs.declared.route.Route.{Route}
use Rattle.srp_core.specs.Problem.{initial}
use Rattle.srp_core.specs.Stability.{label}
use Rattle.solution_check.specs.Breaks.{wrong_origin, not_a_candidate, better_candidate, none_with_candidate}
use Rattle.solution_check.specs.Offers.{is_wrong_origin}
use Rattle.solution_check.proofs.Judged.{wrong_start, right_start, not_held, beaten, has_one, fine_without, fine_with, not_lacking, read_at, not_true, not_false}
use Rattle.route_offers.proofs.OwnEdges.{own_fit}
use Rattle.solution_check.proofs.judgement.judge.Goals as goal

pub returns-then-is_wrong_origin : goal.returns-then-is_wrong_origin
returns-then-is_wrong_origin c =
    let P = c.args.srp.now in
    let L = c.args.labels.now in
    let u = c.args.router in
    let held : label L u ≡ c.index-as_slice-router.result = read_at L c.as_slice.result.now u c.index-as_slice-router.result c.as_slice.ensures.all
    (omega (arith, c.requires.router, c.requires.labels.total)) c.index-as_slice-router.is in
    let starts : initial P u ≡ c.index-init-router.result = read_at P.init c.init.result.now u c.index-init-router.result c.init.ensures
    (omega (arith, c.requires.router, c.count-known.ensures.rules.tables.init)) c.index-init-router.is in
    let judged : is_wrong_origin P.protocol (initial P u) (label L u) ≡ true =
    ap (λ (q : Protocol). is_wrong_origin q (initial P u) (label L u)) (sym c.protocol.ensures)
    ∙ ap (λ (s : Option Route). is_wrong_origin c.protocol.result s (label L u)) starts
    ∙ ap (is_wrong_origin c.protocol.result c.index-init-router.result) held ∙ sym c.is_wrong_origin.ensures ∙ c.if-is_wrong_origin.true in
    wrong_origin (wrong_start P L u judged)

pub has_candidate-requires-clause-edges : goal.has_candidate-requires-clause-edges
has_candidate-requires-clause-edges c = own_fit c.args.srp.now c.args.router c.args.edges.now c.count-known.ensures.rules c.requires.own

pub weigh-requires-clause-edges : goal.weigh-requires-clause-edges
weigh-requires-clause-edges c = own_fit c.args.srp.now c.args.router c.args.edges.now c.count-known.ensures.rules c.requires.own

pub weigh-requires-clause-label : goal.weigh-requires-clause-label
weigh-requires-clause-label c =
    let P = c.args.srp.now in
    let L = c.args.labels.now in
    let u = c.args.router in
    let held : label L u ≡ c.index-as_slice-router.result = read_at L c.as_slice.result.now u c.index-as_slice-router.result c.as_slice.ensures.all
    (omega (arith, c.requires.router, c.requires.labels.total)) c.index-as_slice-router.is in
    held ∙ c.in-Some.is

pub returns-then-branch : goal.returns-then-branch
returns-then-branch c =
    let P = c.args.srp.now in
    let L = c.args.labels.now in
    let u = c.args.router in
    let held : label L u ≡ c.index-as_slice-router.result = read_at L c.as_slice.result.now u c.index-as_slice-router.result c.as_slice.ensures.all
    (omega (arith, c.requires.router, c.requires.labels.total)) c.index-as_slice-router.is in
    let starts : initial P u ≡ c.index-init-router.result = read_at P.init c.init.result.now u c.index-init-router.result c.init.ensures
    (omega (arith, c.requires.router, c.count-known.ensures.rules.tables.init)) c.index-init-router.is in
    let judged : is_wrong_origin P.protocol (initial P u) (label L u) ≡ false =
    ap (λ (q : Protocol). is_wrong_origin q (initial P u) (label L u)) (sym c.protocol.ensures)
    ∙ ap (λ (s : Option Route). is_wrong_origin c.protocol.result s (label L u)) starts
    ∙ ap (is_wrong_origin c.protocol.result c.index-init-router.result) held ∙ sym c.is_wrong_origin.ensures ∙ c.if-is_wrong_origin.false in
    let own = c.args.edges.now in
    let are = c.requires.own in
    none_with_candidate (right_start P L u judged) (has_one P L u own are (held ∙ c.in-None.is) (sym c.in_ok-has_candidate-in-None.ensures ∙ c.if-branch.true))

pub returns-else-branch : goal.returns-else-branch
returns-else-branch c =
    let P = c.args.srp.now in
    let L = c.args.labels.now in
    let u = c.args.router in
    let held : label L u ≡ c.index-as_slice-router.result = read_at L c.as_slice.result.now u c.index-as_slice-router.result c.as_slice.ensures.all
    (omega (arith, c.requires.router, c.requires.labels.total)) c.index-as_slice-router.is in
    let own = c.args.edges.now in
    let are = c.requires.own in
    fine_without P L u own are (held ∙ c.in-None.is) (sym c.in_ok-has_candidate-in-None.ensures ∙ c.if-branch.false)

pub returns-then-not-weight : goal.returns-then-not-weight
returns-then-not-weight c =
    let P = c.args.srp.now in
    let L = c.args.labels.now in
    let u = c.args.router in
    let held : label L u ≡ c.index-as_slice-router.result = read_at L c.as_slice.result.now u c.index-as_slice-router.result c.as_slice.ensures.all
    (omega (arith, c.requires.router, c.requires.labels.total)) c.index-as_slice-router.is in
    let starts : initial P u ≡ c.index-init-router.result = read_at P.init c.init.result.now u c.index-init-router.result c.init.ensures
    (omega (arith, c.requires.router, c.count-known.ensures.rules.tables.init)) c.index-init-router.is in
    let judged : is_wrong_origin P.protocol (initial P u) (label L u) ≡ false =
    ap (λ (q : Protocol). is_wrong_origin q (initial P u) (label L u)) (sym c.protocol.ensures)
    ∙ ap (λ (s : Option Route). is_wrong_origin c.protocol.result s (label L u)) starts
    ∙ ap (is_wrong_origin c.protocol.result c.index-init-router.result) held ∙ sym c.is_wrong_origin.ensures ∙ c.if-is_wrong_origin.false in
    let own = c.args.edges.now in
    let are = c.requires.own in
    not_a_candidate (right_start P L u judged) (not_held P L u own are c.in-Some.route (held ∙ c.in-Some.is)
    (sym c.in_ok-weight-in-Some.ensures.held ∙ not_true c.in_ok-weight-in-Some.weight.held c.if-not-weight.true))

pub returns-then-weight : goal.returns-then-weight
returns-then-weight c =
    let P = c.args.srp.now in
    let L = c.args.labels.now in
    let u = c.args.router in
    let held : label L u ≡ c.index-as_slice-router.result = read_at L c.as_slice.result.now u c.index-as_slice-router.result c.as_slice.ensures.all
    (omega (arith, c.requires.router, c.requires.labels.total)) c.index-as_slice-router.is in
    let starts : initial P u ≡ c.index-init-router.result = read_at P.init c.init.result.now u c.index-init-router.result c.init.ensures
    (omega (arith, c.requires.router, c.count-known.ensures.rules.tables.init)) c.index-init-router.is in
    let judged : is_wrong_origin P.protocol (initial P u) (label L u) ≡ false =
    ap (λ (q : Protocol). is_wrong_origin q (initial P u) (label L u)) (sym c.protocol.ensures)
    ∙ ap (λ (s : Option Route). is_wrong_origin c.protocol.result s (label L u)) starts
    ∙ ap (is_wrong_origin c.protocol.result c.index-init-router.result) held ∙ sym c.is_wrong_origin.ensures ∙ c.if-is_wrong_origin.false in
    let own = c.args.edges.now in
    let are = c.requires.own in
    better_candidate (right_start P L u judged) (not_lacking P L u own are c.in-Some.route
    (sym c.in_ok-weight-in-Some.ensures.held ∙ not_false c.in_ok-weight-in-Some.weight.held c.if-not-weight.false) (held ∙ c.in-Some.is))
    (beaten P L u own are c.in-Some.route (held ∙ c.in-Some.is) (sym c.in_ok-weight-in-Some.ensures.beaten ∙ c.if-weight.true))

pub returns-else-weight : goal.returns-else-weight
returns-else-weight c =
    let P = c.args.srp.now in
    let L = c.args.labels.now in
    let u = c.args.router in
    let held : label L u ≡ c.index-as_slice-router.result = read_at L c.as_slice.result.now u c.index-as_slice-router.result c.as_slice.ensures.all
    (omega (arith, c.requires.router, c.requires.labels.total)) c.index-as_slice-router.is in
    let own = c.args.edges.now in
    let are = c.requires.own in
    fine_with P L u own are c.in-Some.route (held ∙ c.in-Some.is)
    (sym c.in_ok-weight-in-Some.ensures.held ∙ not_false c.in_ok-weight-in-Some.weight.held c.if-not-weight.false)
    (sym c.in_ok-weight-in-Some.ensures.beaten ∙ c.if-weight.false)
