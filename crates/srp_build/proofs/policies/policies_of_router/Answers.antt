use Rattle.std.proofs.Common.{◌≡◌, ℕ, List, ◌<◌, length, slice_get, Some, refl, sym, ◌∙◌, ap, subst, arith}
use Rattle.std.proofs.lemmas.Option.{slice_get_read}
use Rattle.cfg_ast.specs.declared.bgp.Neighbor.{Neighbor}
use Rattle.cfg_ast.specs.declared.network.Router.{Router}
use Rattle.cfg_ast.specs.meaning.Topology.{neighbors_of}
use Rattle.srp_build.specs.declared.lines.LinePlace.{LinePlace}
use Rattle.srp_build.specs.LinePolicies.{ArePoliciesOf, HasPolicies, IsLineAt, IsSeenOrNumbered}
use Rattle.srp_build.proofs.FirstUse.{length_last}
use Rattle.srp_build.proofs.LinePolicyLemmas.{LineSteps, line_step}
use Rattle.srp_build.proofs.policies.policies_of_router.Goals as goal

pub loop-i-preserved : goal.loop-i-preserved
loop-i-preserved c =
    let routers = c.args.routers.now in
    let router = c.index-routers-at.result in
    let line = c.index-lines-i.result in
    let numbers = c.loop-i.numbers in
    let number = c.in_ok-number.number in
    let old = c.loop-i.table in
    let new = c.policy_of_line.new.table in
    let total = c.loop-i.invariant.total in
    let pushed = c.in_ok-push.ensures.ok in
    let first : LinePlace = record { router = c.args.at; item = c.loop-i.i; inbound = c.args.inbound } in
    let read_router : slice_get routers c.args.at ≡ Some router =
    slice_get_read routers (length routers) c.args.at router refl c.requires.inside c.index-routers-at.is in
    let read : slice_get (neighbors_of router) c.loop-i.i ≡ Some line = ap (λ (l : List Neighbor). slice_get l c.loop-i.i) (sym c.neighbors-lines.ensures)
    ∙ slice_get_read c.neighbors-lines.result.now (length c.neighbors-lines.result.now) c.loop-i.i line refl c.loop-i-test.true c.index-lines-i.is in
    let there : IsLineAt routers first router line = record {
      at = read_router;
      line_at = read;
    } in
    let seen : IsSeenOrNumbered old new first router numbers line number =
    subst (λ (l : List ℕ). IsSeenOrNumbered old new first router l line number) c.as_slice.ensures c.in_ok-number.ensures in
    let step : LineSteps routers old new router c.args.inbound numbers number =
    line_step routers old new first router numbers line number there (ap (slice_get (neighbors_of router)) total ∙ read) c.loop-i.invariant.fixed
    c.loop-i.invariant.each seen in
    record {
      total = (let a = ap (λ (l : List ℕ). length l) pushed in let b = length_last numbers number in omega arith);
      each = subst (λ (l : List ℕ). ArePoliciesOf routers router c.args.inbound new.firsts.items (neighbors_of router) l) (sym pushed) step.each;
      fixed = step.fixed;
      kept = λ k policy at. step.kept k policy (c.loop-i.invariant.kept k policy at);
    }

pub returns-clause-policies : goal.returns-clause-policies
returns-clause-policies c = λ router at.
    let routers = c.args.routers.now in
    let read_router : slice_get routers c.args.at ≡ Some c.index-routers-at.result =
    slice_get_read routers (length routers) c.args.at c.index-routers-at.result refl c.requires.inside c.index-routers-at.is in
    let same : c.index-routers-at.result ≡ router = (let both = sym read_router ∙ at in cc) in
    let total = c.loop-i.invariant.total in
    let lines = ap (λ (l : List Neighbor). length l) c.neighbors-lines.ensures in
    subst (λ (r : Router). HasPolicies routers r c.args.inbound c.loop-i.table.firsts.items c.loop-i.numbers) same
    (record { total = omega arith; each = c.loop-i.invariant.each })

pub policy_of_line-requires : goal.policy_of_line-requires
policy_of_line-requires c =
    let routers = c.args.routers.now in
    let places = c.args.places.now in
    let router = c.index-routers-at.result in
    let own = c.index-places-at.result in
    let inside : c.args.at < length places = (let a = c.requires.places.total in let b = c.requires.inside in omega arith) in
    c.requires.places.each c.args.at router own
    (slice_get_read routers (length routers) c.args.at router refl c.requires.inside c.index-routers-at.is)
    (slice_get_read places (length places) c.args.at own refl inside c.index-places-at.is)
