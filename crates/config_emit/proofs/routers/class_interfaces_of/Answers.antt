use Rattle.std.proofs.Common.{List, ◌∙◌, ap, sym, subst}
use Rattle.std.specs.Prelude.{is_some, slice_get}
use Rattle.cfg_ast.specs.declared.network.Router.{Router}
use Rattle.srp_core.specs.Problem.{initial}
use Rattle.config_emit.specs.Interfaces.{class_interfaces_on}
use Rattle.config_emit.specs.Sources.{plan_of}
use Rattle.config_emit.specs.Spots.{OriginatesEach}
use Rattle.config_emit.proofs.OspfRouters.{interfaces_of_router, originates_each, no_interfaces, not_originating}
use Rattle.config_emit.proofs.routers.class_interfaces_of.Goals as goal

pub returns-then-not-originates : goal.returns-then-not-originates
returns-then-not-originates c =
    c.new.ensures
    ∙ not_originating (plan_of c.args.source.now) c.args.group c.requires.source
    (ap (λ u. is_some (initial c.args.source.now.srp.now u)) (sym c.first_member-first.ensures) ∙ sym c.originates.ensures ∙ c.if-not-originates.true)

pub class_interfaces-requires : goal.class_interfaces-requires
class_interfaces-requires c =
    let first = c.first_member-first.result in
    let router = c.in-Some.router.now in
    let at = ap (λ (rs : List Router). slice_get rs first) (sym c.as_slice.ensures) ∙ sym c.in-Some.ensures in
    subst (OriginatesEach router) (sym c.as_slice-prefixes.ensures)
    (originates_each (plan_of c.args.source.now) first router c.requires.source at (sym c.originates.ensures ∙ c.if-not-originates.false))

pub returns-in_ok-found-in-Some : goal.returns-in_ok-found-in-Some
returns-in_ok-found-in-Some c =
    let e = plan_of c.args.source.now in
    let first = c.first_member-first.result in
    let router = c.in-Some.router.now in
    c.in_ok-found-in-Some.ensures
    ∙ ap (λ q. class_interfaces_on q c.as_slice-prefixes.result.now router) c.protocol.ensures
    ∙ ap (λ ps. class_interfaces_on e.problem.protocol ps router) c.as_slice-prefixes.ensures
    ∙ interfaces_of_router e c.args.group router (ap (slice_get e.network.routers) (sym c.first_member-first.ensures)
    ∙ ap (λ (rs : List Router). slice_get rs first) (sym c.as_slice.ensures) ∙ sym c.in-Some.ensures)

pub returns-in-None : goal.returns-in-None
returns-in-None c =
    let first = c.first_member-first.result in
    c.new-in-None.ensures
    ∙ no_interfaces (plan_of c.args.source.now) c.args.group
    (ap (slice_get c.args.source.now.network.now.routers) (sym c.first_member-first.ensures)
    ∙ ap (λ (rs : List Router). slice_get rs first) (sym c.as_slice.ensures) ∙ sym c.in-None.ensures)
