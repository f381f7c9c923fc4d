use Rattle.std.proofs.Common.{List, ◌∙◌, ap, map, sym}
use Rattle.std.specs.Prelude.{is_some, slice_get}
use Rattle.cfg_ast.specs.declared.network.Router.{Router}
use Rattle.srp_core.specs.Problem.{initial}
use Rattle.config_emit.specs.BgpSteps.{announced}
use Rattle.config_emit.specs.Sources.{plan_of}
use Rattle.config_emit.proofs.BgpParts.{no_net_lines, net_lines_are}
use Rattle.config_emit.proofs.bgp_routers.net_lines_of.Goals as goal

pub returns-then-not-originates : goal.returns-then-not-originates
returns-then-not-originates c =
    c.new.ensures
    ∙ no_net_lines (plan_of c.args.source.now) c.args.group c.requires.source
    (ap (λ u. is_some (initial c.args.source.now.srp.now u)) (sym c.first_member-first.ensures) ∙ sym c.originates.ensures ∙ c.if-not-originates.true)

pub returns-in_ok-lines-in-Some : goal.returns-in_ok-lines-in-Some
returns-in_ok-lines-in-Some c =
    let e = plan_of c.args.source.now in
    let first = c.first_member-first.result in
    let at = ap (slice_get e.network.routers) (sym c.first_member-first.ensures) ∙ ap (λ (rs : List Router). slice_get rs first) (sym c.as_slice.ensures)
    ∙ sym c.in-Some.ensures in
    c.in_ok-lines-in-Some.ensures
    ∙ ap (map announced) c.as_slice-in-Some.ensures
    ∙ net_lines_are e c.args.group c.in-Some._router.now c.requires.source at
    (ap (λ u. is_some (initial e.problem u)) (sym c.first_member-first.ensures) ∙ sym c.originates.ensures ∙ c.if-not-originates.false)
