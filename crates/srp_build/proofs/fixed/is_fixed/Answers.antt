use Rattle.std.proofs.Common.{◌≡◌, true, false, Option, Some, None, refl, sym, ◌∙◌, ap}
use Rattle.std.specs.Prelude.{is_some, is_none}
use Rattle.std.specs.Option.{option_map_or}
use Rattle.cfg_ast.specs.declared.network.Named.{Named}
use Rattle.srp_build.specs.LinePolicies.{names_no_list}
use Rattle.srp_build.proofs.FixedMaps.{is_fixed}
use Rattle.srp_build.proofs.fixed.is_fixed.Goals as goal

not_some : (o : Option Named) → is_some o ≡ false → is_none o ≡ true
not_some None e = refl
not_some (Some named) e = absurd cc

pub returns-in-Some : goal.returns-in-Some
returns-in-Some c = λ free.
    let router = c.args.router.now in
    is_fixed router c.args.inbound c.args.line.now
    (ap (λ (o : Option Named). is_none o) (sym c.list_named.ensures) ∙ not_some c.list_named.result.now (sym c.is_some.ensures ∙ c.if-is_some.false))
    (ap (λ (o : Option Named). option_map_or (λ (n : Named). names_no_list router n.name) o true) (sym c.map_named.ensures ∙ c.in-Some.is)
    ∙ sym c.names_no_list.ensures ∙ free)
