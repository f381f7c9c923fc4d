use Rattle.std.proofs.Common.{◌∙◌, Some, subst, sym}
use Rattle.srp_core.specs.Acts.{import_by}
use Rattle.srp_core.specs.declared.route.Act.{Act}
use Rattle.solution_search.specs.Outlooks.{IsImage}
use Rattle.solution_search.proofs.Imaging.{import_image}
use Rattle.solution_search.proofs.ahead.images.image_of.Goals as goal

pub returns-in-Some : goal.returns-in-Some
unfolding import_by
returns-in-Some c =
    let imported = c.in-Some.imported in
    subst (λ (a : Act). IsImage a c.args.from.now (Some (record { preference = imported.lp; comms = imported.comms; size = c.longer.result })))
    (sym c.in-Import.is)
    (import_image c.in-Import.out c.in-Import.sends c.in-Import.into c.args.from.now imported c.longer.result
    (sym c.in_ok-import-in-Import.ensures ∙ c.in-Some.is) c.longer.ensures)
