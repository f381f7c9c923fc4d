use Rattle.std.proofs.Common.{◌||◌, sym, ap, ◌∙◌}
use Rattle.cfg_ast.specs.meaning.PolicyFaults.{is_name}
use Rattle.numbered_names.specs.NameSets.{has_name}
use Rattle.cfg_check.proofs.NameTurns.{name_added}
use Rattle.cfg_check.proofs.name_sets.keep_deletion.Goals as goal

pub returns : goal.returns
returns c =
    let old = c.args.names.now in
    let added = name_added old c.insert.new.self c.as_str.result.now c.in-Some.named.name c.as_str.ensures c.in_ok-insert.ensures.adds in
    record { each = λ q. added.each q ∙ ap (λ o. is_name q o || has_name old q) (sym c.in-Some.is) }
