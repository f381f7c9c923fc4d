use Rattle.std.proofs.Common.{◌≡◌, true, ◌||◌, ◌&&◌, sym, ap, ◌∙◌}
use Rattle.std.specs.Prelude.{bytes_eq}
use Rattle.cfg_ast.specs.meaning.PolicyFaults.{prepends_in_map}
use Rattle.numbered_names.specs.NameSets.{has_name}
use Rattle.cfg_check.proofs.NameTurns.{name_added}
use Rattle.cfg_check.proofs.name_sets.keep_if_prepending.Goals as goal

pub returns : goal.returns
returns c =
    let old = c.args.names.now in
    let name = c.args.map.now.name in
    let added = name_added old c.insert.new.self c.as_str.result.now name c.as_str.ensures c.in_ok-insert.ensures.adds in
    let does : prepends_in_map c.args.map.now ≡ true = sym c.prepends.ensures ∙ c.if-not-prepends.false in
    record { each = λ q. added.each q ∙ ap (λ b. (b && bytes_eq q name) || has_name old q) (sym does) }
