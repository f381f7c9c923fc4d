use Rattle.std.proofs.Common.{◌≡◌, true, refl, sym, ap, ◌∙◌}
use Rattle.cfg_ast.specs.text.PolicyLines.{has_map_entry}
use Rattle.cfg_ast.specs.text.Reading.{Draft, take_policy}
use Rattle.cfg_parse.proofs.policy.open_entry.Goals as goal

pub returns-then-has_entry-clause-set : goal.returns-then-has_entry-clause-set
unfolding take_policy
returns-then-has_entry-clause-set c =
    let v = c.draft.view_is in
    let stands : has_map_entry c.draft.inside.route_maps c.args.name c.args.entry.seq ≡ true = sym (rw c.as_str.ensures at c.has_entry.ensures)
    ∙ c.if-has_entry.true in
    rw (c.repeated.ensures, ← ap (λ (d : Draft). d.route_maps) v, stands) refl
