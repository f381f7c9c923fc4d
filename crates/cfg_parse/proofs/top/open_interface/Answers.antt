use Rattle.std.proofs.Common.{◌≡◌, true, refl, sym, ap, ◌∙◌}
use Rattle.cfg_ast.specs.text.Reading.{Draft, has_interface, take_line}
use Rattle.cfg_parse.proofs.top.open_interface.Goals as goal

pub returns-then-has-clause-set : goal.returns-then-has-clause-set
unfolding take_line
returns-then-has-clause-set c =
    let v = c.draft.view_is in
    let stands : has_interface c.draft.inside.interfaces c.args.name ≡ true = sym (rw c.as_str.ensures at c.has.ensures) ∙ c.if-has.true in
    rw (c.repeated.ensures, ← ap (λ (d : Draft). d.interfaces) v, stands) refl
