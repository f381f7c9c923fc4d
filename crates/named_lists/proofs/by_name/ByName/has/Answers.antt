use Rattle.std.proofs.Common.{sym, ap, ◌∙◌}
use Rattle.std.specs.Prelude.{bytes_eq, is_some}
use Rattle.std.specs.List.{list_any}
use Rattle.numbered_names.proofs.Firsts.{any_some}
use Rattle.named_lists.proofs.by_name.ByName.has.Goals as goal

pub returns : goal.returns
returns g c =
    c.is_some.ensures ∙ ap is_some c.place_of.ensures
    ∙ sym (any_some (λ x. bytes_eq (g.T.HasName.name x) c.args.name.now) c.as_slice.result.now)
    ∙ ap (list_any (λ x. bytes_eq (g.T.HasName.name x) c.args.name.now)) (c.as_slice.ensures ∙ c.self.view_is)
