use Rattle.std.proofs.Common.{List, ap, ◌∙◌}
use Rattle.std.specs.Prelude.{bytes_eq}
use Rattle.std.specs.List.{position}
use Rattle.named_lists.specs.declared.named.NamedList.{NamedList}
use Rattle.named_lists.proofs.named.NamedLists.place_of.Goals as goal

pub returns : goal.returns
returns g c =
    c.place_of.ensures
    ∙ ap (λ (lists : List (NamedList g.row.E.Denot)). position (λ (l : NamedList g.row.E.Denot). bytes_eq l.name c.args.name.now) lists)
    (c.as_slice.ensures.value ∙ c.self.view_is)
