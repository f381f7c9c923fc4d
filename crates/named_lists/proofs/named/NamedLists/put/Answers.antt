use Rattle.std.proofs.Common.{◌≡◌, ◌∷◌, ◌++◌, [], sym, ◌∙◌, Some, None}
use Rattle.std.specs.Prelude.{bytes_eq}
use Rattle.std.specs.List.{position}
use Rattle.named_lists.specs.declared.named.NamedList.{NamedList}
use Rattle.named_lists.proofs.Entries.{in_named_at, in_named_new}
use Rattle.named_lists.proofs.named.NamedLists.put.Goals as goal

pub returns-in-Some : goal.returns-in-Some
returns-in-Some g c =
    let found : position (λ (l : NamedList g.row.E.Denot). bytes_eq l.name c.args.name) c.args.self.now ≡ Some c.in-Some.place =
    sym (rw c.as_str.ensures at c.place_of.ensures) ∙ c.in-Some.is in
    rw (in_named_at c.args.name (λ entries. entries ++ c.args.entry ∷ []) c.args.self.now c.in-Some.place (record { name = []; entries = [] }) found)
    c.push_at.ensures

pub returns-in-None : goal.returns-in-None
returns-in-None g c =
    let absent : position (λ (l : NamedList g.row.E.Denot). bytes_eq l.name c.args.name) c.args.self.now ≡ None =
    sym (rw c.as_str.ensures at c.place_of.ensures) ∙ c.in-None.is in
    rw (in_named_new c.args.name (λ entries. entries ++ c.args.entry ∷ []) c.args.self.now absent) c.begin.ensures
