use Rattle.std.proofs.Common.{◌≡◌, ◌∷◌, ◌++◌, [], Result, Ok, Err, OnOk, sym, ◌∙◌, Some, None}
use Rattle.std.specs.Prelude.{bytes_eq}
use Rattle.std.specs.List.{position}
use Rattle.std.proofs.lemmas.List.Quantifiers.{position-Some}
use Rattle.named_lists.specs.declared.named.NamedList.{NamedList}
use Rattle.named_lists.specs.NamedLists.{entries_at}
use Rattle.named_lists.specs.NumberedLists.{Adds, added}
use Rattle.named_lists.proofs.Entries.{in_named_at, in_named_new}
use Rattle.named_lists.proofs.Held.{held_grown, held_begun}
use Rattle.named_lists.proofs.numbered.put_last.Goals as goal

on_ok : {T F A B : Type 0} → (A → B) → (r : Result T F) → OnOk r A → OnOk r B
on_ok f (Ok x) a = f a
on_ok f (Err e) a = tt

pub returns-in_ok-hold-in-Some-clause-held : goal.returns-in_ok-hold-in-Some-clause-held
returns-in_ok-hold-in-Some-clause-held g c =
    let number = g.E.Numbered.number in
    let lists = c.args.lists.now in
    let none : NamedList g.row.E.Denot = record { name = []; entries = [] } in
    let found : position (λ (l : NamedList g.row.E.Denot). bytes_eq l.name c.args.name) lists ≡ Some c.in-Some.place =
    sym (rw c.as_str.ensures at c.place_of.ensures) ∙ c.in-Some.is in
    let inside = (position-Some (λ (l : NamedList g.row.E.Denot). bytes_eq l.name c.args.name) lists c.in-Some.place none found).0 in
    let adds : Adds c.args.numbers.now c.hold.new.numbers c.in-Some.place
    (added g.E.Numbered.number (entries_at c.args.lists.now c.in-Some.place) (g.E.Numbered.number c.args.entry)) =
    rw (c.entries.ensures, c.number.ensures) at c.in_ok-hold-in-Some.ensures in
    on_ok (λ is. rw is (held_grown number c.args.numbers.now c.hold.new.numbers lists c.in-Some.place c.args.entry inside c.requires adds)) c.push_at.result
    c.push_at.ensures

pub returns-in_ok-hold-in-Some-clause-added : goal.returns-in_ok-hold-in-Some-clause-added
returns-in_ok-hold-in-Some-clause-added g c =
    let found : position (λ (l : NamedList g.row.E.Denot). bytes_eq l.name c.args.name) c.args.lists.now ≡ Some c.in-Some.place =
    sym (rw c.as_str.ensures at c.place_of.ensures) ∙ c.in-Some.is in
    rw (in_named_at c.args.name (λ entries. entries ++ c.args.entry ∷ []) c.args.lists.now c.in-Some.place (record { name = []; entries = [] }) found)
    c.push_at.ensures

pub returns-in-None-clause-held : goal.returns-in-None-clause-held
returns-in-None-clause-held g c =
    let absent : position (λ (l : NamedList g.row.E.Denot). bytes_eq l.name c.args.name) c.args.lists.now ≡ None =
    sym (rw c.as_str.ensures at c.place_of.ensures) ∙ c.in-None.is in
    on_ok (λ is. rw is (held_begun g.E.Numbered.number c.args.numbers.now c.args.lists.now c.args.name c.args.entry absent c.requires)) c.begin.result
    c.begin.ensures

pub returns-in-None-clause-added : goal.returns-in-None-clause-added
returns-in-None-clause-added g c =
    let absent : position (λ (l : NamedList g.row.E.Denot). bytes_eq l.name c.args.name) c.args.lists.now ≡ None =
    sym (rw c.as_str.ensures at c.place_of.ensures) ∙ c.in-None.is in
    rw (in_named_new c.args.name (λ entries. entries ++ c.args.entry ∷ []) c.args.lists.now absent) c.begin.ensures
