-- Lists of entries under names.
use Rattle.std.specs.Prelude.{ℕ, List, [], ◌∷◌, ◌++◌, bytes_eq, slice_index_or, if◌then◌else◌}
use Rattle.named_lists.specs.declared.named.NamedList.{NamedList}

abbrev pub named_list_name : {E : Type 0} → NamedList E → List ℕ
named_list_name l = l.name

-- the list at a place
abbrev pub list_at : {E : Type 0} → List (NamedList E) → ℕ → NamedList E
list_at lists place = slice_index_or lists place (record { name = []; entries = [] })

abbrev pub entries_at : {E : Type 0} → List (NamedList E) → ℕ → List E
entries_at lists place = (list_at lists place).entries

-- the list with one entry more, behind the others
abbrev pub with_last : {E : Type 0} → E → NamedList E → NamedList E
with_last e l = record { name = l.name; entries = l.entries ++ e ∷ [] }

-- a change of the entries under a name; where there are none, the name comes behind all others
unfoldable pub in_named : {E : Type 0} → List ℕ → (List E → List E) → List (NamedList E) → List (NamedList E)
in_named name change [] = record { name = name; entries = change [] } ∷ []
in_named name change (l ∷ ls) =
    if bytes_eq l.name name then record { name = l.name; entries = change l.entries } ∷ ls
    else l ∷ in_named name change ls
