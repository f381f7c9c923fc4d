-- Lists of entries that have numbers.
use Rattle.std.specs.Prelude.{◌≡◌, ℕ, Bool, true, not, ◌&&◌, ◌||◌, List, [], ◌∷◌, nat_eq, nat_lt, bytes_eq, map, if◌then◌else◌}
use Rattle.std.specs.List.{list_any, list_all}
use Rattle.std.specs.BTreeSet.{BTreeSet, contains}
use Rattle.std.specs.Ordering.{nat_cmp, ordering_then}
use Rattle.std.specs.declared.cmp.Ordering.{Ordering}
use Rattle.base_kit.specs.Names.{AreApart}
use Rattle.named_lists.specs.declared.named.NamedList.{NamedList}
use Rattle.named_lists.specs.NamedLists.{named_list_name, entries_at}

-- ---- entries by number

-- the entry before the first one of a larger number
unfoldable pub put : {E : Type 0} → (E → ℕ) → E → List E → List E
put number e [] = e ∷ []
put number e (x ∷ xs) = if nat_lt (number e) (number x) then e ∷ x ∷ xs else x ∷ put number e xs

-- the entries xs put, one after the other, to those that are in order
unfoldable pub put_all : {E : Type 0} → (E → ℕ) → List E → List E → List E
put_all number done [] = done
put_all number done (x ∷ xs) = put_all number (put number x done) xs

-- the entries by their numbers, those of one number as they stand
abbrev pub in_number_order : {E : Type 0} → (E → ℕ) → List E → List E
in_number_order number xs = put_all number [] xs

abbrev pub in_order : {E : Type 0} → (E → ℕ) → NamedList E → NamedList E
in_order number l = record { name = l.name; entries = in_number_order number l.entries }

abbrev pub has_entry_numbered : {E : Type 0} → (E → ℕ) → List E → ℕ → Bool
has_entry_numbered number xs wanted = list_any (λ x. nat_eq (number x) wanted) xs

-- an entry of that number stands under that name
unfoldable pub has_entry : {E : Type 0} → (E → ℕ) → List (NamedList E) → List ℕ → ℕ → Bool
has_entry number lists name wanted = list_any (λ l. bytes_eq l.name name && has_entry_numbered number l.entries wanted) lists

-- ---- the set of the numbers of lists that do not ascend

-- the entries have numbers below this one
abbrev pub are_below : {E : Type 0} → (E → ℕ) → List E → ℕ → Bool
are_below number xs wanted = list_all (λ x. nat_lt (number x) wanted) xs

-- the number of each entry is below those behind it
abbrev pub ascends : {E : Type 0} → (E → ℕ) → List E → Bool
ascends number [] = true
ascends number (x ∷ xs) = list_all (λ y. nat_lt (number x) (number y)) xs && ascends number xs

abbrev pub pair_order : ℕ × ℕ → ℕ × ℕ → Ordering
pair_order a b = ordering_then (nat_cmp a.0 b.0) (nat_cmp a.1 b.1)

-- the set has the numbers of the entries at a place, where they do not ascend
abbrev pub HoldsAt : {E : Type 0} → (E → ℕ) → BTreeSet (ℕ × ℕ) → ℕ → List E → Type 0
HoldsAt number set place xs = (wanted : ℕ) → contains pair_order set (place, wanted) ≡ (not (ascends number xs) && has_entry_numbered number xs wanted)

-- names are apart, and the set has the numbers of the lists that do not ascend, and no others
pub record IsHeld {E : Type 0} (number : E → ℕ) (set : BTreeSet (ℕ × ℕ)) (lists : List (NamedList E)) : Type 0 where
  pub apart : AreApart (map named_list_name lists)
  pub held : (place : ℕ) → HoldsAt number set place (entries_at lists place)

-- the new set has in addition, at this place, the numbers that pass
abbrev pub Adds : BTreeSet (ℕ × ℕ) → BTreeSet (ℕ × ℕ) → ℕ → (ℕ → Bool) → Type 0
Adds old new place passes = (p wanted : ℕ) → contains pair_order new (p, wanted) ≡ ((nat_eq place p && passes wanted) || contains pair_order old (p, wanted))

-- the numbers of the entries and this one behind them, where they do not ascend
abbrev pub added : {E : Type 0} → (E → ℕ) → List E → ℕ → ℕ → Bool
added number xs last wanted = not (ascends number xs && are_below number xs last) && (has_entry_numbered number xs wanted || nat_eq last wanted)
