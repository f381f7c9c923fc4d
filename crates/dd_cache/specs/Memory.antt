-- A bounded memory of operations: its entries, the most recent first.
use Rattle.std.specs.Prelude.{ℕ, ◌≤◌, Bool, ◌&&◌, nat_eq, List, ◌∷◌, length, take, Option, Some, None}
use Rattle.std.specs.List.{IsDistinct}
use Rattle.std.specs.Map.{keys_of, lookup, remove_entry}
use Rattle.dd_cache.specs.declared.cache.OpKey.{OpKey}

pub record Memory : Type 0 where
  pub capacity : ℕ
  pub entries : List (OpKey × ℕ)

abbrev pub memory : ℕ → List (OpKey × ℕ) → Memory
memory capacity entries = record { capacity = capacity; entries = entries }

-- whether two keys have the same three numbers
abbrev pub same_key : OpKey → OpKey → Bool
same_key x y = nat_eq x.a y.a && (nat_eq x.b y.b && nat_eq x.c y.c)

-- the node kept under the key, if there is one
abbrev pub found : OpKey → List (OpKey × ℕ) → Option ℕ
found key entries = lookup (same_key key) entries

-- the entries without that of the key
abbrev pub without : OpKey → List (OpKey × ℕ) → List (OpKey × ℕ)
without key entries = remove_entry (same_key key) entries

abbrev pub brought : OpKey → Option ℕ → List (OpKey × ℕ) → List (OpKey × ℕ)
brought key None entries = entries
brought key (Some node) entries = (key, node) ∷ without key entries

-- the entries with that of the key, if there is one, at the front
abbrev pub recalled : OpKey → List (OpKey × ℕ) → List (OpKey × ℕ)
recalled key entries = brought key (found key entries) entries

-- the entries after one more at the front, as many as fit
abbrev pub kept : ℕ → OpKey → ℕ → List (OpKey × ℕ) → List (OpKey × ℕ)
kept capacity key node entries = take capacity ((key, node) ∷ without key entries)

-- what every cache keeps: it has room, at most as many entries as it may have, and no key twice
pub record IsBounded (memory : Memory) : Type 0 where
  pub some : 1 ≤ memory.capacity
  pub fits : length memory.entries ≤ memory.capacity
  pub once : IsDistinct same_key (keys_of memory.entries)
