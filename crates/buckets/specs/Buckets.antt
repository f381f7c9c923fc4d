-- Lists of items by pairs of numbers.
use Rattle.std.specs.Prelude.{◌≡◌, ℕ, Bool, List, [], ◌∷◌, ◌++◌, Vec, filter, if◌then◌else◌}
use Rattle.std.specs.Option.{option_map_or}
use Rattle.std.specs.HashMap.{HashMap, get}
use Rattle.std.specs.declared.alloc.Global.{Global}
use Rattle.base_kit.specs.Pairs.{same_pair}
use Rattle.number_hashing.specs.declared.hashing.NumberHashing.{NumberHashing}

abbrev pub Index : Type 0 → Type 0
Index T = HashMap (ℕ × ℕ) (Vec T Global) NumberHashing

-- the items at a pair
abbrev pub bucket : {T : Type 0} → Index T → ℕ × ℕ → List T
bucket {T} index pair = option_map_or (λ (v : Vec T Global). v.items) (get same_pair index pair) []

-- an item was put last at a pair
pub record PushesAt {T : Type 0} (old new : Index T) (pair : ℕ × ℕ) (item : T) : Type 0 where
  pub each : (q : ℕ × ℕ) → bucket new q ≡ (if same_pair pair q then bucket old q ++ item ∷ [] else bucket old q)

-- each pair has the items that it had
pub record HasSameItems {T : Type 0} (old new : Index T) : Type 0 where
  pub each : (q : ℕ × ℕ) → bucket new q ≡ bucket old q

-- the item stands at that pair
abbrev pub is_at_pair : {T : Type 0} → (T → ℕ × ℕ) → ℕ × ℕ → T → Bool
is_at_pair pair_of pair x = same_pair pair (pair_of x)

-- the index has the items of each pair, in order
pub record IsIndex {T : Type 0} (pair_of : T → ℕ × ℕ) (index : Index T) (items : List T) : Type 0 where
  pub each : (q : ℕ × ℕ) → bucket index q ≡ filter (is_at_pair pair_of q) items
