-- The members of blocks after a split.
use Rattle.std.specs.Prelude.{◌≡◌, ℕ, ◌+◌, ◌<◌, List, length, slice_index, slice_index_or, filter, nat_eq, nat_lt, ◌&&◌, Bool, Contains, Vec}
use Rattle.std.specs.declared.alloc.Global.{Global}

-- whether the router's block has this number
abbrev pub is_numbered : List ℕ → ℕ → ℕ → Bool
is_numbered numbers number router = nat_lt router (length numbers) && nat_eq (slice_index numbers router) number

-- each further block has the members of its origin that have its number
pub record AreFurther (next origins : List ℕ) (blocks further : List (Vec ℕ Global)) : Type 0 where
  pub each : (k : ℕ) (d e : Vec ℕ Global) → k < length further →
      (slice_index_or further k d).items ≡ filter (is_numbered next (length blocks + k)) (slice_index_or blocks (slice_index origins k) e).items

-- the touched blocks keep the members that have their number, and all others stay
pub record AreKept (next touched : List ℕ) (old new : List (Vec ℕ Global)) : Type 0 where
  pub total : length new ≡ length old
  pub touched_blocks : (block : ℕ) (d : Vec ℕ Global) → block < length old → Contains touched block →
      (slice_index_or new block d).items ≡ filter (is_numbered next block) (slice_index_or old block d).items
  pub rest : (block : ℕ) (d : Vec ℕ Global) → block < length old → ¬ Contains touched block →
      (slice_index_or new block d).items ≡ (slice_index_or old block d).items
