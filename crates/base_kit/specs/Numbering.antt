-- Numbers for keys.
use Rattle.std.specs.Prelude.{◌≡◌, ◌≢◌, ℕ, nat_eq, Some, None, ◌⊎◌}
use Rattle.std.specs.declared.hash.FoldHasher.{FoldHasher}
use Rattle.std.specs.declared.hash.BuildHasherDefault.{BuildHasherDefault}
use Rattle.std.specs.HashMap.{get, HashMap}

-- the numbers of keys
abbrev pub KeyNames : Type 0
KeyNames = HashMap ℕ ℕ (BuildHasherDefault FoldHasher)

-- the key has the number, which is the next one if it had none, and all others keep theirs
pub record IsKeyNamed (old new : KeyNames) (key next number : ℕ) : Type 0 where
  pub named : get nat_eq new key ≡ Some number
  pub others : (other : ℕ) → other ≢ key → get nat_eq new other ≡ get nat_eq old other
  pub was : (get nat_eq old key ≡ Some number) ⊎ ((get nat_eq old key ≡ None) × (number ≡ next))
