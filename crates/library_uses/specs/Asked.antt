-- A question of a caller's own about the keys that groups hold.
use Rattle.std.specs.Prelude.{◌≡◌, ℕ, Some}
use Rattle.quotient_laws.specs.Questions.{Picture}
use Rattle.srp_core.specs.Routes.{Key}

-- any two routes that groups hold have one preference
abbrev pub has_one_preference : Picture → Type 0
has_one_preference picture = (g h : ℕ) (key other : Key) → picture.holds g (Some key) → picture.holds h (Some other) → key.preference ≡ other.preference
