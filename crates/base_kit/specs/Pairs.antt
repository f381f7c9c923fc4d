-- Pairs of numbers, as keys of maps.
use Rattle.std.specs.Prelude.{ℕ, Bool, ◌&&◌, nat_eq}

abbrev pub same_pair : ℕ × ℕ → ℕ × ℕ → Bool
same_pair p q = nat_eq p.0 q.0 && nat_eq p.1 q.1
