-- Prefixes as contracts see them (RFC 4632 section 3.1).
use Rattle.std.specs.Prelude.{ℕ, Bool, ◌&&◌, nat_eq}

-- a first address, and how many leading bits of it count
pub record Prefix : Type 0 where
  pub addr : ℕ
  pub len : ℕ

abbrev pub same_prefix : Prefix → Prefix → Bool
same_prefix p q = nat_eq p.addr q.addr && nat_eq p.len q.len
