-- Active addresses by their subnets, and sums of pairs.
use Rattle.std.specs.Prelude.{◌≡◌, ℕ, ◌+◌, List, [], ◌∷◌, ◌++◌, Result, Ok, Err, filter, length, nat_lt, if◌then◌else◌}
use Rattle.buckets.specs.Buckets.{Index, bucket, is_at_pair}
use Rattle.cfg_ast.specs.meaning.Addresses.{Address}
use Rattle.cfg_ast.specs.meaning.Topology.{first_address}
use Rattle.cfg_ast.specs.meaning.RouterFaults.{Added}

-- the length and the first address of a subnet
abbrev pub subnet_pair : Address → ℕ × ℕ
subnet_pair a = (a.len, first_address a)

-- the addresses were put in
pub record AddsAll (old new : Index Address) (addresses : List Address) : Type 0 where
  pub each : (pair : ℕ × ℕ) → bucket new pair ≡ bucket old pair ++ filter (is_at_pair subnet_pair pair) addresses

-- the line of an address, and how many of its subnet were seen
abbrev pub counted : Index Address → Address → Added
counted seen a = record { line = a.line; pairs = length (bucket seen (subnet_pair a)) }

-- the sum with all pairs, or the line at which it exceeds the limit
abbrev pub sum_or_line : ℕ → ℕ → List Added → Result ℕ ℕ
sum_or_line limit sum [] = Ok sum
sum_or_line limit sum (a ∷ rest) = if nat_lt limit (sum + a.pairs) then Err a.line else sum_or_line limit (sum + a.pairs) rest
