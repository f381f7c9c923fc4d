-- Subnets as blocks of addresses: how two of them overlap.
use Rattle.std.specs.Prelude.{◌≡◌, ℕ, ◌-◌, ◌/◌, ◌^◌, Bool, not, ◌&&◌, ◌||◌, List, nat_eq, nat_le, nat_lt}
use Rattle.std.specs.List.{list_any}
use Rattle.std.specs.HashSet.{HashSet, contains}
use Rattle.base_kit.specs.Sets.{has}
use Rattle.base_kit.specs.Pairs.{same_pair}
use Rattle.number_hashing.specs.declared.hashing.NumberHashing.{NumberHashing}
use Rattle.cfg_ast.specs.meaning.Addresses.{Address}
use Rattle.cfg_ast.specs.meaning.RouterFaults.{overlap}
use Rattle.cfg_check.specs.declared.overlaps.Blocks.{Blocks}

-- the number of the block of that length in which the address lies
abbrev pub block_of : ℕ → Address → ℕ
block_of len a = a.addr / 2 ^ (32 - len)

-- the subnet is that block
abbrev pub subnet_is_block : ℕ → ℕ → Address → Bool
subnet_is_block len number a = nat_eq len a.len && nat_eq number (block_of a.len a)

-- the subnet lies in that block
abbrev pub is_around : ℕ → ℕ → Address → Bool
is_around len number a = nat_le len a.len && nat_eq number (block_of len a)

-- the subnet of `a` lies in that of `b`
abbrev pub is_under : Address → Address → Bool
is_under a b = nat_le b.len a.len && nat_eq (block_of b.len a) (block_of b.len b)

-- the address `b` lies behind `a`, and their subnets do not overlap
abbrev pub is_beyond : Address → Address → Bool
is_beyond a b = nat_lt a.addr b.addr && not (overlap b a)

abbrev pub Pairs : Type 0
Pairs = HashSet (ℕ × ℕ) NumberHashing

-- these are the lengths that the subnets have
pub record HasLens (lens : List ℕ) (addresses : List Address) : Type 0 where
  pub each : (len : ℕ) → has lens len ≡ list_any (λ (a : Address). nat_eq a.len len) addresses

-- one of the subnets is the block of that length in which the subnet lies
abbrev pub is_kept_at : Pairs → Address → ℕ → Bool
is_kept_at subnets a len = nat_le len a.len && contains same_pair subnets (len, block_of len a)

-- the subnet lies in one of the subnets, which have these lengths
abbrev pub lies_in_one : Blocks → List ℕ → Address → Bool
lies_in_one blocks lens a = list_any (is_kept_at blocks.subnets a) lens

-- the subnet overlaps one of the subnets
abbrev pub meets : Blocks → List ℕ → Address → Bool
meets blocks lens a = lies_in_one blocks lens a || contains same_pair blocks.around (a.len, block_of a.len a)

-- the block of that length around the subnet was put in
pub record AddsBlock (old new : Pairs) (at : ℕ) (a : Address) : Type 0 where
  pub each : (len number : ℕ) → contains same_pair new (len, number) ≡ ((nat_eq at len && is_around len number a) || contains same_pair old (len, number))

-- the blocks of these lengths around the subnet were put in
pub record AddsAround (old new : Pairs) (lens : List ℕ) (a : Address) : Type 0 where
  pub each : (len number : ℕ) → contains same_pair new (len, number) ≡ ((has lens len && is_around len number a) || contains same_pair old (len, number))

-- the subnet was put in
pub record AddsSubnet (old new : Pairs) (a : Address) : Type 0 where
  pub each : (len number : ℕ) → contains same_pair new (len, number) ≡ (subnet_is_block len number a || contains same_pair old (len, number))

-- the blocks are those of these subnets, all around them of these lengths
pub record IsKept (blocks : Blocks) (lens : List ℕ) (past : List Address) : Type 0 where
  pub subnets : (len number : ℕ) → contains same_pair blocks.subnets (len, number) ≡ list_any (subnet_is_block len number) past
  pub around : (len number : ℕ) → contains same_pair blocks.around (len, number) ≡ (list_any (is_around len number) past && has lens len)
