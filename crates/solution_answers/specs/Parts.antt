-- Outputs that are put together from parts.
use Rattle.std.specs.Prelude.{ℕ, Bool, List, flat_map}
use Rattle.std.specs.List.{list_all}

-- some bytes, and whether every answer in them is `yes`
pub record Part : Type 0 where
  pub bytes : List ℕ
  pub all : Bool

-- the bytes of all parts
abbrev pub bytes_of : List Part → List ℕ
bytes_of parts = flat_map (λ (part : Part). part.bytes) parts

-- every answer in them is `yes`
abbrev pub are_all : List Part → Bool
are_all parts = list_all (λ (part : Part). part.all) parts

-- one part of several
abbrev pub joined : List Part → Part
joined parts = record { bytes = bytes_of parts; all = are_all parts }
