-- The text of the fat tree of a size.
use Rattle.std.specs.Prelude.{◌≡◌, ℕ, ◌/◌, ◌%◌, Bool, true, false, ◌&&◌, nat_eq, nat_le, List, flat_map, Result, Ok, Err}
use Rattle.std.specs.List.{enumerate_from}
use Rattle.fat_gen.specs.declared.refusal.FatRefusal.{FatRefusal}
use Rattle.fat_gen.specs.declared.refusal.FatRefusal.TheVariants.{BadSize, Memory}
use Rattle.fat_gen.specs.Switches.{switches}
use Rattle.fat_gen.specs.Cables.{cables}
use Rattle.fat_gen.specs.SwitchLines.{switch_lines}

-- an even number from 4 to 20
abbrev pub is_size : ℕ → Bool
is_size size = nat_eq (size % 2) 0 && nat_le 4 size && nat_le size 20

-- the lines of each switch, in order
abbrev pub text_by_half : ℕ → List ℕ
text_by_half half = flat_map (switch_lines (cables half)) (enumerate_from 0 (switches half))

unfoldable pub fat_tree_text : ℕ → List ℕ
fat_tree_text size = text_by_half (size / 2)

-- the bytes of what is given are the text of a size; or the size is none; or memory ran out
abbrev pub IsFatTree : {X : Type 0} → (X → List ℕ) → Result X FatRefusal → ℕ → Type 0
IsFatTree bytes (Ok x) size = (is_size size ≡ true) × (bytes x ≡ fat_tree_text size)
IsFatTree bytes (Err BadSize) size = is_size size ≡ false
IsFatTree bytes (Err Memory) size = Unit {0}
