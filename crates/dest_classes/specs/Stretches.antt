-- What is left of lists on a stretch of addresses, for prefixes of one length.
use Rattle.std.specs.Prelude.{◌≡◌, ℕ, ◌+◌, ◌≤◌, Bool, true, false, ◌&&◌, List, [], ◌∷◌, Option, Some, None, nat_eq, nat_le, nat_lt, if◌then◌else◌}
use Rattle.std.specs.List.{sum_by}
use Rattle.base_kit.specs.Prefixes.{Prefix}
use Rattle.cfg_ast.specs.declared.policy.PrefixEntry.{PrefixEntry}
use Rattle.cfg_ast.specs.declared.policy.PrefixList.{PrefixList}
use Rattle.cfg_ast.specs.meaning.PrefixLists.{leading_bits, length_fits}
use Rattle.dest_classes.specs.declared.stretches.BlockAnswer.{BlockAnswer}
use Rattle.dest_classes.specs.declared.stretches.LeftList.{LeftList}
use Rattle.dest_classes.specs.declared.stretches.Stretch.{Stretch}
use Rattle.dest_classes.specs.Cells.{word_of}

abbrev pub has_address : Prefix → ℕ → Bool
has_address block addr = nat_eq (leading_bits block.len addr) (leading_bits block.len block.addr)

-- whether an entry may hold for a prefix as long as the first, up to the last address
abbrev pub may_hold : Prefix → ℕ → PrefixEntry → Bool
may_hold first last entry =
    let bits = leading_bits entry.prefix.len entry.prefix.addr in
    length_fits entry.prefix.len entry.ge entry.le first.len && (nat_le (leading_bits entry.prefix.len first.addr) bits && nat_le bits
    (leading_bits entry.prefix.len last))

abbrev pub block_answer_of : PrefixEntry → BlockAnswer
block_answer_of entry = record { block = entry.prefix; permit = entry.permit }

-- the answers of the entries that may hold, up to one that holds on the whole stretch
abbrev pub left_of : Prefix → ℕ → List PrefixEntry → List BlockAnswer
left_of first last [] = []
left_of first last (entry ∷ entries) = if may_hold first last entry then block_answer_of entry
    ∷ (if has_address entry.prefix first.addr && has_address entry.prefix last then [] else left_of first last entries) else left_of first last entries

-- the first answer of a block that has the address, and the end denies
abbrev pub permits_at : List BlockAnswer → ℕ → Bool
permits_at [] addr = false
permits_at (answer ∷ answers) addr = if has_address answer.block addr then answer.permit else permits_at answers addr

-- what a list answers on the whole stretch by what is left of it, if it answers alike
abbrev pub settled_answer : List BlockAnswer → ℕ → ℕ → Option Bool
settled_answer [] first last = Some false
settled_answer (answer ∷ answers) first last = if has_address answer.block first && has_address answer.block last then Some answer.permit else None

-- the bit of a list that permits at the address
abbrev pub left_bit : ℕ → LeftList → ℕ
left_bit addr left = if permits_at left.answers.items addr then left.bit else 0

-- the answers at an address, as the bits of a number
abbrev pub stretch_word : Stretch → ℕ → ℕ
stretch_word stretch addr = stretch.settled + sum_by (left_bit addr) stretch.left.items

-- the sum of all bits
abbrev pub bit_sum : Stretch → ℕ
bit_sum stretch = stretch.settled + sum_by (λ (left : LeftList). left.bit) stretch.left.items

-- whether a prefix has the length of the first and an address from its to before the limit
abbrev pub is_in_range : Prefix → ℕ → Prefix → Bool
is_in_range first until p = nat_eq first.len p.len && (nat_le first.addr p.addr && nat_lt p.addr until)

-- a stretch with one list more, of which these answers are left
pub record AddsList (old : Stretch) (bit : ℕ) (answers : List BlockAnswer) (last : ℕ) (new : Stretch) : Type 0 where
  pub first : new.from ≡ old.from
  pub until : new.until ≡ old.until
  pub bits : bit_sum new ≤ bit_sum old + bit
  pub word : (addr : ℕ) → old.from.addr ≤ addr → addr ≤ last → stretch_word new addr ≡ stretch_word old addr + (if permits_at answers addr then bit else 0)

-- on the stretch, its word is that of the lists
pub record IsStretch (lists : List PrefixList) (stretch : Stretch) : Type 0 where
  pub bits : bit_sum stretch ≤ 18446744073709551615
  pub alike : (p : Prefix) → is_in_range stretch.from stretch.until p ≡ true → stretch_word stretch p.addr ≡ word_of lists p
