-- The OSPF `network` lines of a router as words of bits, by the hexadecimal digits of an address.
use Rattle.std.specs.Prelude.{◌≡◌, ℕ, zero, suc, ◌+◌, ◌*◌, ◌/◌, ◌%◌, ◌^◌, ◌<◌, Bool, true, ◌&&◌, List, [], ◌∷◌, length, get_or, nat_eq, nat_lt, bit_or, if◌then◌else◌}
use Rattle.std.specs.Fork.{slice_chunk}
use Rattle.cfg_ast.specs.declared.ospf.AreaLine.{AreaLine}

-- the hexadecimal digit of a number at a place, the last digit at 0; at 7 it is all that stands before the other seven
abbrev pub digit_at : ℕ → ℕ → ℕ
digit_at place number = if nat_lt place 7 then number / 2 ^ (4 * place) % 16 else number / 2 ^ (4 * place)

-- the line agrees with that digit of an address in all bits where its wildcard has 0
abbrev pub agrees_at : ℕ → ℕ → AreaLine → Bool
agrees_at place digit line = nat_eq (bit_or digit (digit_at place line.wild)) (bit_or (digit_at place line.addr) (digit_at place line.wild))

-- the same, by the row of a table that has 16 rows for each place
abbrev pub agrees_in : ℕ → AreaLine → Bool
agrees_in row line = agrees_at (row / 16) (row % 16) line

-- the line agrees with the address at the first places
abbrev pub agrees_below : ℕ → ℕ → AreaLine → Bool
agrees_below zero addr line = true
agrees_below (suc place) addr line = agrees_below place addr line && agrees_at place (digit_at place addr) line

-- a word with one bit more
abbrev pub with_bit : ℕ → Bool → ℕ
with_bit word bit = word * 2 + (if bit then 1 else 0)

-- a word with a bit more for each line: whether it passes the test
abbrev pub bits_after : (AreaLine → Bool) → ℕ → List AreaLine → ℕ
bits_after test word [] = word
bits_after test word (line ∷ lines) = bits_after test (with_bit word (test line)) lines

-- which lines of a chunk of 64 pass the test
abbrev pub bits_of : (AreaLine → Bool) → List AreaLine → ℕ → ℕ
bits_of test lines chunk = bits_after test 0 (slice_chunk lines 64 chunk)

-- a row was put behind the words: which lines of each chunk pass the test
pub record AddsRow (old new : List ℕ) (test : AreaLine → Bool) (lines : List AreaLine) (chunks : ℕ) : Type 0 where
  pub len : length new ≡ length old + chunks
  pub before : (i : ℕ) → i < length old → get_or new i 0 ≡ get_or old i 0
  pub each : (chunk : ℕ) → chunk < chunks → get_or new (length old + chunk) 0 ≡ bits_of test lines chunk

-- the words are those rows
pub record HasRows (words : List ℕ) (lines : List AreaLine) (chunks rows : ℕ) : Type 0 where
  pub len : length words ≡ rows * chunks
  pub each : (row chunk : ℕ) → row < rows → chunk < chunks → get_or words (row * chunks + chunk) 0 ≡ bits_of (agrees_in row) lines chunk
