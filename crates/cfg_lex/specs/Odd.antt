-- Where the plain bytes of a text end, and what a line is up to there.
use Rattle.std.specs.Prelude.{◌≡◌, ℕ, ◌+◌, Bool, not, ◌&&◌, List, length, slice_index, ◌==◌, nat_lt, nat_le, if◌then◌else◌, Option}
use Rattle.cfg_ast.specs.declared.refusal.Kind.{Kind}
use Rattle.cfg_ast.specs.text.Lines.{first_at, odd_from, newline_from, without_return, kind_at, words_between}
use Rattle.cfg_lex.specs.declared.following.Words.{Words}

-- a byte that prints, and no blank
abbrev pub is_letter : ℕ → Bool
is_letter b = nat_le 33 b && nat_le b 126

-- the first byte from here on that is no part of a word, or the end of the text
abbrev pub letters_end : List ℕ → ℕ → ℕ
letters_end bs from = first_at (λ i. not (is_letter (slice_index bs i))) from (length bs)

-- the first byte from here on that is not plain, or the end of the text
abbrev pub odd_end : List ℕ → ℕ → ℕ
odd_end bs from = odd_from bs from (length bs)

-- the place behind a carriage return, if one stands here
abbrev pub behind_return : List ℕ → ℕ → ℕ
behind_return bs i = if nat_lt i (length bs) && slice_index bs i == 13 then i + 1 else i

-- the fault of the line that begins here
abbrev pub kind_from : List ℕ → ℕ → ℕ → Option Kind
kind_from bs number from = kind_at bs (record { number = number; from = from; upto = without_return bs from (newline_from bs from) })

-- the words up to the first byte that is not plain, and its place
pub record AreWordsFrom (bs : List ℕ) (from : ℕ) (words : Words) : Type 0 where
  pub ends : words.upto ≡ odd_end bs from
  pub spans : words.spans ≡ words_between bs from words.upto
