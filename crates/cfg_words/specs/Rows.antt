-- The rows of the code's tables, as the tables of the heads have them.
use Rattle.std.specs.Prelude.{ℕ, Bool, true, ◌||◌, List, [], ◌∷◌, map, filter, get_or, drop, nat_eq, ◌==◌, if◌then◌else◌, codes, bytes_eq}
use Rattle.cfg_ast.specs.text.Heads.{Row}
use Rattle.cfg_words.specs.declared.heads.Head.{Head}

abbrev pub row_of : Head → Row
row_of head = record { words = map (λ word. word.now) head.0.now; class = head.1 }

abbrev pub rows_of : List Head → List Row
rows_of heads = map row_of heads

-- ---- by the first byte of a line

-- the first word, and no bytes where there is none
abbrev pub first_word : List (List ℕ) → List ℕ
first_word words = get_or words 0 []

-- the first byte of the first word, and 0 where there is none
abbrev pub first_byte : List (List ℕ) → ℕ
first_byte words = get_or (get_or words 0 []) 0 0

-- a word that begins with the byte can stand for the word of a head
abbrev pub can_stand_for : List ℕ → ℕ → Bool
can_stand_for [] first = true
can_stand_for (b ∷ head_word) first = nat_eq b first || bytes_eq (b ∷ head_word) (codes "A") || bytes_eq (b ∷ head_word) (codes "100-500")

abbrev pub can_begin : ℕ → List (List ℕ) → Bool
can_begin first [] = true
can_begin first (word ∷ words) = can_stand_for word first

-- the rows whose heads can begin a line that begins with the byte
abbrev pub begun_by : ℕ → List Row → List Row
begun_by first rows = filter (λ (r : Row). can_begin first r.words) rows

-- ---- by the first byte of a later word too

-- the rows whose words from the place on can stand in a line whose word at the place begins with the byte
abbrev pub going_on : ℕ → ℕ → List Row → List Row
going_on place later rows = filter (λ (r : Row). can_begin later (drop place r.words)) rows

-- the rows that can begin a line by its first byte, and for one letter by the byte of a later word too
abbrev pub narrowed : ℕ → ℕ → ℕ → ℕ → List Row → List Row
narrowed letter place first later rows = if first == letter then going_on place later (begun_by first rows) else begun_by first rows
