-- Words behind blanks.
use Rattle.std.specs.Prelude.{ℕ, List, ◌∷◌, flat_map}

abbrev pub spaced : List ℕ → List ℕ
spaced word = 32 ∷ word

-- each word behind a blank
abbrev pub spaced_words : List (List ℕ) → List ℕ
spaced_words words = flat_map spaced words
