-- The lines of a file of questions.
use Rattle.std.specs.Prelude.{ℕ, Bool, true, false, not, ◌&&◌, List, [], ◌∷◌, ◌==◌, filter, map}
use Rattle.cfg_ast.specs.text.Members.{all_lines_of}
use Rattle.cfg_ast.specs.text.TextLines.{TextLine, text_line}

abbrev pub begins_with_mark : List ℕ → Bool
begins_with_mark [] = false
begins_with_mark (b ∷ word) = b == 33

-- the first byte of the line is `!`
abbrev pub is_remark : ℕ → List (List ℕ) → Bool
is_remark indent [] = false
is_remark indent (word ∷ words) = indent == 0 && begins_with_mark word

abbrev pub has_words : List (List ℕ) → Bool
has_words [] = false
has_words (word ∷ words) = true

-- a line asks something unless it is empty or a remark
abbrev pub asks : TextLine → Bool
asks line = has_words line.words && not (is_remark line.indent line.words)

-- the lines of a text that ask something
unfoldable pub asking_lines : List ℕ → List TextLine
asking_lines bs = filter asks (map (text_line bs) (all_lines_of bs))
