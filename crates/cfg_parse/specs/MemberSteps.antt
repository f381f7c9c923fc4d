-- Members, collected line by line.
use Rattle.std.specs.Prelude.{ℕ, List, [], ◌∷◌, ◌++◌, if◌then◌else◌}
use Rattle.std.specs.List.{cons_option}
use Rattle.cfg_ast.specs.text.TextLines.{TextLine}
use Rattle.cfg_ast.specs.text.Members.{is_end_line, member_on}
use Rattle.cfg_parse.specs.declared.members.Found.{Found}

-- the names so far, with the one of a line that may have one
abbrev pub with_member : List (List ℕ) → TextLine → List (List ℕ)
with_member names l = names ++ cons_option (member_on l.words) []

-- what stands after one more line
abbrev pub with_member_line : Found → TextLine → Found
with_member_line found l =
    if is_end_line l then record { ended = found.ended ++ found.names ∷ []; names = [] }
    else record { ended = found.ended; names = with_member found.names l }
