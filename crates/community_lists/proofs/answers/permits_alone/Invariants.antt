use Rattle.std.proofs.Common.{◌≡◌, ◌∷◌, [], drop}
use Rattle.cfg_ast.specs.meaning.Lists.{line_holds, first_line_decides}
use Rattle.community_lists.proofs.answers.permits_alone.Given as goal

abbrev pub invariant-loop-line : goal.invariant-loop-line
invariant-loop-line l = first_line_decides (line_holds (l.community ∷ [])) (drop l.line-index l.list.lines) ≡ first_line_decides (line_holds (l.community ∷ []))
    l.list.lines
