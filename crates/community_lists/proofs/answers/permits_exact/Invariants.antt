use Rattle.std.proofs.Common.{◌≡◌, drop}
use Rattle.cfg_ast.specs.meaning.Lists.{line_is, first_line_decides}
use Rattle.community_lists.proofs.answers.permits_exact.Given as goal

abbrev pub invariant-loop-line : goal.invariant-loop-line
invariant-loop-line l = first_line_decides (line_is l.comms) (drop l.line-index l.list.lines) ≡ first_line_decides (line_is l.comms) l.list.lines
