use Rattle.std.proofs.Common.{◌≡◌, ◌++◌, map, drop}
use Rattle.cfg_ast.specs.printing.Bare.{bare_community_line}
use Rattle.config_emit.proofs.written.bare_lines.Given as goal

abbrev pub invariant-loop-line : goal.invariant-loop-line
invariant-loop-line l = l.bare ++ map bare_community_line (drop l.line-index l.line-items) ≡ map bare_community_line l.line-items
