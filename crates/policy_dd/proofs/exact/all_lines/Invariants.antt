use Rattle.std.proofs.Common.{◌≡◌, ◌++◌, map, drop}
use Rattle.policy_dd.proofs.exact.all_lines.Given as goal

abbrev pub invariant-loop-line : goal.invariant-loop-line
invariant-loop-line l = map (λ line. line.now) l.all.items ++ drop l.line-index l.lines ≡ l.lines
