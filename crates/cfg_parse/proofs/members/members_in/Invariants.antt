use Rattle.std.proofs.Common.{◌≡◌}
use Rattle.cfg_parse.proofs.MemberLines.{all_found, none_found, texts_from}
use Rattle.cfg_parse.proofs.members.members_in.Given as goal

-- what stands so far, with what the rest gives
abbrev pub invariant-loop-line : goal.invariant-loop-line
invariant-loop-line l = all_found l.found (texts_from l.bytes l.line-index l.lines) ≡ all_found none_found (texts_from l.bytes 0 l.lines)
