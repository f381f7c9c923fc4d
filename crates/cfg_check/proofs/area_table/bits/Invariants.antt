use Rattle.std.proofs.Common.{◌≡◌, ◌<◌, ◌^◌, drop}
use Rattle.cfg_check.specs.AreaTables.{agrees_at, bits_after}
use Rattle.cfg_check.proofs.area_table.bits.Given as goal

abbrev pub invariant-loop-line : goal.invariant-loop-line
invariant-loop-line l = record {
  bound : l.word < 2 ^ l.line-index;
  rest : bits_after (agrees_at l.place l.digit) l.word (drop l.line-index l.lines) ≡ bits_after (agrees_at l.place l.digit) 0 l.lines;
}
