use Rattle.std.proofs.Common.{ℕ, ap, ◌∙◌}
use Rattle.cfg_check.specs.AreaTables.{agrees_at, bits_of}
use Rattle.cfg_check.proofs.AreaBits.{word_at}
use Rattle.cfg_check.proofs.area_table.AreaTable.bits_at.Goals as goal

pub returns : goal.returns
returns c =
    let table = c.args.self.now in
    word_at table.words.items table.lines.now table.chunks c.args.place c.digit_at.result c.args.chunk c.index.result.now table.rows c.requires.place
    c.digit_at.ensures.bound c.requires.chunk c.index.ensures
    ∙ ap (λ (digit : ℕ). bits_of (agrees_at c.args.place digit) table.lines.now c.args.chunk) c.digit_at.ensures.digit
