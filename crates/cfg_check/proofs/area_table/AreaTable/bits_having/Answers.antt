use Rattle.cfg_check.proofs.AreaBits.{next_place}
use Rattle.cfg_check.proofs.area_table.AreaTable.bits_having.Goals as goal

pub returns : goal.returns
returns c =
    let addr = c.args.addr in
    let lines = c.args.self.now.lines.now in
    let chunk = c.args.chunk in
    let two = next_place 1 addr lines chunk _ _ c.bits_at.ensures c.bits_at-2.ensures in
    let three = next_place 2 addr lines chunk _ _ two c.bits_at-3.ensures in
    let four = next_place 3 addr lines chunk _ _ three c.bits_at-4.ensures in
    let five = next_place 4 addr lines chunk _ _ four c.bits_at-5.ensures in
    let six = next_place 5 addr lines chunk _ _ five c.bits_at-6.ensures in
    let seven = next_place 6 addr lines chunk _ _ six c.bits_at-7.ensures in
    next_place 7 addr lines chunk _ _ seven c.bits_at-8.ensures
