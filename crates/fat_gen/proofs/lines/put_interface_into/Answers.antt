use Rattle.std.proofs.Common.{◌+◌, codes, string_bytes}
use Rattle.fat_gen.specs.SwitchLines.{masked_address_line}
use Rattle.fat_gen.proofs.Steps.{ended}
use Rattle.fat_gen.proofs.lines.put_interface_into.Goals as goal

pub returns : goal.returns
returns c =
    ended c.put_address_line.result (string_bytes c.args.text.now) (codes "interface Vlan1\n") (string_bytes c.push_str.new.self)
    (masked_address_line (c.args.network + 1) (codes "255.255.255.0")) (string_bytes c.put_address_line.new.text)
    c.in_ok-push_str.ensures.bytes c.put_address_line.ensures
