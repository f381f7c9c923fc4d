use Rattle.fat_gen.proofs.PortSteps.{grown_twice}
use Rattle.fat_gen.proofs.ports.push_ports.Goals as goal

pub returns : goal.returns
returns c =
    let even_end = rw c.even_address-even.ensures at c.in_ok-push_port.ensures in
    let odd_end = rw c.even_address-even.ensures at c.push_port-2.ensures in
    grown_twice c.push_port-2.result _ _ c.args.table.now.items c.push_port.new.table.items c.push_port-2.new.table.items even_end odd_end
