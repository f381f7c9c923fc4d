use Rattle.std.proofs.Common.{◌≡◌, ◌++◌, map, drop, string_bytes, codes}
use Rattle.cut_certificate.specs.Printed.{printed_name}
use Rattle.cut_certificate.proofs.Written.{spaced}
use Rattle.cut_certificate.proofs.printing.put_group.Given as goal

abbrev pub invariant-loop-router : goal.invariant-loop-router
invariant-loop-router l = string_bytes l.text ++ spaced (map (printed_name l.names) (drop l.router-index l.members)) ≡ string_bytes l.fn.text ++ codes "group"
    ++ spaced (map (printed_name l.names) l.members)
