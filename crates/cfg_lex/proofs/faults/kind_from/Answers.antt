use Rattle.std.proofs.Common.{◌≡◌, ◌-◌, true, false, nat_lt, sym, refl, ◌∙◌, arith, rules}
use Rattle.std.proofs.lemmas.Bool.Decides.{nat_tests}
use Rattle.cfg_ast.specs.text.Lines.{newline_at}
use Rattle.cfg_lex.proofs.Odd.{Ends, IsClosed, open_kind, closed_is}
use Rattle.cfg_lex.proofs.faults.kind_from.Goals as goal
use Rattle.cfg_lex.proofs.faults.kind_from.Goals.{else-end-bytes-via-then-end-bytes+else-bytes-end-ne10, else-end-bytes-via-else-end-bytes}

pub returns-then-bytes-end-ne10 : goal.returns-then-bytes-end-ne10
returns-then-bytes-end-ne10 c =
    let bs = c.args.bytes.now in
    let number = c.args.number in
    let from = c.args.from in
    let upto = c.args.upto in
    let end = c.args.end in
    let ends : Ends bs from upto end = record { inside = c.requires.inside; odd = c.requires.odd; behind = c.requires.end } in
    let no : newline_at bs end ≡ false = search rules in
    sym (open_kind bs number from upto end ends c.if-end-bytes.true no)

pub returns-then-upto-from-gt1024 : goal.returns-then-upto-from-gt1024
returns-then-upto-from-gt1024 c =
    let bs = c.args.bytes.now in
    let number = c.args.number in
    let from = c.args.from in
    let upto = c.args.upto in
    let end = c.args.end in
    let ends : Ends bs from upto end = record { inside = c.requires.inside; odd = c.requires.odd; behind = c.requires.end } in
    let closed : IsClosed bs end = λ h. elim c.else-end-bytes.branch [
      | else-end-bytes-via-then-end-bytes+else-bytes-end-ne10 w ↦ grind (arith, nat_tests)
      | else-end-bytes-via-else-end-bytes w ↦ absurd (omega (arith, h))
    ] in
    let long : nat_lt 1024 (upto - from) ≡ true = grind (arith, nat_tests) in
    sym (closed_is bs number from upto end ends closed ∙ rw long refl)

pub returns-then-number-gt1000000 : goal.returns-then-number-gt1000000
returns-then-number-gt1000000 c =
    let bs = c.args.bytes.now in
    let number = c.args.number in
    let from = c.args.from in
    let upto = c.args.upto in
    let end = c.args.end in
    let ends : Ends bs from upto end = record { inside = c.requires.inside; odd = c.requires.odd; behind = c.requires.end } in
    let closed : IsClosed bs end = λ h. elim c.else-end-bytes.branch [
      | else-end-bytes-via-then-end-bytes+else-bytes-end-ne10 w ↦ grind (arith, nat_tests)
      | else-end-bytes-via-else-end-bytes w ↦ absurd (omega (arith, h))
    ] in
    let short : nat_lt 1024 (upto - from) ≡ false = grind (arith, nat_tests) in
    let many : nat_lt 1000000 number ≡ true = grind (arith, nat_tests) in
    sym (closed_is bs number from upto end ends closed ∙ rw (short, many) refl)

pub returns-else-number-gt1000000 : goal.returns-else-number-gt1000000
returns-else-number-gt1000000 c =
    let bs = c.args.bytes.now in
    let number = c.args.number in
    let from = c.args.from in
    let upto = c.args.upto in
    let end = c.args.end in
    let ends : Ends bs from upto end = record { inside = c.requires.inside; odd = c.requires.odd; behind = c.requires.end } in
    let closed : IsClosed bs end = λ h. elim c.else-end-bytes.branch [
      | else-end-bytes-via-then-end-bytes+else-bytes-end-ne10 w ↦ grind (arith, nat_tests)
      | else-end-bytes-via-else-end-bytes w ↦ absurd (omega (arith, h))
    ] in
    let short : nat_lt 1024 (upto - from) ≡ false = grind (arith, nat_tests) in
    let few : nat_lt 1000000 number ≡ false = grind (arith, nat_tests) in
    sym (closed_is bs number from upto end ends closed ∙ rw (short, few) refl)
