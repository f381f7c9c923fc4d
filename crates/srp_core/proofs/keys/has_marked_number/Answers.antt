use Rattle.std.proofs.Common.{sym, arith, rules}
use Rattle.std.proofs.lemmas.Bool.{false_from_ne_true}
use Rattle.srp_core.specs.Problem.{has_marked_number}
use Rattle.srp_core.proofs.KeyOrder.{marked_from, marked_at}
use Rattle.srp_core.proofs.keys.has_marked_number.Goals as goal

pub returns-then-numbers-i : goal.returns-then-numbers-i
returns-then-numbers-i c = sym (marked_from c.args.marks.now c.args.numbers.now c.loop-i.i c.args.wanted (omega arith) (search rules) (search rules))

pub returns : goal.returns
returns c = sym (false_from_ne_true (has_marked_number c.args.marks.now c.args.numbers.now c.args.wanted)
    (λ t. let m = marked_at c.args.marks.now c.args.numbers.now c.args.wanted t in let i = m.inside in
    c.loop-i.invariant m.router (omega arith) m.mark m.number))
