use Rattle.std.proofs.Common.{◌≡◌, sym, arith, ◌∙◌, length}
use Rattle.std.proofs.lemmas.List.Sums.{position_or_len_is}
use Rattle.base_kit.specs.Numbers.{is_digit}
use Rattle.cfg_ast.proofs.lookups.first_digit.Goals as goal

pub returns-then-is_ascii_digit : goal.returns-then-is_ascii_digit
returns-then-is_ascii_digit c = sym (position_or_len_is is_digit c.args.name.now c.loop-i.i 0 (omega arith) c.loop-i.invariant
    (λ lt. sym c.is_ascii_digit.ensures.value ∙ c.if-is_ascii_digit.true))

pub returns : goal.returns
returns c =
    let all : c.loop-i.i ≡ length c.args.name.now = omega arith in
    sym all ∙ sym (position_or_len_is is_digit c.args.name.now c.loop-i.i 0 (omega arith) c.loop-i.invariant (λ lt. absurd (omega arith)))
