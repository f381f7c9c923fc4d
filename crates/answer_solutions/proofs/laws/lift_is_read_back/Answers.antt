use Rattle.std.proofs.Common.{refl}
use Rattle.cfg_ast.specs.meaning.Classes.{classes_of}
use Rattle.answer_kit.specs.ClassNumbers.{class_at}
use Rattle.answer_solutions.proofs.ReadBack.{lift_read}
use Rattle.answer_solutions.proofs.laws.lift_is_read_back.Goals as goal

pub returns : goal.returns
returns c = λ n given faultless number text bytes is.
    lift_read n given faultless c.quotient_is_quotient.ensures c.given_is_well_formed.ensures c.printed_is_read_back.ensures number text bytes
    c.stable_is_in_range.ensures (class_at (classes_of n) number) refl is
