use Rattle.std.proofs.Common.{refl}
use Rattle.cfg_ast.specs.meaning.Classes.{classes_of}
use Rattle.answer_kit.specs.ClassNumbers.{class_at}
use Rattle.answer_certificates.proofs.Agreement.{certified_is_verified}
use Rattle.answer_certificates.proofs.laws.what_is_certified_is_verified.Goals as goal

pub returns : goal.returns
returns c = λ n given faultless number bytes is.
    certified_is_verified n given faultless c.few_links.ensures c.given_is_well_formed.ensures c.printed_is_read_back.ensures c.printed_is_short.ensures number
    bytes (class_at (classes_of n) number) refl is
