use Rattle.std.proofs.Common.{refl}
use Rattle.cfg_ast.specs.meaning.Classes.{classes_of}
use Rattle.answer_kit.specs.ClassNumbers.{class_at}
use Rattle.answer_certificates.proofs.Agreement.{verified_names_groups}
use Rattle.answer_certificates.proofs.laws.what_is_verified_names_the_groups.Goals as goal

pub returns : goal.returns
returns c = λ n number text is. verified_names_groups n number text (class_at (classes_of n) number) refl is
