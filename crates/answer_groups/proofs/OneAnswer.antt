-- A command has one answer to a network and the number of a class.
use Rattle.std.proofs.Common.{refl, sym, ap, ◌∙◌}
use Rattle.cfg_ast.specs.declared.network.Network.{Network}
use Rattle.cfg_ast.specs.meaning.Classes.{classes_of}
use Rattle.answer_kit.specs.ClassNumbers.{class_at}
use Rattle.answer_kit.specs.Outcome.{done}
use Rattle.answer_kit.proofs.OneClass.{IsOneOfEach, one_of_class}
use Rattle.answer_groups.specs.CanonText.{IsCanonOf}
use Rattle.answer_groups.specs.CompressText.{IsCompressOf}
use Rattle.answer_groups.specs.GroupLines.{IsGroupsOf}
use Rattle.answer_groups.specs.OneAnswer.{GroupsAnswerIsOne, CompressAnswerIsOne, CanonAnswerIsOne}
use Rattle.answer_groups.proofs.OneCanon.{one_canon}
use Rattle.answer_groups.proofs.OneGrouping.{one_text}
use Rattle.answer_groups.proofs.OnePlan.{one_compress}

one_groups : (n : Network) → IsOneOfEach n (IsGroupsOf n)
one_groups n class c o p x y = x.written ∙ ap done (one_text n class c x.bytes y.bytes x.lines y.lines) ∙ sym y.written

one_network : (n : Network) → IsOneOfEach n (IsCompressOf n)
one_network n class c o p x y = one_compress n class c o p x y

pub groups_answer_is_one : GroupsAnswerIsOne
groups_answer_is_one n number o p x y = one_of_class n (IsGroupsOf n) (one_groups n) number (class_at (classes_of n) number) refl o p x y

pub compress_answer_is_one : CompressAnswerIsOne
compress_answer_is_one n number o p x y = one_of_class n (IsCompressOf n) (one_network n) number (class_at (classes_of n) number) refl o p x y

pub canon_answer_is_one : CanonAnswerIsOne
canon_answer_is_one n number o p x y = one_of_class n (IsCanonOf n) (one_canon n) number (class_at (classes_of n) number) refl o p x y
