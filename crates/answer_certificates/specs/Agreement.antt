-- How `certify` and `verify` relate to each other, and to the groups of a class.
use Rattle.std.specs.Prelude.{◌≡◌, ℕ, List, codes, Some, Ok}
use Rattle.base_kit.specs.declared.act_graph.ActGraph.{ActGraph}
use Rattle.cfg_ast.specs.declared.network.Network.{Network}
use Rattle.cfg_ast.specs.declared.classes.DestClass.{DestClass}
use Rattle.cfg_ast.specs.meaning.Classes.{classes_of}
use Rattle.cfg_ast.specs.text.Reading.{IsGiven}
use Rattle.cfg_check.specs.Faultless.{IsFaultless}
use Rattle.srp_core.specs.Problem.{Problem}
use Rattle.cut_certificate.specs.declared.certificate.Certificate.{Certificate}
use Rattle.cut_certificate.specs.Blocks.{groups_of}
use Rattle.cut_certificate.specs.Texts.{certificate_of_text}
use Rattle.answer_kit.specs.ClassNumbers.{class_at}
use Rattle.answer_kit.specs.Groups.{AreGroupsOf}
use Rattle.answer_kit.specs.Outcome.{done}
use Rattle.answer_certificates.specs.Certified.{IsCertifyAnswer, IsGraphFor}
use Rattle.answer_certificates.specs.Verified.{IsVerifyAnswer}

-- `verify` says yes to what `certify` writes.
abbrev pub VerifiesWhatIsCertified : Type 0
VerifiesWhatIsCertified = (network : Network) → ∥ IsGiven network ∥₁ → IsFaultless network → (number : ℕ) (bytes : List ℕ)
    → IsCertifyAnswer network number (done bytes) → IsVerifyAnswer network number (Some bytes) (done (codes "yes\n"))

-- the text spells a certificate whose groups are those of the class, the coarsest admissible partition
pub record NamesTheGroups (network : Network) (number : ℕ) (text : List ℕ) : Type 0 where
  pub class : DestClass
  pub class_is : class_at (classes_of network) number ≡ Some class
  pub problem : Problem
  pub groups : List ℕ
  pub coarsest : AreGroupsOf network class problem groups
  pub graph : ActGraph
  pub are : IsGraphFor network class problem graph
  pub certificate : Certificate
  pub spelled : certificate_of_text graph problem.names text ≡ Ok certificate
  pub named : certificate.groups ≡ groups_of groups

-- A text to which `verify` says yes names the groups of the class.
abbrev pub VerifiedNamesTheGroups : Type 0
VerifiedNamesTheGroups = (network : Network) (number : ℕ) (text : List ℕ)
    → IsVerifyAnswer network number (Some text) (done (codes "yes\n")) → NamesTheGroups network number text
