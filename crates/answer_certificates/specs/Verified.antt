-- What the command `verify` reports of a certificate.
use Rattle.std.specs.Prelude.{◌≡◌, ℕ, List, ◌++◌, codes, decimal, Option, Result, Ok, Err}
use Rattle.base_kit.specs.declared.act_graph.ActGraph.{ActGraph}
use Rattle.cfg_ast.specs.declared.network.Network.{Network}
use Rattle.cfg_ast.specs.declared.classes.DestClass.{DestClass}
use Rattle.cfg_ast.specs.meaning.Classes.{classes_of}
use Rattle.srp_core.specs.Problem.{Problem}
use Rattle.cut_certificate.specs.declared.certificate.Certificate.{Certificate}
use Rattle.cut_certificate.specs.declared.refusal.CutKind.{CutKind}
use Rattle.cut_certificate.specs.declared.refusal.CutKind.TheVariants as kind
use Rattle.cut_certificate.specs.declared.refusal.CutRefusal.{CutRefusal}
use Rattle.cut_certificate.specs.declared.refusal.CutRefusal.TheVariants as cut_refusal
use Rattle.cut_certificate.specs.Texts.{certificate_of_text}
use Rattle.answer_kit.specs.Outcome.{Outcome, done, refused}
use Rattle.answer_kit.specs.ClassNumbers.{class_at, IsOfClass}
use Rattle.answer_kit.specs.SecondFiles.{IsOfSecond}
use Rattle.answer_certificates.specs.Certified.{IsGraphFor}

-- a certificate has at most this many bytes
abbrev pub certificate_limit : ℕ
certificate_limit = 16777216

abbrev pub long_certificate : List ℕ
long_certificate = codes "certificate FileTooLong"

-- the name of a kind of fault
abbrev pub name_of_cut_kind : CutKind → List ℕ
name_of_cut_kind kind.BadForm = codes "BadForm"
name_of_cut_kind kind.UnknownRouter = codes "UnknownRouter"
name_of_cut_kind kind.NoEdge = codes "NoEdge"
name_of_cut_kind kind.NoBlock = codes "NoBlock"
name_of_cut_kind kind.SameBlock = codes "SameBlock"
name_of_cut_kind kind.NothingSplit = codes "NothingSplit"
name_of_cut_kind kind.WrongGroups = codes "WrongGroups"
name_of_cut_kind kind.NotAdmissible = codes "NotAdmissible"
name_of_cut_kind kind.NoEnd = codes "NoEnd"

-- a line of a certificate and a kind as the reason of a refusal
abbrev pub certificate_reason : ℕ → CutKind → List ℕ
certificate_reason line k = codes "certificate line " ++ decimal line ++ codes ": " ++ name_of_cut_kind k

-- yes to a certificate, or the refusal of the text that was to spell one
abbrev pub IsVerdict : Result Certificate CutRefusal → Outcome → Type 0
IsVerdict (Ok certificate) o = o ≡ done (codes "yes\n")
IsVerdict (Err (cut_refusal.At line why)) o = o ≡ refused (certificate_reason line why)
IsVerdict (Err cut_refusal.Memory) o = ⊥

-- what is reported of a text that is to spell a certificate of the graph
abbrev pub IsVerdictOn : Problem → ActGraph → List ℕ → Outcome → Type 0
IsVerdictOn problem graph text o = IsVerdict (certificate_of_text graph problem.names text) o

-- what `verify` is to report of a class
pub record IsVerifyOf (network : Network) (second : Option (List ℕ)) (class : DestClass) (o : Outcome) : Type 0 where
  pub problem : Problem
  pub graph : ActGraph
  pub are : IsGraphFor network class problem graph
  pub verdict : IsOfSecond certificate_limit long_certificate second (IsVerdictOn problem graph) o

-- what `verify` is to report of a network and the number of a class
abbrev pub IsVerifyAnswer : Network → ℕ → Option (List ℕ) → Outcome → Type 0
IsVerifyAnswer network number second = IsOfClass (class_at (classes_of network) number) number (IsVerifyOf network second)
