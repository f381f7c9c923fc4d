-- What the command `certify` writes: a certificate of the coarsest admissible partition (Beckett, Gupta,
-- Mahajan and Walker, Control Plane Compression, SIGCOMM 2018, section 4).
use Rattle.std.specs.Prelude.{◌≡◌, ◌≤◌, ℕ, length}
use Rattle.base_kit.specs.declared.act_graph.ActGraph.{ActGraph}
use Rattle.cfg_ast.specs.declared.network.Network.{Network}
use Rattle.cfg_ast.specs.declared.classes.DestClass.{DestClass}
use Rattle.cfg_ast.specs.meaning.Classes.{classes_of}
use Rattle.srp_core.specs.Problem.{Problem}
use Rattle.srp_core.specs.Starts.{IsGraphOf}
use Rattle.srp_build.specs.Built.{IsBuiltFor}
use Rattle.cut_certificate.specs.declared.certificate.Certificate.{Certificate}
use Rattle.cut_certificate.specs.Certificates.{IsAccepted}
use Rattle.cut_certificate.specs.Printed.{certificate_text}
use Rattle.answer_kit.specs.Outcome.{Outcome, done}
use Rattle.answer_kit.specs.ClassNumbers.{class_at, IsOfClass}

-- the problem of a class, and its graph
pub record IsGraphFor (network : Network) (class : DestClass) (problem : Problem) (graph : ActGraph) : Type 0 where
  pub built : IsBuiltFor network class problem
  pub of_problem : IsGraphOf problem graph

-- the text of an accepted certificate of the class, with at most as many splits as routers
pub record IsCertifyOf (network : Network) (class : DestClass) (o : Outcome) : Type 0 where
  pub problem : Problem
  pub graph : ActGraph
  pub are : IsGraphFor network class problem graph
  pub certificate : Certificate
  pub accepted : IsAccepted graph certificate
  pub few : length certificate.splits ≤ graph.count
  pub told : o ≡ done (certificate_text graph.edges problem.names certificate)

-- what `certify` is to write of a network and the number of a class
abbrev pub IsCertifyAnswer : Network → ℕ → Outcome → Type 0
IsCertifyAnswer network number = IsOfClass (class_at (classes_of network) number) number (IsCertifyOf network)
