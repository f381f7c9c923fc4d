-- Each class has a problem, each problem has a graph, and each graph has a certificate.
use Rattle.std.specs.Prelude.{◌≤◌, length, Contains}
use Rattle.base_kit.specs.declared.act_graph.ActGraph.{ActGraph}
use Rattle.cfg_ast.specs.declared.classes.DestClass.{DestClass}
use Rattle.cfg_ast.specs.declared.network.Network.{Network}
use Rattle.cfg_ast.specs.meaning.Classes.{classes_of}
use Rattle.cfg_ast.specs.text.Reading.{IsGiven}
use Rattle.cfg_check.specs.Faultless.{IsFaultless}
use Rattle.cut_certificate.specs.declared.certificate.Certificate.{Certificate}
use Rattle.cut_certificate.specs.Certificates.{IsAccepted}
use Rattle.srp_build.specs.Exists.{HasProblem}
use Rattle.srp_core.specs.Problem.{IsProblem, Problem}
use Rattle.srp_core.specs.Starts.{IsGraphOf}

-- Each class of a network that some text gives, and that has no fault, has a problem, in BGP and in OSPF.
abbrev pub EachClassHasProblem : Type 0
EachClassHasProblem = (network : Network) → ∥ IsGiven network ∥₁ → IsFaultless network → (class : DestClass) → Contains (classes_of network) class → HasProblem network class

-- the graph of a problem
pub record HasGraph (problem : Problem) : Type 0 where
  pub graph : ActGraph
  pub is : IsGraphOf problem graph

-- Each problem has a graph.
abbrev pub EachProblemHasGraph : Type 0
EachProblemHasGraph = (problem : Problem) → IsProblem problem → HasGraph problem

-- a certificate that is accepted, with no more splits than routers
pub record HasCertificate (graph : ActGraph) : Type 0 where
  pub certificate : Certificate
  pub accepted : IsAccepted graph certificate
  pub few : length certificate.splits ≤ graph.count

-- Each graph has a certificate.
abbrev pub EachGraphHasCertificate : Type 0
EachGraphHasCertificate = (graph : ActGraph) → HasCertificate graph
