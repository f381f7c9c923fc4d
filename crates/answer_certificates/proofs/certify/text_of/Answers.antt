use Rattle.std.proofs.Common.{◌∙◌, ℕ, List, ap}
use Rattle.cut_certificate.specs.Printed.{certificate_text}
use Rattle.answer_kit.specs.Outcome.{done}
use Rattle.answer_certificates.proofs.certify.text_of.Goals as goal

pub returns : goal.returns
returns c = record {
  problem = c.args.problem.now;
  graph = c.in_ok-graph.graph;
  are = record { built = c.requires; of_problem = c.in_ok-graph.ensures.graph };
  certificate = c.in_ok-certificate.certificate;
  accepted = c.in_ok-certificate.ensures.accepted;
  few = c.in_ok-certificate.ensures.few;
  told = ap done (c.in_ok-text.ensures ∙ ap (λ (names : List (List ℕ)). certificate_text c.in_ok-graph.graph.edges names c.in_ok-certificate.certificate)
      c.names.ensures);
}
