-- What is read back of the text that is printed of a certificate.
use Rattle.std.specs.Prelude.{◌≡◌, ℕ, ◌≤◌, true, false, List, [], ◌∷◌, length, Ok}
use Rattle.std.specs.List.{AllByRecursion, list_any}
use Rattle.base_kit.specs.declared.act_graph.Edge.{Edge}
use Rattle.base_kit.specs.declared.act_graph.ActGraph.{ActGraph}
use Rattle.base_kit.specs.Names.{AreApart}
use Rattle.cfg_ast.specs.text.Words.{is_router_name}
use Rattle.cut_certificate.specs.declared.certificate.Certificate.{Certificate}
use Rattle.cut_certificate.specs.Certificates.{IsAccepted}
use Rattle.cut_certificate.specs.Printed.{certificate_text}
use Rattle.cut_certificate.specs.Texts.{certificate_of_text, is_edge_over}

-- no two edges have one importer and one link
abbrev pub AreOfLinks : List Edge → Type 0
AreOfLinks [] = Unit {0}
AreOfLinks (edge ∷ edges) = (list_any (is_edge_over edge.importer edge.link) edges ≡ false) × AreOfLinks edges

-- routers with names of their own, and one edge for an importer and a link
pub record CanBeNamed (graph : ActGraph) (names : List (List ℕ)) : Type 0 where
  pub one_each : length names ≡ graph.count
  pub each : AllByRecursion (λ (name : List ℕ). is_router_name name ≡ true) names
  pub apart : AreApart names
  pub few : graph.count ≤ 4294967295
  pub one_of_link : AreOfLinks graph.edges
  pub links : AllByRecursion (λ (edge : Edge). edge.link ≤ 4294967295) graph.edges

-- The text of an accepted certificate spells this certificate.
abbrev pub PrintedCertificateIsReadBack : Type 0
PrintedCertificateIsReadBack = (graph : ActGraph) (names : List (List ℕ)) (c : Certificate) → CanBeNamed graph names → IsAccepted graph c
    → certificate_of_text graph names (certificate_text graph.edges names c) ≡ Ok c

-- Its text has at most 16,777,216 bytes, if there are at most 4,096 routers and no more splits than
-- routers.
abbrev pub PrintedCertificateIsShort : Type 0
PrintedCertificateIsShort = (graph : ActGraph) (names : List (List ℕ)) (c : Certificate) → CanBeNamed graph names → IsAccepted graph c → length c.splits ≤ graph.count → graph.count ≤ 4096
    → length (certificate_text graph.edges names c) ≤ 16777216
