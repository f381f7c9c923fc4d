-- What `certify` and `verify` are to write of a class that has a problem.
use Rattle.std.proofs.Common.{◌≡◌, inl, inr, ℕ, ◌+◌, List, [], ◌∷◌, length, map, refl, Option, Some, None, Result, Ok, Err, codes}
use Rattle.std.specs.Prelude.{IsSome}
use Rattle.std.proofs.lemmas.Bool.{cases_lt}
use Rattle.base_kit.specs.declared.act_graph.Edge.{Edge}
use Rattle.base_kit.specs.declared.act_graph.ActGraph.{ActGraph}
use Rattle.cfg_ast.specs.declared.classes.DestClass.{DestClass}
use Rattle.cfg_ast.specs.declared.network.Network.{Network}
use Rattle.cfg_ast.specs.text.Members.{all_lines_of}
use Rattle.cfg_ast.specs.text.TextLines.{text_line, TextLine}
use Rattle.cut_certificate.specs.declared.certificate.Certificate.{Certificate}
use Rattle.cut_certificate.specs.declared.refusal.CutKind.{CutKind}
use Rattle.cut_certificate.specs.declared.refusal.CutRefusal.{CutRefusal}
use Rattle.cut_certificate.specs.declared.refusal.CutRefusal.TheVariants as cut_refusal
use Rattle.cut_certificate.specs.declared.standing.Stage.{Stage}
use Rattle.cut_certificate.specs.declared.standing.Stage.TheVariants.{Closed, Naming, Opening, Splitting}
use Rattle.cut_certificate.specs.Printed.{certificate_text}
use Rattle.cut_certificate.specs.Texts.{certificate_from, certificate_of_text, ended, go_on, opening, router_named, with_line, Standing}
use Rattle.existence_laws.specs.Laws.{EachGraphHasCertificate, EachProblemHasGraph}
use Rattle.srp_build.specs.Built.{IsBuiltFor}
use Rattle.srp_core.specs.Problem.{Problem, IsProblem}
use Rattle.answer_certificates.specs.Certified.{IsCertifyOf, IsGraphFor}
use Rattle.answer_certificates.specs.Verified.{certificate_limit, certificate_reason, long_certificate, IsVerdict, IsVerdictOn, IsVerifyOf}
use Rattle.answer_kit.specs.Outcome.{done, refused}
use Rattle.answer_kit.specs.SecondFiles.{IsOfSecond}
use Rattle.workflow_laws.proofs.Labelled.{SomeOf}

-- a text is refused at a line, and never because memory ran out
ended_at : (line : ℕ) (s : Standing) (stage : Stage) → ended line s stage ≡ Err cut_refusal.Memory → ⊥
ended_at line s Opening e = cc
ended_at line s Splitting e = cc
ended_at line s Naming e = cc
ended_at line s Closed e = cc

step_at : (line : ℕ) (r : Result Standing CutKind) (rest : Standing → Result Certificate CutRefusal)
    → ((next : Standing) → rest next ≡ Err cut_refusal.Memory → ⊥)
    → go_on line r rest ≡ Err cut_refusal.Memory → ⊥
step_at line (Ok next) rest later e = later next e
step_at line (Err kind) rest later e = cc

module _ (edges : List Edge) (routers : List ℕ → Option ℕ) (end : ℕ) where
  never_memory : (ls : List TextLine) (s : Standing) → certificate_from edges routers end ls s ≡ Err cut_refusal.Memory → ⊥
  unfolding certificate_from
  never_memory [] s e = ended_at end s s.stage e
  never_memory (l ∷ ls) s e = step_at l.number (with_line edges routers s l.words) (certificate_from edges routers end ls) (never_memory ls) e

no_memory : (graph : ActGraph) (names : List (List ℕ)) (text : List ℕ) → certificate_of_text graph names text ≡ Err cut_refusal.Memory → ⊥
unfolding certificate_of_text
no_memory graph names text e =
    never_memory graph.edges (router_named names) (length (all_lines_of text) + 1) (map (text_line text) (all_lines_of text)) (opening graph) e

module _ (graphs : EachProblemHasGraph) (certificates : EachGraphHasCertificate) (n : Network) (class : DestClass) (problem : Problem)
    (built : IsBuiltFor n class problem)
    (rules : IsProblem problem) where
  graph : ActGraph
  graph = (graphs problem rules).graph

  graph_is : IsGraphFor n class problem graph
  unfolding graph
  graph_is = record { built = built; of_problem = (graphs problem rules).is }

  pub some_certify : SomeOf (IsCertifyOf n class)
  some_certify =
      let c = certificates graph in (
        done (certificate_text graph.edges problem.names c.certificate),
        record { problem = problem; graph = graph; are = graph_is; certificate = c.certificate; accepted = c.accepted; few = c.few; told = refl },
      )

  verdict : (text : List ℕ) (r : Result Certificate CutRefusal) → certificate_of_text graph problem.names text ≡ r → SomeOf (IsVerdict r)
  verdict text (Ok certificate) e = (done (codes "yes\n"), refl)
  verdict text (Err (cut_refusal.At line why)) e = (refused (certificate_reason line why), refl)
  verdict text (Err cut_refusal.Memory) e = absurd (no_memory graph problem.names text e)

  of_second : (second : Option (List ℕ)) → IsSome second → SomeOf (IsOfSecond certificate_limit long_certificate second (IsVerdictOn problem graph))
  of_second None told = absurd cc
  of_second (Some text) told = elim (cases_lt certificate_limit (length text)) [
    | inl long ↦ (refused long_certificate, inl (long, refl))
    | inr short ↦ (let o = verdict text (certificate_of_text graph problem.names text) refl in (o.0, inr (short, o.1)))
  ]

  pub some_verify : (second : Option (List ℕ)) → IsSome second → SomeOf (IsVerifyOf n second class)
  some_verify second told = (let o = of_second second told in (o.0, record { problem = problem; graph = graph; are = graph_is; verdict = o.1 }))
