-- Answers of a reader, and what they mean.
use Rattle.std.proofs.Common.{◌≡◌, ℕ, ◌+◌, List, length, map, ap, Option, Result, Ok, Err}
use Rattle.std.specs.Prelude.{bytes_eq, IfOk}
use Rattle.std.specs.List.{position}
use Rattle.std.proofs.Math.Path.{fun_ext}
use Rattle.base_kit.specs.declared.act_graph.ActGraph.{ActGraph}
use Rattle.cfg_ast.specs.text.Members.{all_lines_of}
use Rattle.cfg_ast.specs.text.TextLines.{text_line}
use Rattle.cut_certificate.specs.declared.certificate.Certificate.{Certificate}
use Rattle.cut_certificate.specs.declared.refusal.CutKind.{CutKind}
use Rattle.cut_certificate.specs.declared.refusal.CutRefusal.{CutRefusal}
use Rattle.cut_certificate.specs.declared.refusal.Stop.{Stop}
use Rattle.cut_certificate.specs.declared.refusal.Stop.TheVariants as stop
use Rattle.cut_certificate.specs.declared.refusal.CutRefusal.TheVariants as refusal
use Rattle.cut_certificate.specs.Answers.{Verifies, Steps, refused_at}
use Rattle.cut_certificate.specs.Certificates.{IsAccepted, AreCoarsest}
use Rattle.cut_certificate.specs.Texts.{Standing, opening, certificate_from, certificate_of_text}
use Rattle.cut_certificate.proofs.AcceptedTexts.{text_is_accepted}
use Rattle.cut_certificate.proofs.Reached.{accepted_is_coarsest}

-- an answer that is the defined one
pub verifies_same : {X : Type 0} (answer defined : Result X CutRefusal) → defined ≡ answer → Verifies answer defined
verifies_same (Ok x) defined e = e
verifies_same (Err refusal.Memory) defined e = tt
verifies_same (Err (refusal.At line why)) defined e = e

-- the routers of names, found by another look-up
pub text_by : (graph : ActGraph) (names : List (List ℕ)) (bs : List ℕ) (places : List ℕ → Option ℕ)
    → ((wanted : List ℕ) → places wanted ≡ position (bytes_eq wanted) names)
    → certificate_from graph.edges places (length (all_lines_of bs) + 1) (map (text_line bs) (all_lines_of bs)) (opening graph)
    ≡ certificate_of_text graph names bs
unfolding certificate_of_text
text_by graph names bs places same = ap (λ (f : List ℕ → Option ℕ).
    certificate_from graph.edges f (length (all_lines_of bs) + 1) (map (text_line bs) (all_lines_of bs)) (opening graph)) (fun_ext same)

pub verified_accepted : (graph : ActGraph) (names : List (List ℕ)) (bs : List ℕ) (answer : Result Certificate CutRefusal)
    → Verifies answer (certificate_of_text graph names bs) → IfOk answer (IsAccepted graph)
verified_accepted graph names bs (Ok c) e = text_is_accepted graph names bs c e
verified_accepted graph names bs (Err why) e = tt

pub verified_coarsest : (graph : ActGraph) (names : List (List ℕ)) (bs : List ℕ) (answer : Result Certificate CutRefusal)
    → Verifies answer (certificate_of_text graph names bs) → IfOk answer (λ (c : Certificate). AreCoarsest graph c.groups)
verified_coarsest graph names bs (Ok c) e = accepted_is_coarsest graph c (text_is_accepted graph names bs c e)
verified_coarsest graph names bs (Err why) e = tt

-- a stop at a line is the refusal of the text
pub stopped : (line : ℕ) (why : Stop) (step : Result Standing CutKind) (whole : Result Certificate CutRefusal)
    → ((kind : CutKind) → step ≡ Err kind → whole ≡ Err (refusal.At line kind)) → Steps {X = Standing} (Err why) step
    → Verifies {X = Certificate} (Err (refused_at line why)) whole
stopped line (stop.Fault kind) step whole same e = same kind e
stopped line stop.Memory step whole same e = tt
