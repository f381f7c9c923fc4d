-- What is certified is verified, and what is verified names the groups.
use Rattle.std.proofs.Common.{◌≡◌, ◌-◌, ◌≤◌, ℕ, List, length, refl, sym, ap, ◌∙◌, subst, inl, inr, codes, Option, Some, None, Result, Ok, Err}
use Rattle.std.specs.Prelude.{Contains, nat_eq}
use Rattle.base_kit.specs.Prefixes.{Prefix}
use Rattle.cfg_ast.specs.declared.network.Network.{Network}
use Rattle.cfg_ast.specs.declared.classes.DestClass.{DestClass}
use Rattle.cfg_ast.specs.meaning.Classes.{classes_of}
use Rattle.cfg_ast.specs.text.Reading.{IsGiven}
use Rattle.given_laws.specs.Laws.{GivenIsWellFormed}
use Rattle.cfg_check.specs.Faultless.{IsFaultless}
use Rattle.net_topology.specs.Laws.{FewLinks}
use Rattle.srp_core.specs.ProblemOf.{IsProblemOf}
use Rattle.srp_core.proofs.GraphPartitions.{coarsest_from}
use Rattle.cut_certificate.specs.declared.certificate.Certificate.{Certificate}
use Rattle.cut_certificate.specs.declared.refusal.CutRefusal.{CutRefusal}
use Rattle.cut_certificate.specs.declared.refusal.CutRefusal.TheVariants as cut_refusal
use Rattle.cut_certificate.specs.Printed.{certificate_text}
use Rattle.cut_certificate.specs.Texts.{certificate_of_text}
use Rattle.cut_certificate.proofs.AcceptedTexts.{text_is_accepted}
use Rattle.cut_certificate.proofs.Reached.{accepted_is_coarsest}
use Rattle.certificate_round_trip.specs.Laws.{PrintedCertificateIsReadBack, PrintedCertificateIsShort}
use Rattle.answer_kit.specs.declared.status.Status.TheVariants.{Done, Refused}
use Rattle.answer_kit.specs.ClassNumbers.{class_at, no_class, IsOfClass}
use Rattle.answer_kit.specs.Outcome.{Outcome, done, refused}
use Rattle.answer_kit.specs.SecondFiles.{IsOfText}
use Rattle.answer_kit.proofs.OneClass.{some_prefix, found_in}
use Rattle.answer_certificates.specs.Agreement.{NamesTheGroups}
use Rattle.answer_certificates.specs.Certified.{IsCertifyOf}
use Rattle.answer_certificates.specs.Verified.{certificate_limit, long_certificate, certificate_reason, IsVerdict, IsVerdictOn, IsVerifyOf}
use Rattle.answer_certificates.proofs.Named.{few, can_be_named}

not_refused : (bytes reason : List ℕ) → done bytes ≡ refused reason → ⊥
not_refused bytes reason same = let one : Done ≡ Refused = ap (λ (o : Outcome). o.status) same in cc

out_of : (bytes other : List ℕ) → done bytes ≡ done other → bytes ≡ other
out_of bytes other same = ap (λ (o : Outcome). o.out) same

-- ---- what is certified

certified_class : (n : Network) → ∥ IsGiven n ∥₁ → IsFaultless n → FewLinks → GivenIsWellFormed → PrintedCertificateIsReadBack → PrintedCertificateIsShort
    → (class : DestClass) → Contains (classes_of n) class → (bytes : List ℕ) → IsCertifyOf n class (done bytes)
    → IsVerifyOf n (Some bytes) class (done (codes "yes\n"))
certified_class n given faultless links formed back short class has bytes x =
    let is = out_of bytes (certificate_text x.graph.edges x.problem.names x.certificate) x.told in
    let can = can_be_named n (formed n given) faultless links class has x.problem x.graph x.are in
    let few_routers = few n (formed n given) faultless links class has x.problem x.graph x.are in
    let small : length bytes ≤ certificate_limit = subst (λ (t : List ℕ). length t ≤ certificate_limit) (sym is)
    (short x.graph x.problem.names x.certificate can x.accepted x.few few_routers) in
    let read : certificate_of_text x.graph x.problem.names bytes ≡ Ok x.certificate = ap (certificate_of_text x.graph x.problem.names) is
    ∙ back x.graph x.problem.names x.certificate can x.accepted in
    record {
      problem = x.problem;
      graph = x.graph;
      are = x.are;
      verdict = inr (small, subst (λ (r : Result Certificate CutRefusal). IsVerdict r (done (codes "yes\n"))) (sym read) refl);
    }

pub certified_is_verified : (n : Network) → ∥ IsGiven n ∥₁ → IsFaultless n → FewLinks → GivenIsWellFormed → PrintedCertificateIsReadBack
    → PrintedCertificateIsShort → (number : ℕ) (bytes : List ℕ) (class : Option DestClass) → class_at (classes_of n) number ≡ class
    → IsOfClass class number (IsCertifyOf n) (done bytes) → IsOfClass class number (IsVerifyOf n (Some bytes)) (done (codes "yes\n"))
certified_is_verified n given faultless links formed back short number bytes None at is = absurd (not_refused bytes (no_class number) is)
certified_is_verified n given faultless links formed back short number bytes (Some class) at is =
    certified_class n given faultless links formed back short class (found_in (classes_of n) (number - 1) class (nat_eq number 0) at) bytes is

-- ---- what is verified

-- the certificate of a text to which the verdict is yes
verdict_spells : (r : Result Certificate CutRefusal) → IsVerdict r (done (codes "yes\n")) → (c : Certificate) × (r ≡ Ok c)
verdict_spells (Ok c) is = (c, refl)
verdict_spells (Err (cut_refusal.At line why)) is = absurd (not_refused (codes "yes\n") (certificate_reason line why) is)
verdict_spells (Err cut_refusal.Memory) is = absurd is

verified_class : (n : Network) (number : ℕ) (class : DestClass) → class_at (classes_of n) number ≡ Some class → (text : List ℕ)
    → IsVerifyOf n (Some text) class (done (codes "yes\n")) → NamesTheGroups n number text
verified_class n number class at text x = by x.verdict
  where
    has : Contains (classes_of n) class
    has = found_in (classes_of n) (number - 1) class (nat_eq number 0) at

    prefix : (p : Prefix) × Contains class.prefixes p
    prefix = some_prefix n class has

    problem_of : IsProblemOf n prefix.0 x.problem
    problem_of = x.are.built.of prefix.0 prefix.1

    by : IsOfText certificate_limit long_certificate (IsVerdictOn x.problem x.graph) text (done (codes "yes\n")) → NamesTheGroups n number text
    by (inl long) = absurd (not_refused (codes "yes\n") long_certificate long.1)
    by (inr short) =
        let (c, spelled) = verdict_spells (certificate_of_text x.graph x.problem.names text) short.1 in
        let coarsest = accepted_is_coarsest x.graph c (text_is_accepted x.graph x.problem.names text c spelled) in
        record {
          class = class;
          class_is = at;
          problem = x.problem;
          groups = coarsest.numbers;
          coarsest = record {
            of_class = x.are.built.of;
            coarsest =
                coarsest_from x.problem problem_of.rules x.graph x.are.of_problem coarsest.numbers coarsest.coarsest;
          };
          graph = x.graph;
          are = x.are;
          certificate = c;
          spelled = spelled;
          named = coarsest.listed;
        }

pub verified_names_groups : (n : Network) (number : ℕ) (text : List ℕ) (class : Option DestClass) → class_at (classes_of n) number ≡ class
    → IsOfClass class number (IsVerifyOf n (Some text)) (done (codes "yes\n")) → NamesTheGroups n number text
verified_names_groups n number text None at is = absurd (not_refused (codes "yes\n") (no_class number) is)
verified_names_groups n number text (Some class) at is = verified_class n number class at text is
