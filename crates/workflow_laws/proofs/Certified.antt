-- `verify` says yes to what `certify` writes, and what it says yes to names the groups.
use Rattle.std.proofs.Common.{◌≡◌, ℕ, List, [], ◌∷◌, map, refl, ap, ◌∙◌, subst, Option, Some, codes}
use Rattle.std.specs.List.{range_with_len}
use Rattle.base_kit.specs.Partition.{members_of}
use Rattle.cfg_ast.specs.declared.classes.DestClass.{DestClass}
use Rattle.cfg_ast.specs.declared.network.Network.{Network}
use Rattle.cut_certificate.specs.Printed.{printed_name}
use Rattle.reading_laws.specs.WellRead.{WhatIsReadIsWell}
use Rattle.srp_core.specs.Problem.{Problem, count}
use Rattle.srp_core.proofs.Alike.{same_coarsest, turned}
use Rattle.srp_core.proofs.AlikeOf.{one_problem as problems_alike}
use Rattle.answer_certificates.specs.Agreement.{NamesTheGroups, VerifiedNamesTheGroups, VerifiesWhatIsCertified}
use Rattle.answer_certificates.specs.OneAnswer.{VerifyAnswerIsOne}
use Rattle.answer_certificates.specs.Verified.{IsVerifyAnswer}
use Rattle.answer_groups.specs.GroupLines.{IsGroupsOf}
use Rattle.answer_kit.specs.ClassNumbers.{IsOfClass}
use Rattle.answer_kit.specs.Outcome.{Outcome, done}
use Rattle.answer_kit.proofs.OneClass.{some_prefix}
use Rattle.workflow_laws.specs.Commands as command
use Rattle.workflow_laws.specs.Certificates.{named_groups, names_in, PrintsGroups, WhatIsCertifiedIsVerified, WhatIsVerifiedNamesTheGroups}
use Rattle.workflow_laws.specs.Words.{certify, groups, verify}
use Rattle.workflow_laws.proofs.Answers.{answer_of, done_reading}
use Rattle.workflow_laws.proofs.Named.{names_certify, names_groups, names_verify}
use Rattle.workflow_laws.proofs.NamedGroups.{names_its_groups}
use Rattle.workflow_laws.proofs.OneGroups.{listed_alike}
use Rattle.workflow_laws.proofs.SomeClass.{has_class}

pub what_is_certified_is_verified : WhatIsReadIsWell → VerifiesWhatIsCertified → VerifyAnswerIsOne → WhatIsCertifiedIsVerified
what_is_certified_is_verified well verifies one contents F T text written N small holds x kept verified y =
    let d = done_reading (certify F N) contents (command.Certify N) refl (names_certify F N small) text holds written x in
    let n = d.network in
    let read = well text n d.read in
    let yes = verifies n ∣ (text, read.given) ∣₁ read.faultless N written d.over.answer in
    let answer = answer_of (verify F N T) contents (command.Verify N) refl (names_verify F T N small) text holds verified n d.read d.over.short y in
    one n N (Some written) refl verified (done (codes "yes\n")) (subst (λ (s : Option (List ℕ)). IsVerifyAnswer n N s verified) kept answer) yes

-- ---- what is verified

map_map : (P : Problem) (gs : List ℕ) (numbers : List ℕ) → map (map (printed_name P.names)) (map (members_of gs) numbers) ≡ map (names_in P gs) numbers
map_map P gs [] = refl
map_map P gs (g ∷ numbers) = ap (λ (rest : List (List (List ℕ))). names_in P gs g ∷ rest) (map_map P gs numbers)

named_printed : (n : Network) (number : ℕ) (text : List ℕ) (v : NamesTheGroups n number text) (o : Outcome) → IsGroupsOf n v.class o
    → PrintsGroups (named_groups text) o
named_printed n number text v o g =
    let p = some_prefix n v.class (has_class n number v.class v.class_is) in
    let l = g.lines in
    let P = v.problem in
    let Q = l.problem in
    let own = v.coarsest.of_class p.0 p.1 in
    let alike = problems_alike n p.0 P Q own (l.are.of_class p.0 p.1) in
    let coarsest = same_coarsest Q P (turned P Q alike) l.groups l.are.coarsest in
    let listed =
    listed_alike v.groups l.groups (count P) l.lines.count v.coarsest.coarsest.admissible.total coarsest.admissible.total
    (coarsest.refined v.groups v.coarsest.coarsest.admissible) (v.coarsest.coarsest.refined l.groups coarsest.admissible) l.lines.numbered in
    record {
      problem = Q;
      partition = l.groups;
      count = l.lines.count;
      told = g.written ∙ ap done l.lines.lines;
      same =
          names_its_groups v.graph P.names text v.certificate v.spelled
          ∙ ap (map (map (printed_name P.names))) (v.named ∙ listed)
          ∙ map_map P l.groups (range_with_len 0 l.lines.count)
          ∙ ap (λ (ns : List (List ℕ)). map (λ g. map (printed_name ns) (members_of l.groups g)) (range_with_len 0 l.lines.count)) alike.names;
    }

pub what_is_verified_names_the_groups : VerifiedNamesTheGroups → WhatIsVerifiedNamesTheGroups
what_is_verified_names_the_groups names contents F T text certificate N small holds kept x grouped y =
    let d = done_reading (verify F N T) contents (command.Verify N) refl (names_verify F T N small) text holds (codes "yes\n") x in
    let n = d.network in
    let v = names n N certificate (subst (λ (s : Option (List ℕ)). IsVerifyAnswer n N s (done (codes "yes\n"))) kept d.over.answer) in
    let answer = answer_of (groups F N) contents (command.Groups N) refl (names_groups F N small) text holds grouped n d.read d.over.short y in
    named_printed n N certificate v grouped (subst (λ (found : Option DestClass). IsOfClass found N (IsGroupsOf n) grouped) v.class_is answer)
