-- What a request writes of one class is one, except for what is free.
use Rattle.std.proofs.Common.{◌≡◌, ℕ, suc, Bool, true, false, ◌&&◌, List, [], ◌∷◌, ◌++◌, length, refl, sym, ap, ◌∙◌, subst, Option}
use Rattle.std.specs.Prelude.{Contains}
use Rattle.std.specs.List.{list_all}
use Rattle.cfg_ast.specs.declared.classes.DestClass.{DestClass}
use Rattle.cfg_ast.specs.declared.network.Network.{Network}
use Rattle.cfg_ast.specs.meaning.Classes.{classes_of}
use Rattle.cfg_ast.specs.meaning.Topology.{links_of}
use Rattle.srp_core.specs.Alike.{ProblemsAlike}
use Rattle.srp_core.specs.Problem.{Problem}
use Rattle.srp_core.specs.Without.{Down, marked_down}
use Rattle.srp_core.proofs.AlikeOf.{one_problem}
use Rattle.srp_questions.specs.declared.question.Question.{Question}
use Rattle.srp_questions.specs.declared.verdict.Verdict.{Verdict}
use Rattle.srp_questions.specs.declared.verdict.Verdict.TheVariants.{Yes, No, NoSolution}
use Rattle.srp_questions.specs.Answers.{IsVerdict}
use Rattle.srp_questions.specs.Questions.{IsTrueIn}
use Rattle.answer_kit.proofs.OneClass.{some_prefix}
use Rattle.solution_answers.specs.Pairwise.{Pairwise}
use Rattle.solution_answers.specs.Parts.{Part}
use Rattle.solution_answers.specs.Questions.{IsAnswerPart, IsShown}
use Rattle.solution_answers.specs.Solutions.{count_line, IsSolutionsPart}
use Rattle.solution_answers.specs.Told.{IsToldAs}
use Rattle.solution_answers.specs.Verdicts.{answer_line, is_yes}
use Rattle.solution_answers.specs.declared.told.Told.{Told}
use Rattle.solution_answers.specs.declared.told.Told.TheVariants as told
use Rattle.ask_words.specs.declared.request.AskedOf.{AskedOf}
use Rattle.ask_words.specs.declared.request.Request.{Request}
use Rattle.ask_words.specs.declared.request.Task.{Task}
use Rattle.ask_words.specs.declared.request.Task.TheVariants as task
use Rattle.ask_names.specs.Networks.{names_of}
use Rattle.ask_names.specs.Routers.{routers_lost, links_lost, question_for}
use Rattle.ask_classes.specs.Failing.{Loss, Trial, IsFailingPart, IsTried, link_losses, router_losses, trials_text}
use Rattle.ask_classes.specs.Tasks.{IsClassPart, IsTaskPart}
use Rattle.ask_classes.specs.declared.manner.Manner.{Manner}
use Rattle.ask_top.specs.OneOutcome.{shows_labels, verdicts_of, AreAnswersAlike, AreFailingsAlike, ArePartsAlike, AreSolutionsAlike}
use Rattle.ask_top.proofs.AsMany.{as_many}
use Rattle.ask_top.proofs.LeftAlike.{left_alike}
use Rattle.ask_top.proofs.SameVerdicts.{same_verdict}

pub part_same : (x y : Part) → x.bytes ≡ y.bytes → x.all ≡ y.all → x ≡ y
part_same x y bytes all = λ i. record { bytes = bytes i; all = all i }

pair_length : {X Y : Type 0} (R : X → Y → Type 0) (xs : List X) (ys : List Y) → Pairwise R xs ys → length xs ≡ length ys
pair_length R [] [] are = refl
pair_length R [] (y ∷ ys) are = absurd are
pair_length R (x ∷ xs) [] are = absurd are
pair_length R (x ∷ xs) (y ∷ ys) are = ap suc (pair_length R xs ys are.1)

-- both of two parts are alike, and of one ending
abbrev Alike : (Part → Part → Type 0) → Part → Part → Type 0
Alike AreAlike x y = AreAlike x y × (x.all ≡ y.all)

-- no labels stand behind the verdict
nothing_shown : (shows : Bool) (verdict : Verdict) (problem : Problem) (asked : Question) (text : List ℕ) → shows_labels shows verdict ≡ false
    → IsShown shows verdict problem asked text → text ≡ []
nothing_shown true Yes problem asked text none shown = shown
nothing_shown true No problem asked text none shown = absurd (cc)
nothing_shown true NoSolution problem asked text none shown = shown
nothing_shown false Yes problem asked text none shown = shown
nothing_shown false No problem asked text none shown = shown
nothing_shown false NoSolution problem asked text none shown = shown

module _ (A B : Problem) (left : ProblemsAlike A B) (number : ℕ) (x y : Part) where
  answers_alike : (shows : Bool) (asked : Question) → IsAnswerPart shows number asked A x → IsAnswerPart shows number asked B y
      → Alike (AreAnswersAlike shows number) x y
  answers_alike shows asked a b =
      let verdict = same_verdict A B left asked a.verdict b.verdict a.answer.is b.answer.is in
      let names = sym left.names in
      let back = sym verdict in (
        record {
          names = A.names;
          verdict = a.verdict;
          first_tie = a.tied;
          second_tie = b.tied;
          first_text = a.text;
          second_text = b.text;
          bare = λ none. (
            nothing_shown shows a.verdict A asked a.text none a.shown,
            nothing_shown shows b.verdict B asked b.text (ap (shows_labels shows) back ∙ none) b.shown,
          );
          first_is = part_same x (record { bytes = answer_line A.names number a.verdict a.tied ++ a.text; all = is_yes a.verdict }) a.bytes a.all;
          second_is = part_same y (record { bytes = answer_line A.names number a.verdict b.tied ++ b.text; all = is_yes a.verdict })
              (b.bytes ∙ (λ i. answer_line (names i) number (back i) b.tied ++ b.text)) (b.all ∙ ap is_yes back);
        },
        a.all ∙ ap is_yes verdict ∙ sym b.all,
      )

  solutions_alike : (as_what : Told) (one : Bool) → IsSolutionsPart (IsToldAs as_what) one number A x → IsSolutionsPart (IsToldAs as_what) one number B y
      → Alike (AreSolutionsAlike one number) x y
  solutions_alike as_what one a b = (
    record {
      first_texts = a.texts;
      second_texts = b.texts;
      many = sym (pair_length (IsToldAs as_what A) a.found a.texts a.told) ∙ as_many A B left a.found b.found a.are b.are
          ∙ pair_length (IsToldAs as_what B) b.found b.texts b.told;
      first_is = part_same x (record { bytes = _; all = true }) a.bytes a.all;
      second_is = part_same y (record { bytes = _; all = true }) b.bytes b.all;
    },
    a.all ∙ sym b.all,
  )

-- ---- answers without each loss

module _ (P Q : Problem) (same : ProblemsAlike P Q) (asks : AskedOf) where
  -- the question about the routers of the one is that about the routers of the other
  one_verdict : (down : Down) (A B : Problem) (v w : Verdict) → ProblemsAlike A B → IsVerdict A (IsTrueIn (question_for P.names down asks) A) v
      → IsVerdict B (IsTrueIn (question_for Q.names down asks) B) w → v ≡ w
  one_verdict down A B v w left a b =
      same_verdict A B left (question_for P.names down asks) v w a
      (subst (λ (names : List (List ℕ)). IsVerdict B (IsTrueIn (question_for names down asks) B) w) (sym same.names) b)

  one_trial : (loss : Loss) (t u : Trial) → IsTried P asks loss t → IsTried Q asks loss u → t.verdict ≡ u.verdict
  one_trial loss t u a b = one_verdict loss.down a.other b.other t.verdict u.verdict (left_alike P Q same loss.down a.other b.other a.without b.without)
      a.answer.is b.answer.is

  one_verdicts : (losses : List Loss) (ts us : List Trial) → Pairwise (IsTried P asks) losses ts → Pairwise (IsTried Q asks) losses us
      → verdicts_of ts ≡ verdicts_of us
  one_verdicts [] [] [] a b = refl
  one_verdicts [] [] (u ∷ us) a b = absurd b
  one_verdicts [] (t ∷ ts) us a b = absurd a
  one_verdicts (loss ∷ losses) [] us a b = absurd a
  one_verdicts (loss ∷ losses) (t ∷ ts) [] a b = absurd b
  one_verdicts (loss ∷ losses) (t ∷ ts) (u ∷ us) a b =
      let first = one_trial loss t u a.0 b.0 in
      let rest = one_verdicts losses ts us a.1 b.1 in
      λ i. first i ∷ rest i

  one_all : (losses : List Loss) (ts us : List Trial) → Pairwise (IsTried P asks) losses ts → Pairwise (IsTried Q asks) losses us
      → list_all (λ (t : Trial). is_yes t.verdict) ts ≡ list_all (λ (t : Trial). is_yes t.verdict) us
  one_all [] [] [] a b = refl
  one_all [] [] (u ∷ us) a b = absurd b
  one_all [] (t ∷ ts) us a b = absurd a
  one_all (loss ∷ losses) [] us a b = absurd a
  one_all (loss ∷ losses) (t ∷ ts) [] a b = absurd b
  one_all (loss ∷ losses) (t ∷ ts) (u ∷ us) a b =
      let first = one_trial loss t u a.0 b.0 in
      let rest = one_all losses ts us a.1 b.1 in
      λ i. is_yes (first i) && rest i

  failings_alike : (number : ℕ) (down : Down) (losses : List Loss) (A B : Problem) (x y : Part) → ProblemsAlike A B
      → IsFailingPart asks number P down losses A x → IsFailingPart asks number Q down losses B y → Alike (AreFailingsAlike number) x y
  failings_alike number down losses A B x y left a b =
      let verdict = one_verdict down A B a.verdict b.verdict left a.answer.is b.answer.is in
      let yes = one_all losses a.trials b.trials a.tried b.tried in
      let both : (is_yes a.verdict && list_all (λ (t : Trial). is_yes t.verdict) a.trials) ≡
      (is_yes b.verdict && list_all (λ (t : Trial). is_yes t.verdict) b.trials) =
      λ i. is_yes (verdict i) && yes i in
      let all = a.all ∙ both ∙ sym b.all in
      let names = sym same.names in
      let back = sym verdict in (
        record {
          names = P.names;
          verdict = a.verdict;
          first_tie = a.tied;
          second_tie = b.tied;
          losses = losses;
          first_trials = a.trials;
          second_trials = b.trials;
          verdicts = one_verdicts losses a.trials b.trials a.tried b.tried;
          all = all;
          first_is = a.bytes;
          second_is = b.bytes ∙ (λ i. answer_line (names i) number (back i) b.tied ++ trials_text number losses b.trials);
        },
        all,
      )

-- ---- tasks

module _ (manner : Manner) (network : Network) (routers links : List Bool) (number : ℕ) (P Q : Problem) (same : ProblemsAlike P Q) (A B : Problem)
    (left : ProblemsAlike A B) (x y : Part) where
  abbrev down : Down
  down = marked_down routers links

  tasks_alike : (of : Task) → IsTaskPart manner network routers links number P A of x → IsTaskPart manner network routers links number Q B of y
      → Alike (ArePartsAlike manner of number) x y
  tasks_alike task.Count a b =
      let all = a.all ∙ sym b.all in
      (part_same x y (a.bytes ∙ ap (count_line number) (as_many A B left a.found b.found a.are b.are) ∙ sym b.bytes) all, all)
  tasks_alike task.Solutions a b = solutions_alike A B left number x y told.Labels manner.one a b
  tasks_alike task.Forwards a b = solutions_alike A B left number x y told.Hops manner.one a b
  tasks_alike (task.Answer asks) a b = answers_alike A B left number x y manner.shows (question_for P.names down asks) a
      (subst (λ (names : List (List ℕ)). IsAnswerPart manner.shows number (question_for names down asks) B y) (sym same.names) b)
  tasks_alike (task.FailingLinks asks) a b = failings_alike P Q same asks number down (link_losses P.names (links_of network) routers links) A B x y left a
      (subst (λ (names : List (List ℕ)). IsFailingPart asks number Q down (link_losses names (links_of network) routers links) B y) (sym same.names) b)
  tasks_alike (task.FailingRouters asks) a b = failings_alike P Q same asks number down (router_losses P.names routers links) A B x y left a
      (subst (λ (names : List (List ℕ)). IsFailingPart asks number Q down (router_losses names routers links) B y) (sym same.names) b)

pub parts_alike : (manner : Manner) (network : Network) (request : Request) (numbered : ℕ × DestClass) (x y : Part)
    → Contains (classes_of network) numbered.1 → IsClassPart manner network request numbered x → IsClassPart manner network request numbered y
    → Alike (ArePartsAlike manner request.task numbered.0) x y
parts_alike manner network request numbered x y has a b =
    let routers = routers_lost (names_of network) request.down in
    let links = links_lost (names_of network) (links_of network) request.down in
    let p = some_prefix network numbered.1 has in
    let same = one_problem network p.0 a.whole b.whole (a.of_class p.0 p.1) (b.of_class p.0 p.1) in
    tasks_alike manner network routers links numbered.0 a.whole b.whole same a.problem b.problem
    (left_alike a.whole b.whole same (marked_down routers links) a.problem b.problem a.without b.without) x y request.task a.written b.written
