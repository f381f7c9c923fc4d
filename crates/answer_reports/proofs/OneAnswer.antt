-- A command has one answer.
use Rattle.std.proofs.Common.{◌≡◌, inl, inr, ℕ, Bool, true, false, List, [], ◌∷◌, refl, sym, ap, ◌∙◌}
use Rattle.std.specs.Prelude.{Contains}
use Rattle.base_kit.proofs.Elements.{In, contains_in}
use Rattle.cfg_ast.specs.declared.network.Network.{Network}
use Rattle.cfg_ast.specs.declared.classes.DestClass.{DestClass}
use Rattle.cfg_ast.specs.meaning.Classes.{classes_of}
use Rattle.config_emit.specs.Plan.{Plan}
use Rattle.fat_gen.specs.FatTrees.{is_size, fat_tree_text}
use Rattle.group_report.specs.Reports.{Report, report_text}
use Rattle.group_report.specs.JsonText.{json_text}
use Rattle.answer_kit.specs.ClassNumbers.{class_at}
use Rattle.answer_kit.specs.Outcome.{Outcome, done}
use Rattle.answer_kit.proofs.OneClass.{IsOneOfEach, one_of_class}
use Rattle.answer_kit.proofs.OneText.{one_of_network}
use Rattle.class_laws.specs.Laws.{BuiltProblemIsOne}
use Rattle.answer_reports.proofs.OnePlan.{one_plan}
use Rattle.answer_reports.specs.OneAnswer.{ReportAnswerIsOne, JsonAnswerIsOne, SummaryAnswerIsOne, TrialAnswerIsOne}
use Rattle.answer_reports.specs.ReportAnswers.{report_of, IsReported}
use Rattle.answer_reports.specs.Summaries.{ArePlansOf, summary_lines, IsSummaryAnswer}
use Rattle.answer_reports.specs.Trials.{IsTrialBy}

one_report : BuiltProblemIsOne → (text : Report → List ℕ) (n : Network) (number : ℕ) → IsOneOfEach n (IsReported text n number)
one_report law text n number class has o p x y =
    x.written ∙ ap (λ (plan : Plan). done (text (report_of n number plan))) (one_plan law n class has x.plan y.plan x.is y.is) ∙ sym y.written

pub report_answer_is_one : BuiltProblemIsOne → ReportAnswerIsOne
report_answer_is_one law n number o p x y = one_of_class n (IsReported report_text n number) (one_report law report_text n number) number
    (class_at (classes_of n) number) refl o p x y

pub json_answer_is_one : BuiltProblemIsOne → JsonAnswerIsOne
json_answer_is_one law n number o p x y = one_of_class n (IsReported json_text n number) (one_report law json_text n number) number
    (class_at (classes_of n) number) refl o p x y

-- classes of the network have one list of plans
one_list : BuiltProblemIsOne → (n : Network) (cs : List DestClass) (ps qs : List Plan) → ((class : DestClass) → In cs class → Contains (classes_of n) class)
    → ArePlansOf n cs ps → ArePlansOf n cs qs → ps ≡ qs
one_list law n [] [] [] among x y = refl
one_list law n [] [] (q ∷ qs) among x y = absurd y
one_list law n [] (p ∷ ps) qs among x y = absurd x
one_list law n (c ∷ cs) [] qs among x y = absurd x
one_list law n (c ∷ cs) (p ∷ ps) [] among x y = absurd y
one_list law n (c ∷ cs) (p ∷ ps) (q ∷ qs) among x y =
    let first = one_plan law n c (among c (inl refl)) p q x.0 y.0 in
    let rest = one_list law n cs ps qs (λ class there. among class (inr there)) x.1 y.1 in
    (λ j. first j ∷ rest j)

pub summary_answer_is_one : BuiltProblemIsOne → SummaryAnswerIsOne
summary_answer_is_one law n o p x y =
    let plans = one_list law n (classes_of n) x.lines.plans y.lines.plans (λ class there. contains_in (classes_of n) class there) x.lines.are y.lines.are in
    x.written ∙ ap done (x.lines.lines ∙ ap (summary_lines n 1) plans ∙ sym y.lines.lines) ∙ sym y.written

one_trial : BuiltProblemIsOne → (is : Bool) (size : ℕ) (o p : Outcome) → IsTrialBy is size o → IsTrialBy is size p → o ≡ p
one_trial law true size o p x y = one_of_network IsSummaryAnswer (summary_answer_is_one law) (fat_tree_text size) o p x y
one_trial law false size o p x y = x ∙ sym y

pub trial_answer_is_one : BuiltProblemIsOne → TrialAnswerIsOne
trial_answer_is_one law size o p x y = one_trial law (is_size size) size o p x y
