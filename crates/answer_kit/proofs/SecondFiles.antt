-- Public: from the answer to a text of a second file to the answer to the file.
use Rattle.std.proofs.Common.{◌≡◌, ℕ, ◌<◌, ◌≤◌, inl, inr, List, length, sym, subst, Option, Some, None, IfSome, Result, Ok, Err}
use Rattle.srp_core.specs.declared.route.Route.{Route}
use Rattle.srp_core.specs.Problem.{Problem}
use Rattle.solution_text.specs.declared.refusal.SolKind.{SolKind}
use Rattle.solution_text.specs.declared.refusal.SolRefusal.{SolRefusal}
use Rattle.solution_text.specs.declared.refusal.SolRefusal.TheVariants as sol_refusal
use Rattle.solution_text.specs.Solutions.{labels_of_text}
use Rattle.answer_kit.specs.declared.reply.Reply.{Reply}
use Rattle.answer_kit.specs.Outcome.{Outcome, refused}
use Rattle.answer_kit.specs.Replies.{Answers, Only}
use Rattle.answer_kit.specs.SecondFiles.{IsOfText, IsOfSecond, AllowsNoText, solution_limit, long_solution, solution_reason, IsOfLabels, IsOfLabelsIn, IsOfSolution, AllowsNoLabels, GivesLabels}
use Rattle.answer_kit.proofs.Replies.{answers_as, answers_only}

-- ---- any text

of_text : (limit : ℕ) (long : List ℕ) (A B : List ℕ → Outcome → Type 0) (text : List ℕ) (o : Outcome) → (length text ≤ limit → A text o → B text o)
    → IsOfText limit long A text o → IsOfText limit long B text o
of_text limit long A B text o more (inl is) = inl is
of_text limit long A B text o more (inr is) = inr (is.0, more is.0 is.1)

-- more is allowed of the text
pub of_second : (limit : ℕ) (long : List ℕ) (A B : List ℕ → Outcome → Type 0) (second : Option (List ℕ)) (o : Outcome) → ((text : List ℕ) → A text o → B text o)
    → IsOfSecond limit long second A o → IsOfSecond limit long second B o
of_second limit long A B None o more is = tt
of_second limit long A B (Some text) o more is = of_text limit long A B text o (λ short. more text) is

-- the text that is known was read
pub of_read : (limit : ℕ) (long : List ℕ) (A : List ℕ → Outcome → Type 0) (bytes : List ℕ) (second : Option (List ℕ)) (o : Outcome) → length bytes ≤ limit
    → IfSome second (λ text. bytes ≡ text) → A bytes o → IsOfSecond limit long second A o
of_read limit long A bytes None o short same is = tt
of_read limit long A bytes (Some text) o short same is = subst (λ (t : List ℕ). IsOfText limit long A t o) same (inr (short, is))

-- it was too long
pub of_long : (limit : ℕ) (long : List ℕ) (A : List ℕ → Outcome → Type 0) (second : Option (List ℕ)) → IfSome second (λ text. limit < length text)
    → IsOfSecond limit long second A (refused long)
of_long limit long A None longer = tt
of_long limit long A (Some text) longer = inl (longer, cc)

-- ---- labels

of_labels : (A : List (Option Route) → Outcome → Type 0) (labels : Result (List (Option Route)) SolRefusal) (o : Outcome) → IsOfLabels AllowsNoLabels labels o
    → IsOfLabels A labels o
of_labels A (Ok labels) o is = absurd is
of_labels A (Err (sol_refusal.At line kind)) o is = is
of_labels A (Err sol_refusal.Memory) o is = absurd is

-- no labels were read
pub answers_unread : (reply : Reply) (problem : Problem) (A : List (Option Route) → Outcome → Type 0) (second : Option (List ℕ)) (rose : Type 0)
    → Answers reply (IsOfSolution problem second AllowsNoLabels) ⊥ rose → Answers reply (IsOfSolution problem second A) ⊥ rose
answers_unread reply problem A second rose answers =
    answers_as reply (IsOfSolution problem second AllowsNoLabels) (IsOfSolution problem second A) ⊥ ⊥ rose rose
    (λ o is. of_second solution_limit long_solution (IsOfLabelsIn problem AllowsNoLabels) (IsOfLabelsIn problem A) second o
    (λ text. of_labels A (labels_of_text problem.protocol problem.names text) o) is)
    (λ e. e) (λ r. r) answers

of_given : (problem : Problem) (A : List (Option Route) → Outcome → Type 0) (labels : List (Option Route)) (second : Option (List ℕ)) (o : Outcome)
    → IfSome second (GivesLabels problem labels) → A labels o → IsOfSolution problem second A o
of_given problem A labels None o gives is = tt
of_given problem A labels (Some text) o gives is = inr (
  gives.short,
  subst (λ (r : Result (List (Option Route)) SolRefusal). IsOfLabels A r o) (sym gives.read) is,
)

-- labels were read
pub answers_given : (reply : Reply) (problem : Problem) (A : List (Option Route) → Outcome → Type 0) (labels : List (Option Route)) (second : Option (List ℕ))
    (rose : Type 0)
    → IfSome second (GivesLabels problem labels) → Answers reply (A labels) ⊥ ⊥ → Answers reply (IsOfSolution problem second A) ⊥ rose
answers_given reply problem A labels second rose gives answers =
    answers_as reply (A labels) (IsOfSolution problem second A) ⊥ ⊥ ⊥ rose (λ o is. of_given problem A labels second o gives is) (λ e. e) (λ e. absurd e)
    answers

-- a line of the text is at fault
pub answers_fault : (reply : Reply) (problem : Problem) (text : List ℕ) (line : ℕ) (kind : SolKind)
    → labels_of_text problem.protocol problem.names text ≡ Err (sol_refusal.At line kind)
    → Answers reply (Only (refused (solution_reason line kind))) ⊥ ⊥ → Answers reply (IsOfLabelsIn problem AllowsNoLabels text) ⊥ ⊥
answers_fault reply problem text line kind fault answers =
    answers_only reply (refused (solution_reason line kind)) (IsOfLabelsIn problem AllowsNoLabels text) ⊥ ⊥
    (subst (λ (r : Result (List (Option Route)) SolRefusal). IsOfLabels AllowsNoLabels r (refused (solution_reason line kind))) (sym fault) cc) answers

-- what was read gives no labels
pub answers_none_in : (reply : Reply) (problem : Problem) (bytes : List ℕ) (second : Option (List ℕ)) (rose : Type 0) → length bytes ≤ solution_limit
    → IfSome second (λ text. bytes ≡ text)
    → Answers reply (IsOfLabelsIn problem AllowsNoLabels bytes) ⊥ ⊥ → Answers reply (IsOfSolution problem second AllowsNoLabels) ⊥ rose
answers_none_in reply problem bytes second rose short same answers =
    answers_as reply (IsOfLabelsIn problem AllowsNoLabels bytes) (IsOfSolution problem second AllowsNoLabels) ⊥ ⊥ ⊥ rose
    (λ o is. of_read solution_limit long_solution (IsOfLabelsIn problem AllowsNoLabels) bytes second o short same is) (λ e. e) (λ e. absurd e) answers

-- no text was read
pub answers_no_text : (reply : Reply) (problem : Problem) (second : Option (List ℕ)) (rose : Type 0)
    → Answers reply (IsOfSecond solution_limit long_solution second AllowsNoText) ⊥ rose → Answers reply (IsOfSolution problem second AllowsNoLabels) ⊥ rose
answers_no_text reply problem second rose answers =
    answers_as reply (IsOfSecond solution_limit long_solution second AllowsNoText) (IsOfSolution problem second AllowsNoLabels) ⊥ ⊥ rose rose
    (λ o is. of_second solution_limit long_solution AllowsNoText (IsOfLabelsIn problem AllowsNoLabels) second o (λ text e. absurd e) is) (λ e. e) (λ r. r)
    answers

-- what was read gives labels
pub given_labels : (problem : Problem) (labels : List (Option Route)) (bytes : List ℕ) (second : Option (List ℕ)) → IfSome second (λ text. bytes ≡ text)
    → GivesLabels problem labels bytes → IfSome second (GivesLabels problem labels)
given_labels problem labels bytes None same gives = tt
given_labels problem labels bytes (Some text) same gives = subst (GivesLabels problem labels) same gives
