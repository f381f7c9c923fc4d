-- What is allowed of the text of a second file, and of the labels that it gives.
use Rattle.std.specs.Prelude.{◌≡◌, ◌≤◌, ◌<◌, ◌⊎◌, ℕ, List, length, ◌++◌, codes, decimal, Option, IfSome, Result, Ok, Err}
use Rattle.srp_core.specs.declared.route.Route.{Route}
use Rattle.srp_core.specs.Problem.{Problem}
use Rattle.solution_text.specs.declared.refusal.SolKind.{SolKind}
use Rattle.solution_text.specs.declared.refusal.SolKind.TheVariants as kind
use Rattle.solution_text.specs.declared.refusal.SolRefusal.{SolRefusal}
use Rattle.solution_text.specs.declared.refusal.SolRefusal.TheVariants as sol_refusal
use Rattle.solution_text.specs.Solutions.{labels_of_text}
use Rattle.answer_kit.specs.Outcome.{Outcome, refused}

-- what is allowed of a text of at most that many bytes, or its refusal for that reason
abbrev pub IsOfText : ℕ → List ℕ → (List ℕ → Outcome → Type 0) → List ℕ → Outcome → Type 0
IsOfText limit long IsAllowed text o = ((limit < length text) × (o ≡ refused long)) ⊎ ((length text ≤ limit) × IsAllowed text o)

-- The same of the second file. Where it is not known, any outcome is allowed.
abbrev pub IsOfSecond : ℕ → List ℕ → Option (List ℕ) → (List ℕ → Outcome → Type 0) → Outcome → Type 0
IsOfSecond limit long second IsAllowed o = IfSome second (λ text. IsOfText limit long IsAllowed text o)

-- no text is allowed
abbrev pub AllowsNoText : List ℕ → Outcome → Type 0
AllowsNoText text o = ⊥

-- ---- solutions

-- a solution has at most this many bytes
abbrev pub solution_limit : ℕ
solution_limit = 268435456

abbrev pub long_solution : List ℕ
long_solution = codes "solution FileTooLong"

-- the name of a kind of fault
abbrev pub name_of_solution_kind : SolKind → List ℕ
name_of_solution_kind kind.BadForm = codes "BadForm"
name_of_solution_kind kind.UnknownRouter = codes "UnknownRouter"
name_of_solution_kind kind.Repeated = codes "Repeated"
name_of_solution_kind kind.Missing = codes "Missing"
name_of_solution_kind kind.WrongProtocol = codes "WrongProtocol"

-- a line of a solution and a kind as the reason of a refusal
abbrev pub solution_reason : ℕ → SolKind → List ℕ
solution_reason line k = codes "solution line " ++ decimal line ++ codes ": " ++ name_of_solution_kind k

-- what is allowed of labels, or the refusal of the text that was to give them
abbrev pub IsOfLabels : (List (Option Route) → Outcome → Type 0) → Result (List (Option Route)) SolRefusal → Outcome → Type 0
IsOfLabels IsAllowed (Ok labels) o = IsAllowed labels o
IsOfLabels IsAllowed (Err (sol_refusal.At line k)) o = o ≡ refused (solution_reason line k)
IsOfLabels IsAllowed (Err sol_refusal.Memory) o = ⊥

-- what is allowed of the labels of the problem that a text gives
abbrev pub IsOfLabelsIn : Problem → (List (Option Route) → Outcome → Type 0) → List ℕ → Outcome → Type 0
IsOfLabelsIn problem IsAllowed text o = IsOfLabels IsAllowed (labels_of_text problem.protocol problem.names text) o

-- what is allowed of the labels of the problem that the second file gives
abbrev pub IsOfSolution : Problem → Option (List ℕ) → (List (Option Route) → Outcome → Type 0) → Outcome → Type 0
IsOfSolution problem second IsAllowed o = IsOfSecond solution_limit long_solution second (IsOfLabelsIn problem IsAllowed) o

-- no labels are allowed
abbrev pub AllowsNoLabels : List (Option Route) → Outcome → Type 0
AllowsNoLabels labels o = ⊥

-- the text that is known gives these labels
pub record GivesLabels (problem : Problem) (labels : List (Option Route)) (text : List ℕ) : Type 0 where
  pub short : length text ≤ solution_limit
  pub read : labels_of_text problem.protocol problem.names text ≡ Ok labels
