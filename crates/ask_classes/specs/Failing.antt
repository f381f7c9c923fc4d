-- The answer to a question without each one link or router more.
use Rattle.std.specs.Prelude.{◌≡◌, ℕ, ◌+◌, Bool, true, false, not, ◌&&◌, List, [], ◌∷◌, ◌++◌, codes, decimal, filter, flat_map, map, length, take, nat_eq, slice_index_or, slice_set, count_by, if◌then◌else◌, Option}
use Rattle.std.specs.List.{enumerate_from, list_all, zip}
use Rattle.std.specs.Option.{is_some}
use Rattle.cfg_ast.specs.declared.topology.Link.{Link}
use Rattle.srp_core.specs.Problem.{Problem}
use Rattle.srp_core.specs.Without.{Down, marked_down, IsWithout}
use Rattle.srp_questions.specs.declared.verdict.Verdict.{Verdict}
use Rattle.ask_words.specs.declared.request.AskedOf.{AskedOf}
use Rattle.solution_search.specs.declared.board.Tie.{Tie}
use Rattle.solution_answers.specs.Pairwise.{Pairwise}
use Rattle.solution_answers.specs.Parts.{Part}
use Rattle.ask_names.specs.Routers.{name_at, question_for}
use Rattle.solution_answers.specs.Verdicts.{verdict_word, is_yes, answer_line, IsAnswer}

-- ---- what is tried

-- something more that is down, and the words that tell it
pub record Loss : Type 0 where
  pub words : List ℕ
  pub down : Down

-- a link that is not down, nor is a router at its ends
abbrev pub is_link_left : List Bool → List Bool → ℕ × Link → Bool
is_link_left routers links (place, link) =
    not (slice_index_or links place false) && (not (slice_index_or routers link.low false) && not (slice_index_or routers link.high false))

abbrev pub has_same_ends : Link → Link → Bool
has_same_ends link other = nat_eq link.low other.low && nat_eq link.high other.high

-- which of the links between its routers a link is, counted from 1
abbrev pub link_rank : List Link → ℕ → Link → ℕ
link_rank links place link = count_by (has_same_ends link) (take (place + 1) links)

abbrev pub link_words : List (List ℕ) → List Link → ℕ → Link → List ℕ
link_words names links place link = codes "link " ++ name_at names link.low ++ codes " " ++ name_at names link.high ++ codes " " ++ decimal (link_rank links place link)

-- the link is down too
abbrev pub loss_of_link : List (List ℕ) → List Link → List Bool → List Bool → ℕ × Link → Loss
loss_of_link names all routers links (place, link) = record { words = link_words names all place link; down = marked_down routers (slice_set links place true) }

-- each link that is not down, in order
unfoldable pub link_losses : List (List ℕ) → List Link → List Bool → List Bool → List Loss
link_losses names all routers links = map (loss_of_link names all routers links) (filter (is_link_left routers links) (enumerate_from 0 all))

abbrev pub is_router_left : List Bool → ℕ × List ℕ → Bool
is_router_left routers (place, name) = not (slice_index_or routers place false)

abbrev pub loss_of_router : List Bool → List Bool → ℕ × List ℕ → Loss
loss_of_router routers links (place, name) = record { words = codes "router " ++ name; down = marked_down (slice_set routers place true) links }

-- each router that is not down, in order
unfoldable pub router_losses : List (List ℕ) → List Bool → List Bool → List Loss
router_losses names routers links = map (loss_of_router routers links) (filter (is_router_left routers) (enumerate_from 0 names))

-- ---- what is found

-- the answer for the problem without one more, and the tie that it hangs on
pub record Trial : Type 0 where
  pub verdict : Verdict
  pub tied : Option Tie

-- the problem of the class without what is down then has that answer to the question
pub record IsTried (whole : Problem) (asks : AskedOf) (loss : Loss) (trial : Trial) : Type 0 where
  pub other : Problem
  pub without : IsWithout whole loss.down other
  pub answer : IsAnswer other (question_for whole.names loss.down asks) trial.verdict trial.tied

-- ---- how it is reported

-- a line where the answer is not `yes`
abbrev pub trial_line : Loss × Trial → List ℕ
trial_line (loss, trial) = if is_yes trial.verdict then [] else loss.words ++ codes " " ++ verdict_word trial.verdict ++ 10 ∷ []

abbrev pub has_failed : Trial → Bool
has_failed trial = not (is_yes trial.verdict)

-- how many answers hang on a tie
abbrev pub ties_words : ℕ → List ℕ
ties_words count = if nat_eq count 0 then [] else codes " tied " ++ decimal count

-- `class N failing M of L`, and how many are tied
abbrev pub failing_line : ℕ → List Trial → List ℕ
failing_line number trials = codes "class " ++ decimal number ++ codes " failing " ++ decimal (count_by has_failed trials) ++ codes " of " ++ decimal (length trials)
    ++ ties_words (count_by (λ (t : Trial). is_some t.tied) trials) ++ 10 ∷ []

-- the line of each loss without which the answer is not `yes`, and the last line
abbrev pub trials_text : ℕ → List Loss → List Trial → List ℕ
trials_text number losses trials = flat_map trial_line (zip losses trials) ++ failing_line number trials

-- the answer of a class, and the answers without each of the losses
pub record IsFailingPart (asks : AskedOf) (number : ℕ) (whole : Problem) (down : Down) (losses : List Loss) (problem : Problem) (part : Part) : Type 0 where
  pub verdict : Verdict
  pub tied : Option Tie
  pub answer : IsAnswer problem (question_for whole.names down asks) verdict tied
  pub trials : List Trial
  pub tried : Pairwise (IsTried whole asks) losses trials
  pub bytes : part.bytes ≡ answer_line whole.names number verdict tied ++ trials_text number losses trials
  pub all : part.all ≡ (is_yes verdict && list_all (λ (t : Trial). is_yes t.verdict) trials)
