-- From what is found and told to what the whole call does.
use Rattle.std.proofs.Common.{◌≡◌, ◌≢◌, ◌⊎◌, inl, inr, ℕ, Bool, true, false, List, refl, sym, ◌∙◌, subst, Option, Some, None}
use Rattle.std.specs.Prelude.{IsSome}
use Rattle.endings.specs.declared.ending.Ending.{Ending}
use Rattle.endings.specs.declared.ending.Ending.TheVariants.{Usage, ReadFault, WriteFault}
use Rattle.endings.specs.declared.finding.Finding.{Finding}
use Rattle.endings.specs.declared.finding.Finding.TheVariants.{Output, Refusal, Misuse, ReadFailed, SecondFailed, NoMemory}
use Rattle.endings.specs.Findings.{Finds, told_by}
use Rattle.endings.specs.Meets.{Tells, RunMeets}
use Rattle.endings.specs.Telling.{Telling, misuse, ending_of}
use Rattle.endings.proofs.Findings.{finds_as}
use Rattle.endings.proofs.Runs.{meets, run_meets}
use Rattle.io_kit.specs.Ends.{Rose}
use Rattle.network_files.specs.NetworkFiles.{IsOfFile}
use Rattle.ask_words.specs.Commands.{command_of, file_of, class_word_of, second_of}
use Rattle.ask_words.specs.declared.request.Command.{Command}
use Rattle.ask_top.specs.Outcomes.{ask_usage, IsOfCommand, IsOfWords, IsAskOutcome}
use Rattle.ask_top.specs.Reads.{NetworkRose, QuestionsFailed}

module _ (words : List (List ℕ)) (contents : List ℕ → Option (List ℕ)) where
  -- what is found for a command is an outcome of its words
  pub finds_words : (finding : Finding) (asked : Command) (first class second : List ℕ) (old new : List ℕ → ℕ) → command_of words ≡ Some asked →
      first ≡ file_of words → class ≡ class_word_of words → second ≡ second_of words →
      Finds finding (IsOfFile (IsOfCommand asked class (contents second)) (contents first)) (Rose (old first) (new first))
      (QuestionsFailed (Some asked) (contents first) (old second) (new second)) →
      Finds finding (IsAskOutcome words contents) (NetworkRose (command_of words) (old (file_of words)) (new (file_of words)))
      (QuestionsFailed (command_of words) (contents (file_of words)) (old (second_of words)) (new (second_of words)))
  unfolding IsAskOutcome
  finds_words finding asked first class second old new is first_is class_is second_is finds =
      let by_first = subst (λ (t : List ℕ). Finds finding (IsOfFile (IsOfCommand asked class (contents second)) (contents t)) (Rose (old t) (new t))
      (QuestionsFailed (Some asked) (contents t) (old second) (new second)))
      first_is finds in
      let by_class = subst (λ (t : List ℕ). Finds finding (IsOfFile (IsOfCommand asked t (contents second)) (contents (file_of words)))
      (Rose (old (file_of words)) (new (file_of words)))
      (QuestionsFailed (Some asked) (contents (file_of words)) (old second) (new second))) class_is by_first in
      let by_second = subst (λ (t : List ℕ). Finds finding (IsOfFile (IsOfCommand asked (class_word_of words) (contents t)) (contents (file_of words)))
      (Rose (old (file_of words)) (new (file_of words))) (QuestionsFailed (Some asked) (contents (file_of words)) (old t) (new t))) second_is by_class in
      let A : Telling → Type 0 = IsOfFile (IsOfCommand asked (class_word_of words) (contents (second_of words))) (contents (file_of words)) in
      subst (λ (c : Option Command). Finds finding (IsOfWords c (class_word_of words) (contents (file_of words)) (contents (second_of words)))
      (NetworkRose c (old (file_of words)) (new (file_of words)))
      (QuestionsFailed c (contents (file_of words)) (old (second_of words)) (new (second_of words)))) (sym is)
      (finds_as finding A A (Rose (old (file_of words)) (new (file_of words))) (NetworkRose (Some asked) (old (file_of words)) (new (file_of words)))
      (QuestionsFailed (Some asked) (contents (file_of words)) (old (second_of words)) (new (second_of words)))
      (QuestionsFailed (Some asked) (contents (file_of words)) (old (second_of words)) (new (second_of words)))
      (λ o a. a) (λ r. (refl, r)) (λ s. s) by_second)

  -- words of no form
  pub misuse_is : command_of words ≡ None → IsAskOutcome words contents (misuse ask_usage)
  unfolding IsAskOutcome
  misuse_is none = subst (λ (c : Option Command). IsOfWords c (class_word_of words) (contents (file_of words)) (contents (second_of words))
      (misuse ask_usage)) (sym none) refl

-- ---- the ending

done_is_not : (all : Bool) (e : Ending) → ending_of all ≡ e → (e ≢ Usage) × (e ≢ ReadFault)
done_is_not true e is = (λ same. (let no = is ∙ same in absurd (cc)), λ same. (let no = is ∙ same in absurd (cc)))
done_is_not false e is = (λ same. (let no = is ∙ same in absurd (cc)), λ same. (let no = is ∙ same in absurd (cc)))

-- what is found of words of a form is no misuse
pub no_misuse : (finding : Finding) (A : Telling → Type 0) (f s : Type 0) (usage first second : List ℕ) → Finds finding A f s →
    (told_by finding usage first second).ending ≢ Usage
no_misuse (Output bytes all) A f s usage first second finds = (done_is_not all (ending_of all) refl).0
no_misuse (Refusal reason) A f s usage first second finds = λ same. absurd (cc)
no_misuse Misuse A f s usage first second finds = absurd finds
no_misuse ReadFailed A f s usage first second finds = λ same. absurd (cc)
no_misuse SecondFailed A f s usage first second finds = λ same. absurd (cc)
no_misuse NoMemory A f s usage first second finds = λ same. absurd (cc)

-- a fault of a file has its cause
pub read_fault_rose : (finding : Finding) (A : Telling → Type 0) (f s : Type 0) (usage first second : List ℕ) → Finds finding A f s →
    (told_by finding usage first second).ending ≡ ReadFault → f ⊎ s
read_fault_rose (Output bytes all) A f s usage first second finds is = absurd ((done_is_not all (ending_of all) refl).1 is)
read_fault_rose (Refusal reason) A f s usage first second finds is = absurd (cc)
read_fault_rose Misuse A f s usage first second finds is = absurd finds
read_fault_rose ReadFailed A f s usage first second finds is = inl finds
read_fault_rose SecondFailed A f s usage first second finds is = inr finds
read_fault_rose NoMemory A f s usage first second finds is = absurd (cc)

-- the ending that was to be reported, or a fault of an output
pub ended : (o : Telling) (result e : Ending) → (result ≡ o.ending) ⊎ (result ≡ WriteFault) → result ≡ e → e ≢ WriteFault → o.ending ≡ e
ended o result e (inl told) is other = sym told ∙ is
ended o result e (inr fault) is other = absurd (other (sym is ∙ fault))

asked_some : (asks : Option Command) (asked : Command) → asks ≡ Some asked → IsSome asks
asked_some None asked is = cc
asked_some (Some other) asked is = refl

-- ---- the whole call

module _ (words : List (List ℕ)) (contents : List ℕ → Option (List ℕ)) (old new : List ℕ → ℕ) (result : Ending)
    (out_old out_new : Option (List ℕ)) (out_before out_now : ℕ) (err_old err_new : Option (List ℕ)) (err_before err_now : ℕ) where
  abbrev First : Type 0
  First = NetworkRose (command_of words) (old (file_of words)) (new (file_of words))

  abbrev Second : Type 0
  Second = QuestionsFailed (command_of words) (contents (file_of words)) (old (second_of words)) (new (second_of words))

  abbrev Runs : Type 0
  Runs = RunMeets (IsAskOutcome words contents) (file_of words)
      (second_of words) First Second result out_old out_new out_before out_now err_old err_new err_before err_now

  abbrev Told : Telling → Type 0
  Told o = Tells o result out_old out_new out_before out_now err_old err_new err_before err_now

  module _ (finding : Finding) (asked : Command) (first class second : List ℕ) (is : command_of words ≡ Some asked)
      (first_is : first ≡ file_of words) (class_is : class ≡ class_word_of words) (second_is : second ≡ second_of words)
      (finds : Finds finding (IsOfFile (IsOfCommand asked class (contents second)) (contents first)) (Rose (old first) (new first))
      (QuestionsFailed (Some asked) (contents first) (old second) (new second)))
      (told : Told (told_by finding ask_usage first second)) where
    told_words : Told (told_by finding ask_usage (file_of words) (second_of words))
    told_words = subst (λ (t : List ℕ). Told (told_by finding ask_usage (file_of words) t)) second_is
        (subst (λ (t : List ℕ). Told (told_by finding ask_usage t second)) first_is told)

    pub told_runs : Runs
    told_runs = run_meets (IsAskOutcome words contents) (file_of words)
        (second_of words) First Second result out_old out_new out_before out_now err_old err_new err_before err_now
        finding ask_usage (finds_words words contents finding asked first class second old new is first_is class_is second_is finds) told_words

    pub fault_rose : result ≡ ReadFault → IsSome (command_of words) × (First ⊎ Second)
    fault_rose fault = (
      asked_some (command_of words) asked is,
      read_fault_rose finding (IsAskOutcome words contents) First Second ask_usage (file_of words) (second_of words)
          (finds_words words contents finding asked first class second old new is first_is class_is second_is finds)
          (ended (told_by finding ask_usage (file_of words) (second_of words)) result ReadFault told_words.ending fault (λ same. absurd (cc))),
    )

  pub misuse_runs : command_of words ≡ None → Told (misuse ask_usage) → Runs
  misuse_runs none told = meets (IsAskOutcome words contents) (file_of words)
      (second_of words) First Second result out_old out_new out_before out_now err_old err_new err_before err_now
      (misuse ask_usage) (inl (misuse_is words contents none)) told
