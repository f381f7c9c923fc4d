-- From what is reported of a network, or found in its place, to what the whole call does.
use Rattle.std.proofs.Common.{◌≡◌, ◌≢◌, ◌≤◌, ◌⊎◌, inl, inr, ⊎_elim, ℕ, suc, ◌+◌, ◌-◌, List, [], ◌∷◌, length, refl, sym, ap, ◌∙◌, subst, arith, Option, Some, None, IfSome, Result, Ok}
use Rattle.std.specs.Prelude.{IsSome}
use Rattle.cfg_ast.specs.declared.network.Network.{Network}
use Rattle.cfg_ast.specs.declared.refusal.ReadRefusal.{ReadRefusal}
use Rattle.cfg_ast.specs.meaning.Classes.{classes_of}
use Rattle.cfg_ast.specs.text.Reading.{reading_of}
use Rattle.io_kit.specs.Ends.{Rose}
use Rattle.answer_kit.specs.Networks.{IsOfReading}
use Rattle.answer_kit.specs.Outcome.{Outcome}
use Rattle.bonsai_top.specs.declared.command.ClassCommand.{ClassCommand}
use Rattle.bonsai_top.specs.declared.command.Command.{Command}
use Rattle.bonsai_top.specs.declared.command.Command.TheVariants.{OnClass}
use Rattle.bonsai_top.specs.Outcomes.{IsAnswerTo, IsOutcome, IsOutcomeAt, IsOutcomeOf}
use Rattle.endings.specs.declared.ending.Ending.{Ending}
use Rattle.endings.specs.declared.ending.Ending.TheVariants.{Memory, WriteFault}
use Rattle.endings.specs.declared.finding.Finding.{Finding}
use Rattle.endings.specs.declared.finding.Finding.TheVariants.{Output, Refusal, Misuse, ReadFailed, SecondFailed, NoMemory}
use Rattle.endings.specs.Findings.{Finds, told_by}
use Rattle.endings.specs.Meets.{IsWhole, Tells}
use Rattle.endings.specs.Telling.{Telling, misuse, out_of_memory, output, refused}
use Rattle.network_files.specs.NetworkFiles.{AllowsNothing, HoldsNetwork, IsOfFile}
use Rattle.network_files.proofs.Networks.{of_network, of_none}
use Rattle.all_classes.specs.declared.request.Asked.{Asked}
use Rattle.all_classes.specs.declared.request.Request.{Request}
use Rattle.all_classes.specs.Frames.{AreAllowed}
use Rattle.all_classes.specs.Meets.{usage_line, HasCause, HoldsOne, IsAllowed, IsAllowedAt, IsBegunAt, IsClassOutcome, IsCutAt, RunMeets}
use Rattle.all_classes.specs.Progress.{TellsFrames}
use Rattle.all_classes.specs.Requests.{class_words, file_of, first_of, last_of, request_of, span, span_of}
use Rattle.all_classes.specs.Tellings.{HasFrames, IsAnswer, IsBegun, IsCutShort, IsFramed}
use Rattle.all_classes.proofs.Words.{last_is_short, names_class}

-- ---- the answer to a command on a class is an outcome of its words

answer_of : (command : ClassCommand) (number : ℕ) (n : Network) (file other : Option (List ℕ)) (o : Outcome) → IfSome file (HoldsNetwork n)
    → IsAnswer command n number o → IsOutcomeOf (OnClass command number) file other o
answer_of command number n None other o holds is = tt
answer_of command number n (Some text) other o holds is = inr (
  holds.short,
  subst (λ (r : Result Network ReadRefusal). IsOfReading (λ m p. IsAnswerTo (OnClass command number) m other p) r o) (sym holds.reads) is,
)

pub is_outcome : (words : List (List ℕ)) (contents : List ℕ → Option (List ℕ)) (request : Request) → request_of words ≡ Some request → (n : Network)
    → IfSome (contents (file_of words)) (HoldsNetwork n) → (number : ℕ) → number ≤ 999999999 → (o : Outcome) → IsAnswer request.command n number o
    → IsClassOutcome words contents number o
unfolding IsOutcome
is_outcome words contents request asks n holds number small o is =
    subst (λ (c : Option Command). IsOutcomeAt c (contents (file_of words)) (contents []) o) (sym (names_class words request asks number small))
    (answer_of request.command number n (contents (file_of words)) (contents []) o holds is)

-- ---- the frames

-- what is allowed of each number up to a limit
pub allowed_up_to : (A B : ℕ → Outcome → Type 0) (limit : ℕ) → ((k : ℕ) → k ≤ limit → (o : Outcome) → A k o → B k o) → (from : ℕ) (os : List Outcome)
    → length os ≤ span from limit → AreAllowed A from os → AreAllowed B from os
allowed_up_to A B limit more from [] few are = tt
allowed_up_to A B limit more from (o ∷ os) few are =
    (more from (omega (arith, few)) o are.0, allowed_up_to A B limit more (from + 1) os (omega (arith, few)) are.1)

module _ (A B : ℕ → Outcome → Type 0) (asked : Asked) (classes : ℕ)
    (more : (k : ℕ) → k ≤ last_of asked classes → (o : Outcome) → A k o → B k o) where
  allowed : (os : List Outcome) → length os ≤ span_of asked classes → AreAllowed A (first_of asked) os → AreAllowed B (first_of asked) os
  allowed os few are = allowed_up_to A B (last_of asked classes) more (first_of asked) os few are

  pub framed_as : (o : Telling) → IsFramed A asked classes o → IsFramed B asked classes o
  framed_as o is = record { outcomes = is.outcomes; are = allowed is.outcomes (omega (arith, is.many)) is.are; many = is.many; told = is.told }

  pub cut_as : (o : Telling) → IsCutShort A asked classes o → IsCutShort B asked classes o
  cut_as o is = record { outcomes = is.outcomes; are = allowed is.outcomes (omega (arith, is.few)) is.are; few = is.few; told = is.told }

  pub begun_as : (o : Telling) → IsBegun A asked classes o → IsBegun B asked classes o
  begun_as o is = record { outcomes = is.outcomes; are = allowed is.outcomes is.few is.are; few = is.few; told = is.told }

pub some_asked : (asks : Option Request) (request : Request) → asks ≡ Some request → IsSome asks
some_asked None request is = cc
some_asked (Some r) request is = refl

holds_one : (P : Network → Type 0) (n : Network) (file : Option (List ℕ)) → IfSome file (HoldsNetwork n) → P n → IfSome file (HoldsOne P)
holds_one P n None holds is = tt
holds_one P n (Some text) holds is = record { network = n; holds = holds; is = is }

-- ---- the whole call

module _ (words : List (List ℕ)) (contents : List ℕ → Option (List ℕ)) (rose : Type 0) (result : Ending)
    (out_old out_new : Option (List ℕ)) (out_before out_now : ℕ) (err_old err_new : Option (List ℕ)) (err_before err_now : ℕ) where
  abbrev Told : Telling → Type 0
  Told o = Tells o result out_old out_new out_before out_now err_old err_new err_before err_now

  abbrev Whole : Telling → Type 0
  Whole o = IsWhole (IsAllowed words contents) o result out_old out_new err_old err_new

  ending_told : (o : Telling) → Told o → result ≢ WriteFault → result ≡ o.ending
  ending_told o told nw = ⊎_elim (λ e. e) (λ w. absurd (nw w)) told.ending

  cut_ends : (asks : Option Request) (o : Telling) → IsCutAt asks words contents o → o.ending ≡ Memory
  cut_ends None o cut = absurd cut
  cut_ends (Some request) o cut = cut.0

  allowed_or_memory : (o : Telling) → HasCause words contents rose result o → Told o → result ≢ WriteFault → ¬ rose → Whole o ⊎ (result ≡ Memory)
  allowed_or_memory o (inl is) told nw nf = inl (record { allowed = is; ending = ending_told o told nw; out = told.out_all nw; err = told.err_all nw })
  allowed_or_memory o (inr (inl failed)) told nw nf = absurd (nf failed.0)
  allowed_or_memory o (inr (inr (inl cut))) told nw nf = inr (ending_told o told nw ∙ cut_ends (request_of words) o cut)
  allowed_or_memory o (inr (inr (inr begun))) told nw nf = absurd (nw begun.0)

  meets : (o : Telling) → HasCause words contents rose result o → Told o
      → RunMeets words contents rose result out_old out_new out_before out_now err_old err_new err_before err_now
  meets o caused told = record {
    telling = o;
    cause = caused;
    told = told;
    complete = λ nf no ne. allowed_or_memory o caused told (λ w. ⊎_elim (λ r. ne r) (λ p. no p.1) (told.cause w)) nf;
  }

  -- words of no form
  pub meets_misuse : request_of words ≡ None → Told (misuse usage_line)
      → RunMeets words contents rose result out_old out_new out_before out_now err_old err_new err_before err_now
  unfolding IsAllowed
  meets_misuse none told =
      meets (misuse usage_line) (inl (subst (λ (r : Option Request). IsAllowedAt r words contents (misuse usage_line)) (sym none) refl)) told

  module _ (request : Request) (asks : request_of words ≡ Some request) where
    allowed_of : (o : Telling) → IsAllowedAt (Some request) words contents o → IsAllowed words contents o
    unfolding IsAllowed
    allowed_of o is = subst (λ (r : Option Request). IsAllowedAt r words contents o) (sym asks) is

    cut_of : (o : Telling) → IsCutAt (Some request) words contents o → IsCutAt (request_of words) words contents o
    cut_of o is = subst (λ (r : Option Request). IsCutAt r words contents o) (sym asks) is

    begun_of : (o : Telling) → IsBegunAt (Some request) words contents o → IsBegunAt (request_of words) words contents o
    begun_of o is = subst (λ (r : Option Request). IsBegunAt r words contents o) (sym asks) is

    -- the file gives no network
    caused_by : (found : Type 0) → (found → rose) → (finding : Finding) → Finds finding (IsOfFile AllowsNothing (contents (file_of words))) found ⊥
        → HasCause words contents rose result (told_by finding usage_line (file_of words) [])
    caused_by found weaker (Output bytes all) finds =
        inl (allowed_of (output all bytes.items)
        (of_none (λ n. IsFramed (IsClassOutcome words contents) request.asked (length (classes_of n))) (contents (file_of words))
        (output all bytes.items) finds))
    caused_by found weaker (Refusal reason) finds =
        inl (allowed_of (refused reason.items)
        (of_none (λ n. IsFramed (IsClassOutcome words contents) request.asked (length (classes_of n))) (contents (file_of words)) (refused reason.items) finds))
    caused_by found weaker Misuse finds = absurd finds
    caused_by found weaker ReadFailed finds = inr (inl (weaker finds, refl))
    caused_by found weaker SecondFailed finds = absurd finds
    caused_by found weaker NoMemory finds = inr (inr (inl (cut_of out_of_memory (refl, inl refl))))

    pub meets_finding : (found : Type 0) → (found → rose) → (finding : Finding)
        → Finds finding (IsOfFile AllowsNothing (contents (file_of words))) found ⊥ → Told (told_by finding usage_line (file_of words) [])
        → RunMeets words contents rose result out_old out_new out_before out_now err_old err_new err_before err_now
    meets_finding found weaker finding finds told =
        meets (told_by finding usage_line (file_of words) []) (caused_by found weaker finding finds) told

    -- it gives one
    module _ (n : Network) (holds : IfSome (contents (file_of words)) (HoldsNetwork n)) (few : length (classes_of n) ≤ 999999999) where
      more : (k : ℕ) → k ≤ last_of request.asked (length (classes_of n)) → (o : Outcome) → IsAnswer request.command n k o → IsClassOutcome words contents k o
      more k within o is =
          let last = last_is_short words request asks (length (classes_of n)) few in
          is_outcome words contents request asks n holds k (omega (arith, within, last)) o is

      caused : (o : Telling) → HasFrames (IsAnswer request.command n) request.asked (length (classes_of n)) result o → HasCause words contents rose result o
      caused o (inl is) =
          inl (allowed_of o (of_network (λ m. IsFramed (IsClassOutcome words contents) request.asked (length (classes_of m))) n
          (contents (file_of words)) o holds
          (framed_as (IsAnswer request.command n) (IsClassOutcome words contents) request.asked (length (classes_of n)) more o is)))
      caused o (inr (inl (inl is))) = inr (inr (inl (cut_of o (ap (λ (p : Telling). p.ending) is, inl is))))
      caused o (inr (inl (inr is))) =
          inr (inr (inl (cut_of o (
            ap (λ (p : Telling). p.ending) is.told,
            inr
                (holds_one (λ m. IsCutShort (IsClassOutcome words contents) request.asked (length (classes_of m)) o) n (contents (file_of words)) holds
                (cut_as (IsAnswer request.command n) (IsClassOutcome words contents) request.asked (length (classes_of n)) more o is)),
          ))))
      caused o (inr (inr is)) =
          inr (inr (inr (
            is.0,
            begun_of o
                (holds_one (λ m. IsBegun (IsClassOutcome words contents) request.asked (length (classes_of m)) o) n (contents (file_of words)) holds
                (begun_as (IsAnswer request.command n) (IsClassOutcome words contents) request.asked (length (classes_of n)) more o is.1)),
          )))

      pub meets_frames : TellsFrames (IsAnswer request.command n) request.asked (length (classes_of n)) result out_old out_new out_before out_now
          err_old err_new err_before err_now
          → RunMeets words contents rose result out_old out_new out_before out_now err_old err_new err_before err_now
      meets_frames tells = meets tells.telling (caused tells.telling tells.cause) tells.told
