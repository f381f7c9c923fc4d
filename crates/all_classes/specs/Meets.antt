-- What a call answers and writes.
use Rattle.std.specs.Prelude.{◌≡◌, ◌⊎◌, ℕ, List, length, codes, Option, Some, None, IfSome}
use Rattle.cfg_ast.specs.declared.network.Network.{Network}
use Rattle.cfg_ast.specs.meaning.Classes.{classes_of}
use Rattle.io_kit.specs.Ends.{Rose}
use Rattle.answer_kit.specs.Outcome.{Outcome}
use Rattle.bonsai_top.specs.Outcomes.{IsOutcome}
use Rattle.endings.specs.declared.ending.Ending.{Ending}
use Rattle.endings.specs.declared.ending.Ending.TheVariants.{Memory, WriteFault}
use Rattle.endings.specs.Meets.{IsWhole, Tells}
use Rattle.endings.specs.Telling.{Telling, misuse, out_of_memory, read_fault}
use Rattle.network_files.specs.NetworkFiles.{HoldsNetwork, IsOfFile}
use Rattle.all_classes.specs.declared.request.Asked.{Asked}
use Rattle.all_classes.specs.declared.request.Request.{Request}
use Rattle.all_classes.specs.Requests.{class_words, file_of, request_of}
use Rattle.all_classes.specs.Tellings.{IsBegun, IsCutShort, IsFramed}

abbrev pub usage_line : List ℕ
usage_line = codes "usage: bonsai-all F groups|compress|report|json|canon|certify [FROM TO]\n"

-- what `bonsai` may answer to the words that do the same for the class of a number
abbrev pub IsClassOutcome : List (List ℕ) → (List ℕ → Option (List ℕ)) → ℕ → Outcome → Type 0
IsClassOutcome words contents number o = IsOutcome (class_words words number) contents o

-- What words may come to: a line that says which words there are; or the frames of the classes that are asked, or
-- the refusal of the file, reported once.
abbrev pub IsAllowedAt : Option Request → List (List ℕ) → (List ℕ → Option (List ℕ)) → Telling → Type 0
IsAllowedAt None words contents o = o ≡ misuse usage_line
IsAllowedAt (Some request) words contents o =
    IsOfFile (λ network. IsFramed (IsClassOutcome words contents) request.asked (length (classes_of network))) (contents (file_of words)) o

unfoldable pub IsAllowed : List (List ℕ) → (List ℕ → Option (List ℕ)) → Telling → Type 0
IsAllowed words contents o = IsAllowedAt (request_of words) words contents o

-- the text gives a network of which this holds
pub record HoldsOne (IsSo : Network → Type 0) (text : List ℕ) : Type 0 where
  pub network : Network
  pub holds : HoldsNetwork network text
  pub is : IsSo network

-- Memory ran out: before anything was written, or behind the frames of the first classes. There are frames only if
-- the file is not refused.
abbrev pub IsCutAt : Option Request → List (List ℕ) → (List ℕ → Option (List ℕ)) → Telling → Type 0
IsCutAt None words contents o = ⊥
IsCutAt (Some request) words contents o = (o.ending ≡ Memory) × ((o ≡ out_of_memory)
    ⊎ IfSome (contents (file_of words)) (HoldsOne (λ network. IsCutShort (IsClassOutcome words contents) request.asked (length (classes_of network)) o)))

-- `out` failed in the frames of the first classes.
abbrev pub IsBegunAt : Option Request → List (List ℕ) → (List ℕ → Option (List ℕ)) → Telling → Type 0
IsBegunAt None words contents o = ⊥
IsBegunAt (Some request) words contents o =
    IfSome (contents (file_of words)) (HoldsOne (λ network. IsBegun (IsClassOutcome words contents) request.asked (length (classes_of network)) o))

-- What is reported has its cause: it is allowed, or names the file that failed, or memory ran out, or `out` failed.
abbrev pub HasCause : List (List ℕ) → (List ℕ → Option (List ℕ)) → Type 0 → Ending → Telling → Type 0
HasCause words contents rose result o =
    IsAllowed words contents o ⊎ (rose × (o ≡ read_fault (file_of words))) ⊎ IsCutAt (request_of words) words contents o
    ⊎ ((result ≡ WriteFault) × IsBegunAt (request_of words) words contents o)

-- What a call answers and writes: something that has its cause is reported.
pub record RunMeets (words : List (List ℕ)) (contents : List ℕ → Option (List ℕ)) (rose : Type 0) (result : Ending)
    (out_old out_new : Option (List ℕ)) (out_before out_now : ℕ) (err_old err_new : Option (List ℕ)) (err_before err_now : ℕ) : Type 0 where
  pub telling : Telling
  pub cause : HasCause words contents rose result telling
  pub told : Tells telling result out_old out_new out_before out_now err_old err_new err_before err_now
  -- without a fault it is an allowed one, reported whole, unless memory ran out
  pub complete : ¬ rose → ¬ Rose out_before out_now → ¬ Rose err_before err_now
      → IsWhole (IsAllowed words contents) telling result out_old out_new err_old err_new ⊎ (result ≡ Memory)
