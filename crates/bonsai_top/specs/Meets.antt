-- How a status and the bytes that the sinks took relate to the outcomes that are allowed.
use Rattle.std.specs.Prelude.{◌≡◌, ◌≢◌, ◌⊎◌, ℕ, List, [], Option}
use Rattle.io_kit.specs.Ends.{Rose, Took, TookPart}
use Rattle.io_kit.specs.FaultLines.{write_fault_line}
use Rattle.answer_kit.specs.declared.status.Status.{Status}
use Rattle.answer_kit.specs.declared.status.Status.TheVariants.{Done, WriteFault, Memory}
use Rattle.answer_kit.specs.Outcome.{Outcome, read_fault, out_of_memory}

-- An outcome is reported: its status, its bytes and its line, or `WriteFault` with a part of these where a sink failed.
pub record Tells (o : Outcome) (result : Status) (out_old out_new : Option (List ℕ)) (out_before out_now : ℕ) (err_old err_new : Option (List ℕ)) (err_before err_now : ℕ) : Type 0 where
  pub status : (result ≡ o.status) ⊎ (result ≡ WriteFault)
  pub out_part : TookPart out_old out_new o.out
  pub out_all : result ≢ WriteFault → Took out_old out_new o.out
  pub out_none : o.status ≢ Done → Took out_old out_new []
  pub err_all : result ≢ WriteFault → Took err_old err_new o.err
  pub err_part : result ≡ WriteFault → TookPart err_old err_new o.err ⊎ TookPart err_old err_new write_fault_line
  -- where nothing is to be written to `out`, it is `err` that failed
  pub cause : result ≡ WriteFault → Rose err_before err_now ⊎ ((o.status ≡ Done) × Rose out_before out_now)

-- An outcome has its cause: it is allowed, or names a file that failed, or says that memory ran out.
abbrev pub HasCause : (Outcome → Type 0) → List ℕ → List ℕ → Type 0 → Type 0 → Outcome → Type 0
HasCause IsAllowed first second first_rose second_rose o =
    IsAllowed o ⊎ (first_rose × (o ≡ read_fault first)) ⊎ (second_rose × (o ≡ read_fault second)) ⊎ (o ≡ out_of_memory)

-- an allowed outcome, and all of it was reported
pub record IsWhole (IsAllowed : Outcome → Type 0) (o : Outcome) (result : Status) (out_old out_new err_old err_new : Option (List ℕ)) : Type 0 where
  pub allowed : IsAllowed o
  pub status : result ≡ o.status
  pub out : Took out_old out_new o.out
  pub err : Took err_old err_new o.err

-- What a call answers and writes: some outcome that has its cause is reported. These are the names of the files.
pub record RunMeets (IsAllowed : Outcome → Type 0) (first second : List ℕ) (first_rose second_rose : Type 0) (result : Status)
    (out_old out_new : Option (List ℕ)) (out_before out_now : ℕ) (err_old err_new : Option (List ℕ)) (err_before err_now : ℕ) : Type 0 where
  pub outcome : Outcome
  pub cause : HasCause IsAllowed first second first_rose second_rose outcome
  pub told : Tells outcome result out_old out_new out_before out_now err_old err_new err_before err_now
  -- without a fault it is an allowed one, reported whole, unless memory ran out
  pub complete : ¬ first_rose → ¬ second_rose → ¬ Rose out_before out_now → ¬ Rose err_before err_now
      → IsWhole IsAllowed outcome result out_old out_new err_old err_new ⊎ (result ≡ Memory)
