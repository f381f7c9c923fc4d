-- How an ending and the bytes that the sinks took relate to what is allowed to be reported.
use Rattle.std.specs.Prelude.{◌≡◌, ◌≢◌, ◌⊎◌, ℕ, false, true, List, Option}
use Rattle.io_kit.specs.Ends.{Rose, Took, TookPart}
use Rattle.io_kit.specs.FaultLines.{write_fault_line}
use Rattle.endings.specs.declared.ending.Ending.{Ending}
use Rattle.endings.specs.declared.ending.Ending.TheVariants.{WriteFault, Memory}
use Rattle.endings.specs.Telling.{Telling, is_output, read_fault, out_of_memory}

-- It is reported: its ending, its bytes and its line, or `WriteFault` with a part of these where a sink failed.
pub record Tells (o : Telling) (result : Ending) (out_old out_new : Option (List ℕ)) (out_before out_now : ℕ) (err_old err_new : Option (List ℕ)) (err_before err_now : ℕ) : Type 0 where
  pub ending : (result ≡ o.ending) ⊎ (result ≡ WriteFault)
  pub out_part : TookPart out_old out_new o.out
  pub out_all : result ≢ WriteFault → Took out_old out_new o.out
  -- a line is reported behind the bytes
  pub out_before_line : is_output o.ending ≡ false → Took out_old out_new o.out
  pub err_all : result ≢ WriteFault → Took err_old err_new o.err
  pub err_part : result ≡ WriteFault → TookPart err_old err_new o.err ⊎ TookPart err_old err_new write_fault_line
  -- where a line is to be reported, it is `err` that failed
  pub cause : result ≡ WriteFault → Rose err_before err_now ⊎ ((is_output o.ending ≡ true) × Rose out_before out_now)

-- It has its cause: it is allowed, or names a file that failed, or memory ran out.
abbrev pub HasCause : (Telling → Type 0) → List ℕ → List ℕ → Type 0 → Type 0 → Telling → Type 0
HasCause IsAllowed first second first_rose second_rose o =
    IsAllowed o ⊎ (first_rose × (o ≡ read_fault first)) ⊎ (second_rose × (o ≡ read_fault second)) ⊎ (o ≡ out_of_memory)

-- it is allowed, and all of it was reported
pub record IsWhole (IsAllowed : Telling → Type 0) (o : Telling) (result : Ending) (out_old out_new err_old err_new : Option (List ℕ)) : Type 0 where
  pub allowed : IsAllowed o
  pub ending : result ≡ o.ending
  pub out : Took out_old out_new o.out
  pub err : Took err_old err_new o.err

-- What a call answers and writes: something that has its cause is reported. These are the names of the files.
pub record RunMeets (IsAllowed : Telling → Type 0) (first second : List ℕ) (first_rose second_rose : Type 0) (result : Ending)
    (out_old out_new : Option (List ℕ)) (out_before out_now : ℕ) (err_old err_new : Option (List ℕ)) (err_before err_now : ℕ) : Type 0 where
  pub telling : Telling
  pub cause : HasCause IsAllowed first second first_rose second_rose telling
  pub told : Tells telling result out_old out_new out_before out_now err_old err_new err_before err_now
  -- without a fault it is an allowed one, reported whole, unless memory ran out
  pub complete : ¬ first_rose → ¬ second_rose → ¬ Rose out_before out_now → ¬ Rose err_before err_now
      → IsWhole IsAllowed telling result out_old out_new err_old err_new ⊎ (result ≡ Memory)
