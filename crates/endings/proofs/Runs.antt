-- Public: from a finding that has its cause and was reported to what the whole call does.
use Rattle.std.proofs.Common.{◌≡◌, ◌≢◌, ◌⊎◌, inl, inr, ⊎_elim, ℕ, List, refl, ◌∙◌, ap, Option}
use Rattle.endings.specs.declared.ending.Ending.{Ending}
use Rattle.endings.specs.declared.ending.Ending.TheVariants.{WriteFault, Memory}
use Rattle.endings.specs.declared.finding.Finding.{Finding}
use Rattle.endings.specs.declared.finding.Finding.TheVariants.{Output, Refusal, Misuse, ReadFailed, SecondFailed, NoMemory}
use Rattle.endings.specs.Findings.{Finds, told_by}
use Rattle.endings.specs.Meets.{Tells, HasCause, IsWhole, RunMeets}
use Rattle.endings.specs.Telling.{Telling, out_of_memory}

module _ (IsAllowed : Telling → Type 0) (first second : List ℕ) (first_rose second_rose : Type 0) (result : Ending)
    (out_old out_new : Option (List ℕ)) (out_before out_now : ℕ) (err_old err_new : Option (List ℕ)) (err_before err_now : ℕ) where
  abbrev Told : Telling → Type 0
  Told o = Tells o result out_old out_new out_before out_now err_old err_new err_before err_now

  abbrev Caused : Telling → Type 0
  Caused o = HasCause IsAllowed first second first_rose second_rose o

  abbrev Whole : Telling → Type 0
  Whole o = IsWhole IsAllowed o result out_old out_new err_old err_new

  -- without a fault of an output, it was reported whole
  ending_told : (o : Telling) → Told o → result ≢ WriteFault → result ≡ o.ending
  ending_told o told nw = ⊎_elim (λ e. e) (λ w. absurd (nw w)) told.ending

  whole : (o : Telling) → Told o → result ≢ WriteFault → IsAllowed o → Whole o
  whole o told nw allowed = record { allowed = allowed; ending = ending_told o told nw; out = told.out_all nw; err = told.err_all nw }

  -- without a fault of a file too, it was allowed
  allowed_or_memory : (o : Telling) → Caused o → Told o → result ≢ WriteFault → ¬ first_rose → ¬ second_rose → Whole o ⊎ (result ≡ Memory)
  allowed_or_memory o (inl allowed) told nw nf ns = inl (whole o told nw allowed)
  allowed_or_memory o (inr (inl failed)) told nw nf ns = absurd (nf failed.0)
  allowed_or_memory o (inr (inr (inl failed))) told nw nf ns = absurd (ns failed.0)
  allowed_or_memory o (inr (inr (inr memory))) told nw nf ns = inr (ending_told o told nw ∙ ap (λ (p : Telling). p.ending) memory)

  pub meets : (o : Telling) → Caused o → Told o → RunMeets IsAllowed first second first_rose second_rose result out_old out_new out_before
      out_now err_old err_new err_before err_now
  meets o caused told = record {
    telling = o;
    cause = caused;
    told = told;
    complete = λ nf ns no ne. allowed_or_memory o caused told (λ w. ⊎_elim (λ r. ne r) (λ p. no p.1) (told.cause w)) nf ns;
  }

  -- a finding stands for what has its cause
  caused_by : (finding : Finding) (usage : List ℕ) → Finds finding IsAllowed first_rose second_rose
      → Caused (told_by finding usage first second)
  caused_by (Output bytes all) usage finds = inl finds
  caused_by (Refusal reason) usage finds = inl finds
  caused_by Misuse usage finds = absurd finds
  caused_by ReadFailed usage finds = inr (inl (finds, refl))
  caused_by SecondFailed usage finds = inr (inr (inl (finds, refl)))
  caused_by NoMemory usage finds = inr (inr (inr refl))

  pub run_meets : (finding : Finding) (usage : List ℕ) → Finds finding IsAllowed first_rose second_rose
      → Told (told_by finding usage first second)
      → RunMeets IsAllowed first second first_rose second_rose result out_old out_new out_before out_now err_old err_new err_before err_now
  run_meets finding usage finds told = meets (told_by finding usage first second) (caused_by finding usage finds) told
