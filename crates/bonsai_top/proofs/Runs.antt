-- From a reply that has its cause and was reported to what the whole call does.
use Rattle.std.proofs.Common.{◌≡◌, ◌≢◌, ◌⊎◌, inl, inr, ⊎_elim, ℕ, List, refl, ◌∙◌, ap, Option}
use Rattle.answer_kit.specs.declared.status.Status.{Status}
use Rattle.answer_kit.specs.declared.status.Status.TheVariants.{WriteFault, Memory}
use Rattle.answer_kit.specs.declared.reply.Reply.{Reply}
use Rattle.answer_kit.specs.declared.reply.Reply.TheVariants.{Output, Refusal, NotStable, Misuse, ReadFailed, SecondFailed, NoMemory}
use Rattle.answer_kit.specs.Outcome.{Outcome}
use Rattle.bonsai_top.specs.Meets.{Tells, HasCause, IsWhole, RunMeets}
use Rattle.answer_kit.specs.Replies.{Answers, told_by}

module _ (IsAllowed : Outcome → Type 0) (first second : List ℕ) (first_rose second_rose : Type 0) (result : Status) (out_old out_new : Option (List ℕ))
    (out_before out_now : ℕ) (err_old err_new : Option (List ℕ)) (err_before err_now : ℕ) where
  abbrev Told : Outcome → Type 0
  Told o = Tells o result out_old out_new out_before out_now err_old err_new err_before err_now

  abbrev Caused : Outcome → Type 0
  Caused o = HasCause IsAllowed first second first_rose second_rose o

  abbrev Whole : Outcome → Type 0
  Whole o = IsWhole IsAllowed o result out_old out_new err_old err_new

  -- without a fault of an output, the outcome was reported whole
  status_told : (o : Outcome) → Told o → result ≢ WriteFault → result ≡ o.status
  status_told o told nw = ⊎_elim (λ e. e) (λ w. absurd (nw w)) told.status

  whole : (o : Outcome) → Told o → result ≢ WriteFault → IsAllowed o → Whole o
  whole o told nw allowed = record { allowed = allowed; status = status_told o told nw; out = told.out_all nw; err = told.err_all nw }

  -- without a fault of a file too, it was allowed
  allowed_or_memory : (o : Outcome) → Caused o → Told o → result ≢ WriteFault → ¬ first_rose → ¬ second_rose → Whole o ⊎ (result ≡ Memory)
  allowed_or_memory o (inl allowed) told nw nf ns = inl (whole o told nw allowed)
  allowed_or_memory o (inr (inl failed)) told nw nf ns = absurd (nf failed.0)
  allowed_or_memory o (inr (inr (inl failed))) told nw nf ns = absurd (ns failed.0)
  allowed_or_memory o (inr (inr (inr memory))) told nw nf ns = inr (status_told o told nw ∙ ap (λ (p : Outcome). p.status) memory)

  pub meets : (o : Outcome) → Caused o → Told o → RunMeets IsAllowed first second first_rose second_rose result out_old out_new out_before out_now err_old
      err_new err_before err_now
  meets o caused told = record {
    outcome = o;
    cause = caused;
    told = told;
    complete = λ nf ns no ne. allowed_or_memory o caused told (λ w. ⊎_elim (λ r. ne r) (λ p. no p.1) (told.cause w)) nf ns;
  }

  -- a reply stands for an outcome that has its cause
  caused_by : (reply : Reply) → Answers reply IsAllowed first_rose second_rose → Caused (told_by reply first second)
  caused_by (Output bytes) answers = inl answers
  caused_by (Refusal reason) answers = inl answers
  caused_by (NotStable reason) answers = inl answers
  caused_by Misuse answers = absurd answers
  caused_by ReadFailed answers = inr (inl (answers, refl))
  caused_by SecondFailed answers = inr (inr (inl (answers, refl)))
  caused_by NoMemory answers = inr (inr (inr refl))

  pub run_meets : (reply : Reply) → Answers reply IsAllowed first_rose second_rose → Told (told_by reply first second)
      → RunMeets IsAllowed first second first_rose second_rose result out_old out_new out_before out_now err_old err_new err_before err_now
  run_meets reply answers told = meets (told_by reply first second) (caused_by reply answers) told
