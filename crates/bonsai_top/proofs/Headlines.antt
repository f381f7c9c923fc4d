-- From what a run does to the headline: where `compress` or `canon` is done, what was written compresses the network;
-- where `fold` or `lift` is done, what was written corresponds to the solution.
use Rattle.std.proofs.Common.{◌≡◌, ◌≢◌, inl, inr, ⊎_elim, ℕ, ◌-◌, Bool, true, false, List, [], ◌∷◌, ◌++◌, refl, sym, ap, ◌∙◌, subst, Option, Some, None, Result, Ok, Err, slice_get, nat_eq, if◌then◌else◌, codes}
use Rattle.std.specs.Prelude.{Contains}
use Rattle.base_kit.proofs.Elements.{contains_in, get_in}
use Rattle.cfg_ast.specs.declared.classes.DestClass.{DestClass}
use Rattle.cfg_ast.specs.declared.network.Network.{Network}
use Rattle.cfg_ast.specs.declared.refusal.ReadRefusal.{ReadRefusal}
use Rattle.cfg_ast.specs.declared.refusal.ReadRefusal.TheVariants as read_refusal
use Rattle.cfg_ast.specs.meaning.Classes.{classes_of}
use Rattle.cfg_ast.specs.text.Reading.{reading_of}
use Rattle.cfg_print.specs.Prints.{is_too_long}
use Rattle.config_emit.specs.Pool.{pool_line}
use Rattle.compress_laws.specs.Compressed.{Compresses}
use Rattle.compress_laws.specs.Laws.{compressed_text, FitsClass, FittingPlanCompresses, PlanCompresses}
use Rattle.compress_laws.proofs.Plans.{plan_as}
use Rattle.config_emit.specs.Plan.{Plan}
use Rattle.io_kit.specs.Ends.{with_end}
use Rattle.reading_laws.specs.WellRead.{IsRead}
use Rattle.reading_laws.proofs.WellRead.{reads_well}
use Rattle.bonsai_top.specs.declared.command.ClassCommand.{ClassCommand}
use Rattle.bonsai_top.specs.declared.command.ClassCommand.TheVariants as on_class
use Rattle.bonsai_top.specs.declared.command.SecondCommand.TheVariants as on_second
use Rattle.bonsai_top.specs.declared.command.Command.{Command}
use Rattle.bonsai_top.specs.declared.command.Command.TheVariants as command
use Rattle.answer_kit.specs.declared.status.Status.{Status}
use Rattle.answer_kit.specs.declared.status.Status.TheVariants.{Done, WriteFault}
use Rattle.answer_kit.specs.ClassNumbers.{class_at, no_class, IsOfClass}
use Rattle.answer_kit.specs.Kinds.{line_reason}
use Rattle.bonsai_top.specs.Commands.{command_of, reads_first}
use Rattle.answer_groups.specs.CanonLaws.{CanonicalFits}
use Rattle.answer_groups.specs.CanonText.{no_canon, IsCanonicalFor, IsCanonicalPlanOf, IsCanonOf}
use Rattle.answer_groups.specs.CompressText.{pool_overlap, IsPlanOf, IsTextOr, IsTextOfPlan, IsUnlessPool, IsCompressOf}
use Rattle.bonsai_top.specs.Headline.{DoneIsHeadline, IsHeadline, IsCarriedDown, IsCarriedUp}
use Rattle.bonsai_top.specs.Meets.{RunMeets}
use Rattle.answer_kit.specs.Outcome.{Outcome, refused}
use Rattle.bonsai_top.specs.Outcomes.{IsAnswerTo, IsOutcomeOfReading, IsOutcomeOfText, IsOutcomeOfFiles, IsOutcomeBy, IsOutcomeAt, IsOutcome}
use Rattle.bonsai_top.proofs.DoneCarries.{fold_is_done, lift_is_done}
use Rattle.answer_solutions.specs.Carries.{IsFoldAnswer, IsLiftAnswer}
use Rattle.answer_solutions.specs.ReadBack.{FoldIsReadBack, LiftIsReadBack}
use Rattle.bonsai_top.specs.Words.{file_of, second_of}

-- ---- the bytes that were written

record HasBytes (n : Network) (number : ℕ) (o : Outcome) : Type 0 where
  class : DestClass
  class_is : class_at (classes_of n) number ≡ Some class
  compresses : Compresses n class o.out

found_in : (classes : List DestClass) (k : ℕ) (class : DestClass) (b : Bool) → (if b then None else slice_get classes k) ≡ Some class → Contains classes class
found_in classes k class true found = cc
found_in classes k class false found = contains_in classes class (get_in classes k class found)

is_done : Outcome → Type 0
is_done o = o.status ≡ Done

module _ (text : List ℕ) (n : Network) (read : IsRead text n) (number : ℕ) (o : Outcome) (status : o.status ≡ Done) where
  no_refusal : (reason : List ℕ) → o ≡ refused reason → ⊥
  no_refusal reason e = (let s : (refused reason).status ≡ Done = ap (λ (x : Outcome). x.status) (sym e) ∙ status in cc)

  -- the text of a plan, where texts of such plans compress the network
  module _ (IsAllowed : Plan → Type 0) (class : DestClass)
      (compresses : (e : Plan) → IsAllowed e → pool_line n class ≡ None → is_too_long (compressed_text e) ≡ false → Compresses n class (compressed_text e))
    where
      emitted : pool_line n class ≡ None → IsTextOfPlan IsAllowed o → Compresses n class o.out
      emitted apart is = step (is_too_long (compressed_text is.plan)) refl is.written
        where
          step : (b : Bool) → is_too_long (compressed_text is.plan) ≡ b → IsTextOr b (compressed_text is.plan) o → Compresses n class o.out
          step true long written = absurd (no_refusal (codes "OutputTooLong") written)
          step false short written = subst (λ (bytes : List ℕ). Compresses n class bytes) (sym (ap (λ (x : Outcome). x.out) written))
              (compresses is.plan is.is apart short)

      unless_pool : (pool : Option ℕ) → pool_line n class ≡ pool → IsUnlessPool pool (IsTextOfPlan IsAllowed) o → Compresses n class o.out
      unless_pool (Some line) pool is = absurd (no_refusal (pool_overlap line) is)
      unless_pool None apart is = emitted apart is

  compress_compresses : PlanCompresses → (class : DestClass) → Contains (classes_of n) class → IsCompressOf n class o → Compresses n class o.out
  compress_compresses law class has is =
      unless_pool (IsPlanOf n class) class (λ e allowed. law n class e ∣ (text, read.given) ∣₁ read.faultless has allowed) (pool_line n class) refl is

  canon_compresses : FittingPlanCompresses → CanonicalFits → (class : DestClass) → Contains (classes_of n) class → IsCanonOf n class o →
      Compresses n class o.out
  canon_compresses law fits class has (inl without) = absurd (no_refusal (no_canon without.problem without.first.edge) without.told)
  canon_compresses law fits class has (inr canonical) =
      unless_pool (IsCanonicalPlanOf n class) class
      (λ e allowed. law n class e ∣ (text, read.given) ∣₁ read.faultless has (plan_as IsCanonicalFor FitsClass n class (λ problem is.
      fits n class problem (record { given = ∣ (text, read.given) ∣₁; faultless = read.faultless; class_in = has; is = is })) e allowed))
      (pool_line n class) refl canonical.emission

  has_bytes : (IsOf : DestClass → Outcome → Type 0) → ((class : DestClass) → Contains (classes_of n) class → IsOf class o → Compresses n class o.out)
      → (found : Option DestClass) → class_at (classes_of n) number ≡ found → IsOfClass found number IsOf o → HasBytes n number o
  has_bytes IsOf compresses None found is = absurd (no_refusal (no_class number) is)
  has_bytes IsOf compresses (Some class) found is =
      record { class = class; class_is = found; compresses = compresses class (found_in (classes_of n) (number - 1) class (nat_eq number 0) found) is }

-- ---- the answer to a command

-- The text was read, and this is an answer to the command over its network.
record HasAnswer (command : Command) (text : List ℕ) (second : Option (List ℕ)) (o : Outcome) : Type 0 where
  network : Network
  reads : reading_of text ≡ Ok network
  read : IsRead text network
  answer : IsAnswerTo command network second o

module _ (command : Command) (second : Option (List ℕ)) (text : List ℕ) (o : Outcome) (status : o.status ≡ Done) where
  refused_not : (reason : List ℕ) → o ≡ refused reason → ⊥
  refused_not reason e = (let s : (refused reason).status ≡ Done = ap (λ (x : Outcome). x.status) (sym e) ∙ status in cc)

  of_reading : (r : Result Network ReadRefusal) → reading_of text ≡ r → IsOutcomeOfReading command second r o → HasAnswer command text second o
  of_reading (Ok n) reads is = record { network = n; reads = reads; read = reads_well text n reads; answer = is }
  of_reading (Err (read_refusal.At line kind)) reads is = absurd (refused_not (line_reason line kind) is)
  of_reading (Err read_refusal.Memory) reads is = absurd is

  of_text : IsOutcomeOfText command second text o → HasAnswer command text second o
  of_text (inl long) = absurd (refused_not (codes "FileTooLong") long.1)
  of_text (inr read) = of_reading (reading_of text) refl read.1

module _ (words : List (List ℕ)) (contents : List ℕ → Option (List ℕ)) (named : Command) (text : List ℕ) (o : Outcome) (status : o.status ≡ Done) where
  of_outcome : reads_first named ≡ true → command_of words ≡ Some named → contents (file_of words) ≡ Some text → IsOutcome words contents o
      → HasAnswer named text (contents (second_of words)) o
  unfolding IsOutcome
  of_outcome reads names told is =
      let at : IsOutcomeAt (Some named) (contents (file_of words)) (contents (second_of words)) o =
      subst (λ (c : Option Command). IsOutcomeAt c (contents (file_of words)) (contents (second_of words)) o) names is in
      let files : IsOutcomeOfFiles named (contents (file_of words)) (contents (second_of words)) o =
      subst (λ (b : Bool). IsOutcomeBy b named (contents (file_of words)) (contents (second_of words)) o) reads at in
      of_text named (contents (second_of words)) text o status
      (subst (λ (c : Option (List ℕ)). IsOutcomeOfFiles named c (contents (second_of words)) o) told files)

-- ---- an outcome of compress or canon that is done

is_headline : (text : List ℕ) (n : Network) (number : ℕ) (o : Outcome) → reading_of text ≡ Ok n → HasBytes n number o
    → IsHeadline text number [] (Some o.out)
is_headline text n number o reads b =
    record { network = n; reads = reads; class = b.class; class_is = b.class_is; bytes = o.out; took = refl; compresses = b.compresses }

pub compress_is_headline : PlanCompresses → DoneIsHeadline on_class.Compress
compress_is_headline law words contents text number o names told is status =
    let h = of_outcome words contents (command.OnClass on_class.Compress number) text o status refl names told is in
    let n = h.network in
    is_headline text n number o h.reads
    (has_bytes text n h.read number o status (IsCompressOf n) (compress_compresses text n h.read number o status law) (class_at (classes_of n) number) refl
    h.answer)

pub canon_is_headline : FittingPlanCompresses → CanonicalFits → DoneIsHeadline on_class.Canon
canon_is_headline law fits words contents text number o names told is status =
    let h = of_outcome words contents (command.OnClass on_class.Canon number) text o status refl names told is in
    let n = h.network in
    is_headline text n number o h.reads
    (has_bytes text n h.read number o status (IsCanonOf n) (canon_compresses text n h.read number o status law fits)
    (class_at (classes_of n) number) refl h.answer)

-- a run that is done reported an answer to its command, and all of its bytes
record HasTold (named : Command) (text : List ℕ) (second : Option (List ℕ)) (before : List ℕ) (after : Option (List ℕ)) : Type 0 where
  outcome : Outcome
  status : outcome.status ≡ Done
  answer : HasAnswer named text second outcome
  took : after ≡ Some (before ++ outcome.out)

module _ (words : List (List ℕ)) (contents : List ℕ → Option (List ℕ)) (first second : List ℕ) (first_rose second_rose : Type 0) (result : Status)
    (out_old out_new : Option (List ℕ)) (out_before out_now : ℕ) (err_old err_new : Option (List ℕ)) (err_before err_now : ℕ)
    (meets : RunMeets (IsOutcome words contents) first second first_rose second_rose result out_old out_new out_before out_now err_old err_new err_before
    err_now) (is : result ≡ Done) where
  no_fault_of_writing : result ≢ WriteFault
  no_fault_of_writing w = (let s : Done ≡ WriteFault = sym is ∙ w in cc)

  told_status : meets.outcome.status ≡ Done
  told_status = ⊎_elim (λ e. sym e ∙ is) (λ w. absurd (no_fault_of_writing w)) meets.told.status

  has_told : (named : Command) → reads_first named ≡ true → command_of words ≡ Some named → (text before : List ℕ) → contents (file_of words) ≡ Some text
      → out_old ≡ Some before → HasTold named text (contents (second_of words)) before out_new
  has_told named reads names text before told taken =
      elim meets.cause [
        | inl allowed ↦ record {
          outcome = meets.outcome;
          status = told_status;
          answer = of_outcome words contents named text meets.outcome told_status reads names told allowed;
          took = meets.told.out_all no_fault_of_writing ∙ ap (λ (o : Option (List ℕ)). with_end o meets.outcome.out) taken;
        }
        | inr (inl failed) ↦ absurd (let s = ap (λ (x : Outcome). x.status) (sym failed.1) ∙ told_status in cc)
        | inr (inr (inl failed)) ↦ absurd (let s = ap (λ (x : Outcome). x.status) (sym failed.1) ∙ told_status in cc)
        | inr (inr (inr memory)) ↦ absurd (let s = ap (λ (x : Outcome). x.status) (sym memory) ∙ told_status in cc)
      ]

  -- ---- compress and canon

  headline_of : (of : ClassCommand) (number : ℕ)
      → ((text : List ℕ) (n : Network) → IsRead text n → (o : Outcome) → o.status ≡ Done
      → IsAnswerTo (command.OnClass of number) n (contents (second_of words)) o → HasBytes n number o)
      → command_of words ≡ Some (command.OnClass of number) → (text before : List ℕ) → contents (file_of words) ≡ Some text → out_old ≡ Some before
      → IsHeadline text number before out_new
  headline_of of number bytes names text before told taken =
      let h = has_told (command.OnClass of number) refl names text before told taken in
      let n = h.answer.network in
      let b = bytes text n h.answer.read h.outcome h.status h.answer.answer in
      record { network = n; reads = h.answer.reads; class = b.class; class_is = b.class_is; bytes = h.outcome.out; took = h.took; compresses = b.compresses }

  pub headline : PlanCompresses → (number : ℕ) → command_of words ≡ Some (command.OnClass on_class.Compress number) → (text before : List ℕ)
      → contents (file_of words) ≡ Some text → out_old ≡ Some before → IsHeadline text number before out_new
  headline law number = headline_of on_class.Compress number (λ text n read o status is.
      has_bytes text n read number o status (IsCompressOf n) (compress_compresses text n read number o status law) (class_at (classes_of n) number) refl is)

  pub canonical : FittingPlanCompresses → CanonicalFits → (number : ℕ) → command_of words ≡ Some (command.OnClass on_class.Canon number) →
      (text before : List ℕ)
      → contents (file_of words) ≡ Some text → out_old ≡ Some before → IsHeadline text number before out_new
  canonical law fits number = headline_of on_class.Canon number (λ text n read o status is.
      has_bytes text n read number o status (IsCanonOf n) (canon_compresses text n read number o status law fits) (class_at (classes_of n) number) refl is)

  -- ---- fold and lift

  pub folded : FoldIsReadBack → (number : ℕ) → command_of words ≡ Some (command.OnSecond on_second.Fold number) → (text solution before : List ℕ)
      → contents (file_of words) ≡ Some text → contents (second_of words) ≡ Some solution → out_old ≡ Some before
      → IsCarriedDown text solution number before out_new
  folded reads number names text solution before told also taken =
      let h = has_told (command.OnSecond on_second.Fold number) refl names text before told taken in
      let n = h.answer.network in
      let answer = subst (λ (c : Option (List ℕ)). IsFoldAnswer n number c h.outcome) also h.answer.answer in
      record {
        network = n;
        reads = h.answer.reads;
        bytes = h.outcome.out;
        took = h.took;
        carried =
            reads n ∣ (text, h.answer.read.given) ∣₁ h.answer.read.faultless number solution h.outcome.out
            (subst (IsFoldAnswer n number (Some solution)) (fold_is_done n number solution h.outcome h.status answer) answer);
      }

  pub lifted : LiftIsReadBack → (number : ℕ) → command_of words ≡ Some (command.OnSecond on_second.Lift number) → (text solution before : List ℕ)
      → contents (file_of words) ≡ Some text → contents (second_of words) ≡ Some solution → out_old ≡ Some before
      → IsCarriedUp text solution number before out_new
  lifted reads number names text solution before told also taken =
      let h = has_told (command.OnSecond on_second.Lift number) refl names text before told taken in
      let n = h.answer.network in
      let answer = subst (λ (c : Option (List ℕ)). IsLiftAnswer n number c h.outcome) also h.answer.answer in
      record {
        network = n;
        reads = h.answer.reads;
        bytes = h.outcome.out;
        took = h.took;
        carried =
            reads n ∣ (text, h.answer.read.given) ∣₁ h.answer.read.faultless number solution h.outcome.out
            (subst (IsLiftAnswer n number (Some solution)) (lift_is_done n number solution h.outcome h.status answer) answer);
      }
