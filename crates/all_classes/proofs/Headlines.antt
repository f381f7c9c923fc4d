-- From what a call does to the headline of each frame.
use Rattle.std.proofs.Common.{◌≡◌, ◌≢◌, ◌≤◌, inl, inr, ℕ, ◌+◌, Bool, true, false, List, [], ◌∷◌, length, refl, sym, ap, ◌∙◌, subst, arith, Option, Some, None, IfSome, Result, Ok, Err}
use Rattle.cfg_ast.specs.declared.network.Network.{Network}
use Rattle.cfg_ast.specs.declared.refusal.ReadRefusal.{ReadRefusal}
use Rattle.cfg_ast.specs.declared.refusal.ReadRefusal.TheVariants as read_refusal
use Rattle.cfg_ast.specs.meaning.Classes.{classes_of}
use Rattle.cfg_ast.specs.text.Reading.{reading_of}
use Rattle.class_counts.specs.Counts.{FewClasses}
use Rattle.io_kit.specs.Ends.{Took, TookPart}
use Rattle.reading_laws.proofs.WellRead.{reads_well}
use Rattle.answer_kit.specs.Kinds.{line_reason}
use Rattle.answer_kit.specs.Networks.{long_text}
use Rattle.answer_kit.specs.Outcome.{Outcome}
use Rattle.answer_kit.specs.declared.status.Status.TheVariants as status
use Rattle.bonsai_top.specs.declared.command.ClassCommand.{ClassCommand}
use Rattle.bonsai_top.specs.declared.command.ClassCommand.TheVariants as on_class
use Rattle.bonsai_top.specs.Headline.{DoneIsHeadline, IsHeadline}
use Rattle.endings.specs.declared.ending.Ending.{Ending}
use Rattle.endings.specs.declared.ending.Ending.TheVariants.{WriteFault}
use Rattle.endings.specs.Meets.{Tells}
use Rattle.endings.specs.Telling.{Telling, misuse, out_of_memory, read_fault, refused}
use Rattle.network_files.specs.NetworkFiles.{HoldsNetwork, IsOfFile, IsOfReading, IsOfText}
use Rattle.all_classes.specs.declared.request.Asked.{Asked}
use Rattle.all_classes.specs.declared.request.Request.{Request}
use Rattle.all_classes.specs.Frames.{frames, AreAllowed}
use Rattle.all_classes.specs.Headlines.{is_compressing, AreHeadlines, HasHeadlines}
use Rattle.all_classes.specs.Meets.{HasCause, HoldsOne, IsAllowed, IsAllowedAt, IsBegunAt, IsClassOutcome, IsCutAt, RunMeets}
use Rattle.all_classes.specs.Requests.{class_words, file_of, first_of, last_of, request_of, span, span_of}
use Rattle.all_classes.specs.Tellings.{IsBegun, IsCutShort, IsFramed}
use Rattle.all_classes.proofs.Words.{last_is_short, names_class}

-- what holds of both commands that compress holds of a command that does
of_compressing : (P : ClassCommand → Type 0) → P on_class.Compress → P on_class.Canon → (of : ClassCommand) → is_compressing of ≡ true → P of
of_compressing P compress canon on_class.Groups is = cc
of_compressing P compress canon on_class.Compress is = compress
of_compressing P compress canon on_class.Report is = cc
of_compressing P compress canon on_class.Json is = cc
of_compressing P compress canon on_class.Canon is = canon
of_compressing P compress canon on_class.Certify is = cc

module _ (law : FewClasses) (compress : DoneIsHeadline on_class.Compress) (canon : DoneIsHeadline on_class.Canon)
    (words : List (List ℕ)) (contents : List ℕ → Option (List ℕ)) (request : Request) (asks : request_of words ≡ Some request)
    (compresses : is_compressing request.command ≡ true) (text : List ℕ) (told : contents (file_of words) ≡ Some text) where
  each : (limit : ℕ) → limit ≤ 999999999 → (from : ℕ) (os : List Outcome) → length os ≤ span from limit → AreAllowed (IsClassOutcome words contents) from os
      → AreHeadlines text from os
  each limit small from [] few are = tt
  each limit small from (o ∷ os) few are = (
    λ done. of_compressing DoneIsHeadline compress canon request.command compresses (class_words words from) contents text from o
        (names_class words request asks from (omega (arith, few, small))) told are.0 done,
    each limit small (from + 1) os (omega (arith, few)) are.1,
  )

  few_of : (n : Network) → reading_of text ≡ Ok n → length (classes_of n) ≤ 999999999
  few_of n reads = law n ∣ (text, (reads_well text n reads).given) ∣₁

  -- the outcomes of the classes that were asked
  asked_are : (n : Network) → reading_of text ≡ Ok n → (os : List Outcome) → length os ≤ span_of request.asked (length (classes_of n))
      → AreAllowed (IsClassOutcome words contents) (first_of request.asked) os → AreHeadlines text (first_of request.asked) os
  asked_are n reads os few are =
      each (last_of request.asked (length (classes_of n))) (last_is_short words request asks (length (classes_of n)) (few_of n reads))
      (first_of request.asked) os few are

  -- what is reported has the frames of such outcomes
  record HasSuch (o : Telling) : Type 0 where
    outcomes : List Outcome
    are : AreHeadlines text (first_of request.asked) outcomes
    out : o.out ≡ frames (first_of request.asked) outcomes

  has_none : (o : Telling) → o.out ≡ [] → HasSuch o
  has_none o none = record { outcomes = []; are = tt; out = none }

  of_reading : (r : Result Network ReadRefusal) → reading_of text ≡ r → (o : Telling)
      → IsOfReading (λ n. IsFramed (IsClassOutcome words contents) request.asked (length (classes_of n))) r o → HasSuch o
  of_reading (Ok n) reads o is = record {
    outcomes = is.outcomes;
    are = asked_are n reads is.outcomes (omega (arith, is.many)) is.are;
    out = ap (λ (p : Telling). p.out) is.told;
  }
  of_reading (Err (read_refusal.At line kind)) reads o is = has_none o (ap (λ (p : Telling). p.out) is)
  of_reading (Err read_refusal.Memory) reads o is = absurd is

  of_text : (o : Telling) → IsOfText (λ n. IsFramed (IsClassOutcome words contents) request.asked (length (classes_of n))) text o → HasSuch o
  of_text o (inl long) = has_none o (ap (λ (p : Telling). p.out) long.1)
  of_text o (inr short) = of_reading (reading_of text) refl o short.1

  of_allowed : (o : Telling) → IsAllowed words contents o → HasSuch o
  unfolding IsAllowed
  of_allowed o is =
      let at : IsAllowedAt (Some request) words contents o = subst (λ (r : Option Request). IsAllowedAt r words contents o) asks is in
      of_text o (subst (λ (file : Option (List ℕ)). IsOfFile (λ n. IsFramed (IsClassOutcome words contents) request.asked (length (classes_of n))) file o)
      told at)

  of_cut : (o : Telling) → IsCutAt (Some request) words contents o → HasSuch o
  of_cut o (ended, inl before) = has_none o (ap (λ (p : Telling). p.out) before)
  of_cut o (ended, inr behind) =
      let held = subst (λ (file : Option (List ℕ)). IfSome file
      (HoldsOne (λ n. IsCutShort (IsClassOutcome words contents) request.asked (length (classes_of n)) o)))
      told behind in
      record {
        outcomes = held.is.outcomes;
        are = asked_are held.network held.holds.reads held.is.outcomes (omega (arith, held.is.few)) held.is.are;
        out = ap (λ (p : Telling). p.out) held.is.told;
      }

  of_begun : (o : Telling) → IsBegunAt (Some request) words contents o → HasSuch o
  of_begun o is =
      let held = subst (λ (file : Option (List ℕ)). IfSome file
      (HoldsOne (λ n. IsBegun (IsClassOutcome words contents) request.asked (length (classes_of n)) o)))
      told is in
      record {
        outcomes = held.is.outcomes;
        are = asked_are held.network held.holds.reads held.is.outcomes held.is.few held.is.are;
        out = ap (λ (p : Telling). p.out) held.is.told;
      }

  such : (rose : Type 0) (result : Ending) (o : Telling) → HasCause words contents rose result o → HasSuch o
  such rose result o (inl is) = of_allowed o is
  such rose result o (inr (inl failed)) = has_none o (ap (λ (p : Telling). p.out) failed.1)
  such rose result o (inr (inr (inl cut))) = of_cut o (subst (λ (r : Option Request). IsCutAt r words contents o) asks cut)
  such rose result o (inr (inr (inr begun))) = of_begun o (subst (λ (r : Option Request). IsBegunAt r words contents o) asks begun.1)

  pub headlines : (rose : Type 0) (result : Ending) (out_old out_new : Option (List ℕ)) (out_before out_now : ℕ) (err_old err_new : Option (List ℕ))
      (err_before err_now : ℕ) → RunMeets words contents rose result out_old out_new out_before out_now err_old err_new err_before err_now
      → HasHeadlines text (first_of request.asked) result out_old out_new
  headlines rose result out_old out_new out_before out_now err_old err_new err_before err_now run =
      let has = such rose result run.telling run.cause in
      record {
        outcomes = has.outcomes;
        are = has.are;
        part = subst (TookPart out_old out_new) has.out run.told.out_part;
        whole = λ nw. subst (Took out_old out_new) has.out (run.told.out_all nw);
      }
