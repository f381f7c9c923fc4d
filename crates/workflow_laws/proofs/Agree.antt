-- Two outcomes that words allow are equal, or they are two certificates.
use Rattle.std.proofs.Common.{◌≡◌, inl, inr, ℕ, false, List, refl, sym, ap, ◌∙◌, subst, arith, Option, Some, None, Result, Ok, Err}
use Rattle.std.specs.Prelude.{◌⊎◌, IsSome}
use Rattle.cfg_ast.specs.declared.classes.DestClass.{DestClass}
use Rattle.cfg_ast.specs.declared.network.Network.{Network}
use Rattle.cfg_ast.specs.declared.refusal.ReadRefusal.{ReadRefusal}
use Rattle.cfg_ast.specs.declared.refusal.ReadRefusal.TheVariants as read_refusal
use Rattle.cfg_ast.specs.meaning.Classes.{classes_of}
use Rattle.cfg_ast.specs.text.Reading.{reading_of}
use Rattle.answer_certificates.specs.Certified.{IsCertifyOf}
use Rattle.answer_kit.specs.ClassNumbers.{class_at, IsOfClass}
use Rattle.answer_kit.specs.declared.status.Status.TheVariants.{Done}
use Rattle.answer_kit.specs.Outcome.{Outcome}
use Rattle.bonsai_top.specs.declared.command.ClassCommand.TheVariants as on_class
use Rattle.bonsai_top.specs.declared.command.Command.{Command}
use Rattle.bonsai_top.specs.declared.command.Command.TheVariants.{OnNetwork, OnClass, OnSecond, Trial}
use Rattle.workflow_laws.specs.Commands as command
use Rattle.bonsai_top.specs.Commands.{command_of, is_read, reads_first}
use Rattle.bonsai_top.specs.OneOutcome.{is_free, leaves_free, OutcomeIsOne}
use Rattle.bonsai_top.specs.Outcomes.{IsOutcomeOfReading, IsOutcomeOfText, IsOutcomeOfFiles, IsOutcomeAt, IsOutcome}
use Rattle.bonsai_top.specs.Words.{file_of, second_of}
use Rattle.workflow_laws.specs.Existence.{OutcomesAgree}
use Rattle.workflow_laws.specs.Setting.{Contents}

-- equal, or both done
abbrev AreAlike : Outcome → Outcome → Type 0
AreAlike o p = (o ≡ p) ⊎ ((o.status ≡ Done) × (p.status ≡ Done))

-- ---- two outcomes of `certify`

module _ (number : ℕ) (second : Option (List ℕ)) (o p : Outcome) where
  of_class : (n : Network) (found : Option DestClass) → IsOfClass found number (IsCertifyOf n) o → IsOfClass found number (IsCertifyOf n) p → AreAlike o p
  of_class n None x y = inl (x ∙ sym y)
  of_class n (Some class) x y = inr (ap (λ (q : Outcome). q.status) x.told, ap (λ (q : Outcome). q.status) y.told)

  of_reading : (r : Result Network ReadRefusal) → IsOutcomeOfReading (command.Certify number) second r o
      → IsOutcomeOfReading (command.Certify number) second r p
      → AreAlike o p
  of_reading (Ok n) x y = of_class n (class_at (classes_of n) number) x y
  of_reading (Err (read_refusal.At line kind)) x y = inl (x ∙ sym y)
  of_reading (Err read_refusal.Memory) x y = absurd x

  of_text : (text : List ℕ) → IsOutcomeOfText (command.Certify number) second text o → IsOutcomeOfText (command.Certify number) second text p → AreAlike o p
  of_text text (inl x) (inl y) = inl (x.1 ∙ sym y.1)
  of_text text (inl x) (inr y) = absurd (omega (arith, x.0, y.0))
  of_text text (inr x) (inl y) = absurd (omega (arith, x.0, y.0))
  of_text text (inr x) (inr y) = of_reading (reading_of text) x.1 y.1

  of_files : (first : Option (List ℕ)) → IsSome first → IsOutcomeOfFiles (command.Certify number) first second o
      → IsOutcomeOfFiles (command.Certify number) first second p → AreAlike o p
  of_files None told x y = absurd cc
  of_files (Some text) told x y = of_text text x y

-- ---- all words

-- a command asks for a certificate, or leaves nothing free
certifies : (c : Command) → (is_free c ≡ false) ⊎ ((number : ℕ) × (c ≡ command.Certify number))
certifies (OnNetwork of) = inl refl
certifies (OnClass on_class.Groups number) = inl refl
certifies (OnClass on_class.Compress number) = inl refl
certifies (OnClass on_class.Report number) = inl refl
certifies (OnClass on_class.Json number) = inl refl
certifies (OnClass on_class.Canon number) = inl refl
certifies (OnClass on_class.Certify number) = inr (number, refl)
certifies (OnSecond of number) = inl refl
certifies (Trial size) = inl refl

named_by : (words : List (List ℕ)) → (c : Option Command) → command_of words ≡ c
    → (leaves_free (command_of words) ≡ false) ⊎ ((number : ℕ) × (command_of words ≡ Some (command.Certify number)))
named_by words None is = inl (ap leaves_free is)
named_by words (Some c) is = elim (certifies c) [
  | inl fixed ↦ inl (ap leaves_free is ∙ fixed)
  | inr asks ↦ inr (asks.0, is ∙ ap (λ (d : Command). Some d) asks.1)
]

module _ (words : List (List ℕ)) (contents : Contents) (number : ℕ) (named : command_of words ≡ Some (command.Certify number)) where
  over_files : (o : Outcome) → IsOutcome words contents o → IsOutcomeOfFiles (command.Certify number) (contents (file_of words)) (contents (second_of words)) o
  unfolding IsOutcome
  over_files o is = subst (λ (c : Option Command). IsOutcomeAt c (contents (file_of words)) (contents (second_of words)) o) named is

pub outcomes_agree : OutcomeIsOne → OutcomesAgree
outcomes_agree one words contents told o p x y = elim (named_by words (command_of words) refl) [
  | inl fixed ↦ inl (one words contents told fixed o p x y)
  | inr asks ↦ (
      let number = asks.0 in
      let named = asks.1 in
      let first = told.first (ap (is_read reads_first) named) in
      let alike =
      of_files number (contents (second_of words)) o p (contents (file_of words)) first
      (over_files words contents number named o x) (over_files words contents number named p y) in
      elim alike [
        | inl same ↦ inl same
        | inr both ↦ inr (record { number = number; named = named; first_done = both.0; second_done = both.1 })
      ])
]
