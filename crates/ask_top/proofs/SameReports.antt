-- Reports of one request, and of the lines of one file of questions, are one, except for what is free.
use Rattle.std.proofs.Common.{◌≡◌, ℕ, suc, zero, Bool, true, false, ◌&&◌, List, [], ◌∷◌, ◌++◌, take, drop, refl, sym, ap, ◌∙◌, subst, inl, inr, Option, Some, None}
use Rattle.std.specs.Prelude.{Contains}
use Rattle.std.specs.List.{enumerate_from}
use Rattle.base_kit.proofs.Elements.{In, contains_in, enumerate_in, get_in}
use Rattle.cfg_ast.specs.declared.classes.DestClass.{DestClass}
use Rattle.cfg_ast.specs.declared.network.Network.{Network}
use Rattle.cfg_ast.specs.meaning.Classes.{classes_of}
use Rattle.cfg_ast.specs.text.TextLines.{TextLine}
use Rattle.solution_answers.specs.Pairwise.{Pairwise}
use Rattle.solution_answers.specs.Parts.{Part, joined, are_all}
use Rattle.ask_words.specs.declared.request.Request.{Request}
use Rattle.ask_names.specs.Selection.{chosen}
use Rattle.ask_names.specs.declared.selection.Span.{Span}
use Rattle.ask_classes.specs.Tasks.{IsClassPart}
use Rattle.ask_answers.specs.Questions.{IsLineReport, question_line}
use Rattle.ask_answers.specs.Reports.{IsReport, manner_of}
use Rattle.ask_top.specs.OneOutcome.{AreAllAlike, AreJoinedAlike, AreLinesAlike, ArePartsAlike, AreReportsAlike}
use Rattle.ask_top.proofs.SameParts.{part_same, parts_alike}

-- ---- classes of a span

in_take : {X : Type 0} (k : ℕ) (xs : List X) (x : X) → In (take k xs) x → In xs x
in_take zero [] x at = absurd at
in_take zero (y ∷ ys) x at = absurd at
in_take (suc k) [] x at = absurd at
in_take (suc k) (y ∷ ys) x (inl here) = inl here
in_take (suc k) (y ∷ ys) x (inr there) = inr (in_take k ys x there)

in_drop : {X : Type 0} (k : ℕ) (xs : List X) (x : X) → In (drop k xs) x → In xs x
in_drop zero [] x at = absurd at
in_drop zero (y ∷ ys) x at = at
in_drop (suc k) [] x at = absurd at
in_drop (suc k) (y ∷ ys) x at = inr (in_drop k ys x at)

is_class : (all : List DestClass) (span : Span) (numbered : ℕ × DestClass) → In (chosen all span) numbered → Contains all numbered.1
is_class all span numbered at =
    let taken = in_drop span.from (take span.upto (enumerate_from 1 all)) numbered at in
    let at_place = enumerate_in all 1 numbered.0 numbered.1 (in_take span.upto (enumerate_from 1 all) numbered taken) in
    contains_in all numbered.1 (get_in all at_place.0 numbered.1 at_place.2)

-- ---- items one by one

module _ {X : Type 0} (R : X → Part → Type 0) (S : X → Part → Part → Type 0) where
  -- of one item two parts are alike, and of one ending
  abbrev AreOfOne : X → Type 0
  AreOfOne item = (x y : Part) → R item x → R item y → S item x y × (x.all ≡ y.all)

  all_alike : (items : List X) (xs ys : List Part) → ((item : X) → In items item → AreOfOne item) → Pairwise R items xs → Pairwise R items ys
      → AreAllAlike S items xs ys × (are_all xs ≡ are_all ys)
  all_alike [] [] [] one a b = (tt, refl)
  all_alike [] [] (y ∷ ys) one a b = absurd b
  all_alike [] (x ∷ xs) ys one a b = absurd a
  all_alike (item ∷ items) [] ys one a b = absurd a
  all_alike (item ∷ items) (x ∷ xs) [] one a b = absurd b
  all_alike (item ∷ items) (x ∷ xs) (y ∷ ys) one a b =
      let first = one item (inl refl) x y a.0 b.0 in
      let rest = all_alike items xs ys (λ other at. one other (inr at)) a.1 b.1 in
      let head = first.1 in
      let tail = rest.1 in
      ((first.0, rest.0), λ i. head i && tail i)

  pub joined_alike : (items : List X) (xs ys : List Part) (x y : Part) → ((item : X) → In items item → AreOfOne item) → Pairwise R items xs →
      Pairwise R items ys
      → x ≡ joined xs → y ≡ joined ys → AreJoinedAlike S items x y × (x.all ≡ y.all)
  joined_alike items xs ys x y one a b x_is y_is =
      let same = all_alike items xs ys one a b in (
        record { firsts = xs; seconds = ys; alike = same.0; first_is = x_is; second_is = y_is },
        ap (λ (part : Part). part.all) x_is ∙ same.1 ∙ sym (ap (λ (part : Part). part.all) y_is),
      )

-- ---- reports

pub reports_alike : (shows : Bool) (network : Network) (request : Request) (x y : Part) → IsReport shows network request x → IsReport shows network request y
    → AreReportsAlike shows network request x y × (x.all ≡ y.all)
reports_alike shows network request x y a b =
    let manner = manner_of shows request in
    let R = IsClassPart manner network request in
    let S = λ (numbered : ℕ × DestClass). ArePartsAlike manner request.task numbered.0 in
    let one_span : b.span ≡ a.span = cc (a.span_is, b.span_is) in
    let others = subst (λ (span : Span). Pairwise R (chosen (classes_of network) span) b.parts) one_span b.are in
    let same = joined_alike R S (chosen (classes_of network) a.span) a.parts b.parts x y
    (λ numbered at first second. parts_alike manner network request numbered first second (is_class (classes_of network) a.span numbered at))
    a.are others a.report_is b.report_is in
    (record { span = a.span; span_is = a.span_is; alike = same.0 }, same.1)

pub lines_alike : (network : Network) (line : TextLine) (x y : Part) → IsLineReport network line x → IsLineReport network line y
    → AreLinesAlike network line x y × (x.all ≡ y.all)
lines_alike network line x y a b =
    let one_request : b.request ≡ a.request = cc (a.asked, b.asked) in
    let other = subst (λ (request : Request). IsReport false network request b.report) one_request b.is in
    let same = reports_alike false network a.request a.report b.report a.is other in (
      record {
        request = a.request;
        asked = a.asked;
        first_report = a.report;
        second_report = b.report;
        alike = same.0;
        first_is = part_same x (record { bytes = question_line line.number ++ a.report.bytes; all = a.report.all }) a.bytes a.all;
        second_is = part_same y (record { bytes = question_line line.number ++ b.report.bytes; all = b.report.all }) b.bytes b.all;
      },
      a.all ∙ same.1 ∙ sym b.all,
    )
