use Rattle.std.proofs.Common.{◌≡◌, ◌≤◌, ◌<◌, ◌+◌, ◌∷◌, ◌++◌, [], ◌&&◌, ◌∙◌, ℕ, Bool, List, length, ap, arith, sym, subst, get_or, true}
use Rattle.std.specs.Prelude.{Contains}
use Rattle.std.proofs.lemmas.List.Elements.{All-contains_itself}
use Rattle.cfg_ast.specs.declared.classes.DestClass.{DestClass}
use Rattle.cfg_ast.specs.declared.network.Network.{Network}
use Rattle.cfg_ast.specs.meaning.Classes.{classes_of}
use Rattle.cfg_ast.specs.meaning.Topology.{links_of}
use Rattle.solution_answers.specs.Writing.{Writes, WritesEach}
use Rattle.solution_answers.proofs.Pairs.{none_written, one_written}
use Rattle.ask_names.specs.Selection.{chosen}
use Rattle.ask_classes.specs.Tasks.{IsClassPart}
use Rattle.ask_classes.specs.declared.manner.Manner.{Manner}
use Rattle.ask_answers.specs.Plans.{IsRequestPlan}
use Rattle.ask_answers.specs.Reports.{manner_of}
use Rattle.ask_answers.proofs.Reported.{report_of}
use Rattle.ask_answers.proofs.Spans.{chosen_to, none_chosen, one_chosen, all_chosen, span_within}
use Rattle.ask_answers.proofs.reports.put_report.Goals as goal

pub loop-place-init : goal.loop-place-init
loop-place-init c =
    let n = c.args.checked.now.network in
    let request = c.args.request.now in
    let old = c.args.bytes.now.items in
    record {
      atlas = c.requires.atlas;
      last = tt;
      written = subst (λ (items : List (ℕ × DestClass)). WritesEach (IsClassPart (manner_of c.args.shows request) n request) items old old true)
          (sym (none_chosen (classes_of n) c.args.span.from c.args.span.from (omega arith)))
          (none_written (IsClassPart (manner_of c.args.shows request) n request) old);
      within = λ order. order;
      empty = λ order. omega arith;
    }

pub plan_for-requires-clause-links : goal.plan_for-requires-clause-links
plan_for-requires-clause-links c = c.as_slice-links.ensures ∙ c.requires.atlas.shared.links ∙ ap links_of (sym c.network.ensures.same)

pub class_at-class-requires : goal.class_at-class-requires
class_at-class-requires c =
    let n = c.args.checked.now.network in
    let many = ap length (c.as_slice-classes.ensures ∙ c.loop-place.invariant.atlas.classes) in
    let within = span_within c.args.request.now.classes (classes_of n) c.args.span c.requires.span in
    omega (arith, many, within, c.loop-place-test.true)

pub known_after-requires-clause-class : goal.known_after-requires-clause-class
known_after-requires-clause-class c =
    let n = c.args.checked.now.network in
    let classes = c.as_slice-classes.result.now in
    let all = c.as_slice-classes.ensures ∙ c.loop-place.invariant.atlas.classes in
    let many = ap length all in
    let within = span_within c.args.request.now.classes (classes_of n) c.args.span c.requires.span in
    let inside : c.loop-place.place < length classes = omega (arith, many, within, c.loop-place-test.true) in
    subst (λ (ks : List DestClass). Contains ks c.class_at-class.result.now) all
    (subst (λ (k : DestClass). Contains classes k) (sym c.class_at-class.ensures)
    (All-contains_itself classes c.loop-place.place c.class_at-class.result.now inside))

pub put_class_part-requires-clause-plan : goal.put_class_part-requires-clause-plan
put_class_part-requires-clause-plan c =
    let n = c.args.checked.now.network in
    let request = c.args.request.now in
    let plan = c.in_ok-plan.plan in
    let is = subst (λ (m : Network). IsRequestPlan c.args.shows m request plan) c.network.ensures.same c.in_ok-plan.ensures in
    subst (λ (shows : Bool). IsRequestPlan shows n request plan) (sym (ap (λ (m : Manner). m.shows) is.manner)) is

pub put_class_part-requires-clause-known : goal.put_class_part-requires-clause-known
put_class_part-requires-clause-known c =
    let class = c.class_at-class.result.now in
    let classes = c.as_slice-classes.result.now in
    let all = c.as_slice-classes.ensures ∙ c.loop-place.invariant.atlas.classes in
    let many = ap length all in
    let within = span_within c.args.request.now.classes (classes_of c.args.checked.now.network) c.args.span c.requires.span in
    let inside : c.loop-place.place < length classes = omega (arith, many, within, c.loop-place-test.true) in
    let own : Contains classes class = subst (λ (k : DestClass). Contains classes k) (sym c.class_at-class.ensures)
    (All-contains_itself classes c.loop-place.place class inside) in
    (class, subst (λ (ks : List DestClass). Contains ks class) all own, c.in_ok-known.ensures.known)

pub loop-place-preserved : goal.loop-place-preserved
loop-place-preserved c =
    let n = c.args.checked.now.network in
    let request = c.args.request.now in
    let shows = c.args.shows in
    let span = c.args.span in
    let place = c.loop-place.place in
    let classes = c.as_slice-classes.result.now in
    let class = c.class_at-class.result.now in
    let all = c.as_slice-classes.ensures ∙ c.loop-place.invariant.atlas.classes in
    let many = ap length all in
    let end = span_within request.classes (classes_of n) span c.requires.span in
    let inside : place < length classes = omega (arith, many, end, c.loop-place-test.true) in
    let own : Contains classes class = subst (λ (k : DestClass). Contains classes k) (sym c.class_at-class.ensures)
    (All-contains_itself classes place class inside) in
    let built = c.in_ok-known.ensures.known in
    let plan = c.in_ok-plan.plan in
    let old = c.args.bytes.now.items in
    let new = c.put_class_part.new.bytes.items in
    let R = IsClassPart (manner_of shows request) n request in
    let is_manner = (subst (λ (m : Network). IsRequestPlan shows m request plan) c.network.ensures.same c.in_ok-plan.ensures).manner in
    let within_all : place < length (classes_of n) = omega (arith, end, c.loop-place-test.true) in
    let part = subst (λ (m : Manner). Writes (IsClassPart m n request (place + 1, class)) c.loop-place.bytes.items new c.in_ok-yes.yes) is_manner
    (c.in_ok-yes.ensures class built) in
    record {
      atlas = record { classes = c.loop-place.invariant.atlas.classes; shared = c.known_after.ensures.shared; places = c.loop-place.invariant.atlas.places };
      last = (class, subst (λ (ks : List DestClass). Contains ks class) all own, built.built);
      written = subst (WritesEach R (chosen_to (classes_of n) span.from (place + 1)) old new) (sym c.both-all.ensures)
          (subst (λ (items : List (ℕ × DestClass)). WritesEach R items old new (c.loop-place.all && c.in_ok-yes.yes))
          (sym (one_chosen (classes_of n) span.from place class c.loop-place.auto.place within_all
          (c.class_at-class.ensures ∙ ap (λ (ks : List DestClass). get_or ks place class) all)))
          (one_written R (chosen_to (classes_of n) span.from place) (place + 1, class) old c.loop-place.bytes.items new c.loop-place.all c.in_ok-yes.yes
          c.loop-place.invariant.written part));
      within = λ order. omega (arith, c.loop-place-test.true);
      empty = λ order. (let behind = c.loop-place.auto.place in let before = c.loop-place-test.true in omega (arith, behind, before));
    }

pub returns-clause-report : goal.returns-clause-report
returns-clause-report c =
    let n = c.args.checked.now.network in
    let request = c.args.request.now in
    let shows = c.args.shows in
    let past : c.args.span.upto ≤ c.loop-place.place = omega (arith, c.loop-place-test.false) in
    report_of shows n request c.args.span c.args.bytes.now.items c.loop-place.bytes.items c.loop-place.all c.requires.span
    (subst (λ (items : List (ℕ × DestClass)). WritesEach (IsClassPart (manner_of shows request) n request) items c.args.bytes.now.items
    c.loop-place.bytes.items c.loop-place.all)
    (all_chosen (classes_of n) c.args.span c.loop-place.place c.loop-place.auto.place past c.loop-place.invariant.within c.loop-place.invariant.empty)
    c.loop-place.invariant.written)
