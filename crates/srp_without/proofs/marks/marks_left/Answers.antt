use Rattle.std.proofs.Common.{◌≡◌, ◌∙◌, Bool, true, false, List, [], map, sym, ap, subst}
use Rattle.std.specs.List.{list_any}
use Rattle.srp_without.specs.Accepting.{AreMarksOf, AreOfActs, AreMet, is_several}
use Rattle.srp_without.proofs.MarkLemmas.{known_where_lone, no_marks, marks_met, importers_inside, acts_inside}
use Rattle.srp_without.proofs.marks.marks_left.Goals as goal

some_mark : (marks lone : List Bool) (b v : Bool) → b ≡ list_any (λ mark. mark) marks → marks ≡ lone → b ≡ v → list_any (λ mark. mark) lone ≡ v
some_mark marks lone b v found same is = ap (list_any (λ mark. mark)) (sym same) ∙ sym found ∙ is

pub returns-then-not-has_mark : goal.returns-then-not-has_mark
returns-then-not-has_mark c =
    let problem = c.args.problem.now in
    subst (AreMarksOf problem c.args.edges.now) (sym (c.from_vec.ensures ∙ c.in_ok-none.ensures.items ∙ c.lone-then-not-has_mark.ensures))
    (no_marks problem c.count-count.ensures.rules [] [] c.args.edges.now c.requires.edges
    (some_mark c.lone.result.now problem.lone c.has_mark.result false c.has_mark.ensures c.lone.ensures c.if-not-has_mark.true))

pub met_by-requires-clause-importers : goal.met_by-requires-clause-importers
met_by-requires-clause-importers c =
    importers_inside c.args.problem.now c.count-count.ensures.rules c.args.edges.now c.requires.edges c.count-count.result c.count-count.ensures.count

pub met_by-requires-clause-acts : goal.met_by-requires-clause-acts
met_by-requires-clause-acts c =
    let problem = c.args.problem.now in
    acts_inside problem c.count-count.ensures.rules c.args.edges.now c.requires.edges c.accepted.result.now
    (subst (AreOfActs problem.acts) (sym c.accepted.ensures)
    (known_where_lone problem c.args.failures.now c.count-count.ensures.rules c.requires.serves
    (some_mark c.lone.result.now problem.lone c.has_mark.result true c.has_mark.ensures c.lone.ensures c.if-not-has_mark.false)))

pub returns : goal.returns
returns c =
    let problem = c.args.problem.now in
    let of_acts = subst (AreOfActs problem.acts) (sym c.accepted.ensures)
    (known_where_lone problem c.args.failures.now c.count-count.ensures.rules c.requires.serves
    (some_mark c.lone.result.now problem.lone c.has_mark.result true c.has_mark.ensures c.lone.ensures c.if-not-has_mark.false)) in
    subst (AreMarksOf problem c.args.edges.now) (sym (c.in_ok-marks.ensures ∙ ap (map is_several) c.deref.ensures.value))
    (marks_met problem c.args.edges.now c.in_ok-met.met.items
    (subst (λ n. AreMet problem.acts n c.args.edges.now c.in_ok-met.met.items) c.count-count.ensures.count (c.in_ok-met.ensures problem.acts of_acts)))
