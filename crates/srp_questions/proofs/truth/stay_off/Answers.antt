use Rattle.std.proofs.Common.{◌<◌, ◌∙◌, ℕ, Bool, true, false, not, List, ap, arith}
use Rattle.std.specs.List.{list_all}
use Rattle.std.proofs.lemmas.List.{get_or-replicate}
use Rattle.std.proofs.lemmas.List.Elements.{All-contains}
use Rattle.base_kit.proofs.Elements.{contains_in}
use Rattle.srp_core.specs.Problem.{count}
use Rattle.srp_questions.specs.Questions.{StaysOff}
use Rattle.srp_questions.specs.Walks.{is_marked}
use Rattle.srp_questions.proofs.Telling.{told, off}
use Rattle.srp_questions.proofs.truth.stay_off.Goals as goal

pub returns : goal.returns
returns c =
    let P = c.args.srp.now in
    let L = c.args.labels.now in
    let routers = c.args.routers.now in
    let total = c.count.ensures.count in
    let total' = c.count-2.ensures.count in
    let filled = c.in_ok-all.ensures.items_if_clones_equal (λ y h. h) in
    told (λ u. not (is_marked c.in_ok-meeting.meeting.items u)) (StaysOff P L c.args.way.now) routers c.is_none_marked.result
    (c.is_none_marked.ensures ∙ ap (λ (l : List Bool). list_all (λ u. not (is_marked l u)) c.args.routers.now) c.deref-3.ensures.value)
    (λ u i. (
    let inside : u < count c.args.srp.now = All-contains (λ (r : ℕ). r < count c.args.srp.now) routers u c.requires.routers (contains_in routers u i) in
    off P c.count.ensures.rules L c.args.way.now u inside c.deref.result.now c.deref-2.result.now
    (λ v among. ap (λ (l : List Bool). is_marked l v) (c.deref.ensures.value ∙ filled) ∙ get_or-replicate c.count.result v true false
    (omega (arith, among, total)))
    (λ v among. ap (λ (l : List Bool). is_marked l v) c.deref-2.ensures.value ∙ c.in_ok-goals.ensures.each v (omega (arith, among, total')))
    (is_marked c.in_ok-meeting.meeting.items u) (c.in_ok-meeting.ensures.each u inside)))
