use Rattle.std.proofs.Common.{◌<◌, ◌∙◌, ℕ, Bool, not, List, ap, arith}
use Rattle.std.specs.List.{list_all}
use Rattle.std.proofs.lemmas.List.Elements.{All-contains}
use Rattle.base_kit.proofs.Elements.{contains_in}
use Rattle.srp_core.specs.Problem.{count}
use Rattle.srp_questions.specs.Questions.{PassesThrough}
use Rattle.srp_questions.specs.Walks.{is_marked}
use Rattle.srp_questions.proofs.Telling.{told, around}
use Rattle.srp_questions.proofs.truth.pass_through.Goals as goal

pub returns : goal.returns
returns c =
    let P = c.args.srp.now in
    let L = c.args.labels.now in
    let routers = c.args.routers.now in
    let total = c.count.ensures.count in
    told (λ u. not (is_marked c.in_ok-around.around.items u)) (PassesThrough P L c.args.way.now) routers c.is_none_marked.result
    (c.is_none_marked.ensures ∙ ap (λ (l : List Bool). list_all (λ u. not (is_marked l u)) c.args.routers.now) c.deref-3.ensures.value)
    (λ u i. (
    let inside : u < count c.args.srp.now = All-contains (λ (r : ℕ). r < count c.args.srp.now) routers u c.requires.routers (contains_in routers u i) in
    around P c.count.ensures.rules L c.args.way.now u inside c.deref.result.now c.deref-2.result.now
    (λ v among. ap (λ (l : List Bool). is_marked l v) c.deref.ensures.value ∙ c.in_ok-others.ensures.each v (omega (arith, among, total)))
    (c.deref-2.ensures.value ∙ c.in_ok-origins.ensures) (is_marked c.in_ok-around.around.items u) (c.in_ok-around.ensures.each u inside)))
