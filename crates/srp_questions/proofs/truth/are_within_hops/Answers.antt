use Rattle.std.proofs.Common.{◌<◌, ◌∙◌, ℕ, List, ap}
use Rattle.std.specs.Prelude.{nat_le, slice_index}
use Rattle.std.specs.List.{list_all}
use Rattle.std.proofs.lemmas.List.Elements.{All-contains}
use Rattle.base_kit.proofs.Elements.{contains_in}
use Rattle.srp_core.specs.Problem.{count}
use Rattle.srp_questions.specs.Questions.{IsWithinHops}
use Rattle.srp_questions.proofs.Telling.{told, within}
use Rattle.srp_questions.proofs.truth.are_within_hops.Goals as goal

pub returns : goal.returns
returns c =
    let P = c.args.srp.now in
    let L = c.args.labels.now in
    let routers = c.args.routers.now in
    let lengths = c.in_ok-lengths.lengths.items in
    told (λ u. nat_le (slice_index c.in_ok-lengths.lengths.items u) c.args.most) (IsWithinHops P L c.args.most) routers c.are_at_most.result
    (c.are_at_most.ensures ∙ ap (λ (l : List ℕ). list_all (λ u. nat_le (slice_index l u) c.args.most) c.args.routers.now) c.deref.ensures.value)
    (λ u i. within P L u c.args.most (slice_index lengths u)
    (c.in_ok-lengths.ensures.longest u (All-contains (λ (r : ℕ). r < count c.args.srp.now) routers u c.requires.routers (contains_in routers u i))))
