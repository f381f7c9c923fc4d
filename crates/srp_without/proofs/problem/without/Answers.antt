use Rattle.std.proofs.Common.{◌∙◌, List, sym, ap, subst}
use Rattle.std.specs.Prelude.{Contains, filter}
use Rattle.base_kit.specs.declared.act_graph.Edge.{Edge}
use Rattle.srp_core.specs.Without.{marked_down, is_left, IsWithout}
use Rattle.srp_without.specs.Accepting.{AreMarksOf}
use Rattle.srp_without.specs.Left.{left_from}
use Rattle.srp_without.proofs.Filters.{left_was}
use Rattle.srp_without.proofs.Kept.{keeps_rules, is_without}
use Rattle.srp_without.proofs.Starts.{AreStartsLeft, are_left}
use Rattle.srp_without.proofs.problem.without.Goals as goal

pub marks_left-requires-clause-edges : goal.marks_left-requires-clause-edges
marks_left-requires-clause-edges c = λ edge h.
    let left = is_left (marked_down c.args.routers.now c.args.links.now) in
    left_was left c.args.problem.now.edges edge
    (subst (λ (l : List Edge). Contains l edge) (c.deref.ensures.value ∙ c.in_ok-edges.ensures ∙ ap (filter left) c.edges.ensures) h)

pub new-other-requires : goal.new-other-requires
new-other-requires c = λ keep.
    let problem = c.args.problem.now in
    let routers = c.args.routers.now in
    let left = is_left (marked_down routers c.args.links.now) in
    keeps_rules problem c.count-known.ensures.rules routers c.args.links.now _ c.protocol.ensures
    (c.in_ok-names.ensures ∙ c.as_slice.ensures ∙ c.names.ensures) (c.from_vec.ensures ∙ c.in_ok-numbers.ensures.items ∙ c.numbers.ensures)
    (c.in_ok-acts.ensures ∙ c.acts.ensures) (c.from_vec-2.ensures ∙ c.in_ok-edges.ensures ∙ ap (filter left) c.edges.ensures)
    (subst (AreStartsLeft problem.init routers) (sym (c.in_ok-init.ensures ∙ ap (left_from routers) c.init.ensures)) (are_left routers problem.init))
    (subst (λ (l : List Edge). AreMarksOf problem l c.in_ok-lone.lone) (c.deref.ensures.value ∙ sym c.from_vec-2.ensures) c.in_ok-lone.ensures)

pub returns : goal.returns
returns c =
    let problem = c.args.problem.now in
    let routers = c.args.routers.now in
    let left = is_left (marked_down routers c.args.links.now) in
    subst (IsWithout problem (marked_down routers c.args.links.now)) (sym c.new-other.ensures)
    (is_without problem c.count-known.ensures.rules routers c.args.links.now _ c.protocol.ensures
    (c.in_ok-names.ensures ∙ c.as_slice.ensures ∙ c.names.ensures) (c.from_vec.ensures ∙ c.in_ok-numbers.ensures.items ∙ c.numbers.ensures)
    (c.in_ok-acts.ensures ∙ c.acts.ensures) (c.from_vec-2.ensures ∙ c.in_ok-edges.ensures ∙ ap (filter left) c.edges.ensures)
    (subst (AreStartsLeft problem.init routers) (sym (c.in_ok-init.ensures ∙ ap (left_from routers) c.init.ensures)) (are_left routers problem.init))
    (subst (λ (l : List Edge). AreMarksOf problem l c.in_ok-lone.lone) (c.deref.ensures.value ∙ sym c.from_vec-2.ensures) c.in_ok-lone.ensures))
