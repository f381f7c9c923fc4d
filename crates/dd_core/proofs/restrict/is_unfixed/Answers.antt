use Rattle.std.proofs.Common.{◌∙◌, sym, get_or, ap, List, ℕ}
use Rattle.dd_core.proofs.FixedLemmas.{before_unfixed}
use Rattle.dd_core.proofs.restrict.is_unfixed.Goals as goal

pub returns-else-not-all_before : goal.returns-else-not-all_before
returns-else-not-all_before c = λ in_absent.
    let up = c.as_slice-communities.ensures.ascending in
    let first = ap (λ (xs : List ℕ). get_or xs c.in-Choice.variable 0) (sym c.as_slice-communities.ensures.all) in
    before_unfixed _ _ _ _ _ _ _ _ c.in-Choice.ensures _ up first (sym c.all_before.ensures ∙ c.if-not-all_before.false)
    (sym c.all_before-in-Choice.ensures ∙ in_absent)
