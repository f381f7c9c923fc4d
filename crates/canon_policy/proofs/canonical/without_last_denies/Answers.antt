use Rattle.std.proofs.Common.{◌∙◌, ◌-◌, ℕ, ap, sym, subst, Bool}
use Rattle.std.specs.Prelude.{remove}
use Rattle.canon_policy.specs.Canonical.{without_last_denies}
use Rattle.canon_policy.specs.Made.{EndsInDeny}
use Rattle.canon_policy.proofs.LastDenies.{without_removed, none_to_drop}
use Rattle.canon_policy.proofs.canonical.without_last_denies.Goals as goal

pub loop-entries-preserved : goal.loop-entries-preserved
loop-entries-preserved c =
    let ends = subst (λ (b : Bool). EndsInDeny c.loop-entries.entries b) c.loop-entries-test.true c.ends_in_deny.ensures in
    ap without_last_denies (c.remove-deny.ensures.rest ∙ ap (λ (n : ℕ). remove c.loop-entries.entries (n - 1)) c.len.ensures)
    ∙ without_removed c.loop-entries.entries ends ∙ c.loop-entries.invariant

pub loop-entries-preserved-in-loop-entries : goal.loop-entries-preserved-in-loop-entries
loop-entries-preserved-in-loop-entries c =
    let ends = subst (λ (b : Bool). EndsInDeny c.loop-entries.entries b) c.loop-entries-test.true c.ends_in_deny.ensures in
    ap without_last_denies (c.remove-deny.ensures.rest ∙ ap (λ (n : ℕ). remove c.loop-entries.entries (n - 1)) c.len.ensures)
    ∙ without_removed c.loop-entries.entries ends ∙ c.loop-entries.invariant

pub returns : goal.returns
returns c =
    let permits = subst (λ (b : Bool). EndsInDeny c.loop-entries.entries b) c.loop-entries-test.false c.ends_in_deny.ensures in
    sym (none_to_drop c.loop-entries.entries permits) ∙ c.loop-entries.invariant
