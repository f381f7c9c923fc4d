use Rattle.std.proofs.Common.{◌≡◌, arith, ap, length, List, ℕ, sym, ◌∙◌}
use Rattle.dd_core.specs.Sets.{Shown}
use Rattle.dd_core.specs.Marks.{is_marked}
use Rattle.dd_core.proofs.MarkLemmas.{read_mark}
use Rattle.dd_core.proofs.SupportLemmas.{others_needed, others_all}
use Rattle.dd_core.proofs.store.Store.needs_others.Goals as goal

pub returns-clause-needed : goal.returns-clause-needed
returns-clause-needed c =
    let count : length c.self.inside.table ≡ length c.args.self.now.nodes = ap (λ (s : Shown). length s.nodes) c.self.view_is in
    let number = c.place.ensures in
    let below = c.requires in
    let last = ap (λ (l : List ℕ). length l) c.as_slice-others.ensures.all in
    let size = c.in_ok-used.ensures.total in
    let read : is_marked c.in_ok-used.used.items (length c.self.inside.universe) ≡ c.index.result.now = ap (is_marked c.in_ok-used.used.items) (sym last)
    ∙ read_mark c.in_ok-used.used.items _ c.index.result.now (omega arith) c.index.ensures in
    rw (← c.self.view_is, ← c.place.ensures) (λ yes. others_needed _ c.self.invariant c.place.result c.in_ok-used.used.items (omega arith) c.in_ok-used.ensures
    (read ∙ yes))

pub returns-clause-all : goal.returns-clause-all
returns-clause-all c =
    let count : length c.self.inside.table ≡ length c.args.self.now.nodes = ap (λ (s : Shown). length s.nodes) c.self.view_is in
    let number = c.place.ensures in
    let below = c.requires in
    let last = ap (λ (l : List ℕ). length l) c.as_slice-others.ensures.all in
    let size = c.in_ok-used.ensures.total in
    let read : is_marked c.in_ok-used.used.items (length c.self.inside.universe) ≡ c.index.result.now = ap (is_marked c.in_ok-used.used.items) (sym last)
    ∙ read_mark c.in_ok-used.used.items _ c.index.result.now (omega arith) c.index.ensures in
    rw (← c.self.view_is, ← c.place.ensures) (λ d. others_all _ c.self.invariant c.place.result c.in_ok-used.used.items (omega arith) c.in_ok-used.ensures
    c.index.result.now read d)
