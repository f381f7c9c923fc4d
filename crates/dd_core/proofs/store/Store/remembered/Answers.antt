use Rattle.std.proofs.Common.{sym, ◌∙◌}
use Rattle.dd_core.specs.Sets.{op_key}
use Rattle.dd_core.proofs.MemoryLemmas.{memory_hit}
use Rattle.dd_core.proofs.ShownLemmas.{ite_of_sets}
use Rattle.dd_core.proofs.store.Store.remembered.Goals as goal

pub returns-clause-right : goal.returns-clause-right
returns-clause-right c =
    rw (c.new.ensures, ← c.self.view_is, ← c.place.ensures, ← c.place-2.ensures, ← c.place-3.ensures)
    (ite_of_sets c.self.inside.universe _ _ _ _ _ _ _ _ (memory_hit _ _ (op_key c.place.result c.place-2.result c.place-3.result) _ c.self.invariant.memory
    (sym c.look.ensures ∙ c.in_ok-place.was)))
