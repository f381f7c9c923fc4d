use Rattle.dd_core.proofs.ShownLemmas.{ite_of_sets}
use Rattle.dd_core.proofs.store.Store.ite.Goals as goal

pub returns-clause-ite : goal.returns-clause-ite
returns-clause-ite c =
    rw (c.new.ensures, ← c.self.view_is, ← c.place.ensures, ← c.place-2.ensures, ← c.place-3.ensures)
    (ite_of_sets c.self.inside.universe _ _ _ _ _ _ _ _ c.in_ok-place.ensures.ite)
