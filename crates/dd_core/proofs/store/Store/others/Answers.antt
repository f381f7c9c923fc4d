use Rattle.std.proofs.Common.{ap, length, List, ℕ, arith}
use Rattle.dd_core.proofs.MemoryLemmas.{memory_extends}
use Rattle.dd_core.proofs.ShownLemmas.{others_means}
use Rattle.dd_core.proofs.store.Store.others.Goals as goal

pub invariant_of-self : goal.invariant_of-self
invariant_of-self c =
    let last = ap (λ (l : List ℕ). length l) c.as_slice-variable.ensures.all in
    record {
      store = c.in_err-place.ensures.store;
      ascending = c.self.invariant.ascending;
      within = c.in_err-place.ensures.within _ (omega arith) c.self.invariant.within;
      memory = memory_extends _ _ _ c.in_err-place.ensures.extends c.self.invariant.memory;
    }

pub invariant_of-self-2 : goal.invariant_of-self-2
invariant_of-self-2 c =
    let last = ap (λ (l : List ℕ). length l) c.as_slice-variable.ensures.all in
    record {
      store = c.in_ok-place.ensures.store;
      ascending = c.self.invariant.ascending;
      within = c.in_ok-place.ensures.within _ (omega arith) c.self.invariant.within;
      memory = memory_extends _ _ _ c.in_ok-place.ensures.extends c.self.invariant.memory;
    }

pub returns-clause-others : goal.returns-clause-others
returns-clause-others c =
    rw (c.new.ensures, ← c.self.view_is) (others_means c.self.inside.universe c.self.inside.table c.choice.new.table c.self.inside.cache _ _
    c.self.invariant.store c.in_ok-place.ensures.choice (ap (λ (l : List ℕ). length l) c.as_slice-variable.ensures.all))
