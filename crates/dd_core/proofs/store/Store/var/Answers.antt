use Rattle.std.proofs.Common.{arith}
use Rattle.dd_core.proofs.MemoryLemmas.{memory_extends}
use Rattle.dd_core.proofs.ShownLemmas.{var_means}
use Rattle.dd_core.proofs.store.Store.var.Goals as goal

pub invariant_of-self : goal.invariant_of-self
invariant_of-self c =
    let inside = c.place_of-variable.ensures.inside in
    record {
      store = c.in_err-place.ensures.store;
      ascending = c.self.invariant.ascending;
      within = c.in_err-place.ensures.within _ (omega arith) c.self.invariant.within;
      memory = memory_extends _ _ _ c.in_err-place.ensures.extends c.self.invariant.memory;
    }

pub invariant_of-self-2 : goal.invariant_of-self-2
invariant_of-self-2 c =
    let inside = c.place_of-variable.ensures.inside in
    record {
      store = c.in_ok-place.ensures.store;
      ascending = c.self.invariant.ascending;
      within = c.in_ok-place.ensures.within _ (omega arith) c.self.invariant.within;
      memory = memory_extends _ _ _ c.in_ok-place.ensures.extends c.self.invariant.memory;
    }

pub returns-clause-var : goal.returns-clause-var
returns-clause-var c =
    rw c.new.ensures (var_means c.self.inside.universe c.self.inside.table c.choice.new.table c.self.inside.cache _ c.args.community.0 _ c.self.invariant.store
    c.in_ok-place.ensures.choice c.place_of-variable.ensures.inside c.place_of-variable.ensures.there)
