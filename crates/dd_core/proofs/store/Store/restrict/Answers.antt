use Rattle.std.proofs.Common.{◌≡◌, ◌∙◌, length, ap, arith, refl}
use Rattle.base_kit.specs.Sets.{has}
use Rattle.dd_core.specs.Sets.{Shown}
use Rattle.dd_core.proofs.MemoryLemmas.{memory_extends}
use Rattle.dd_core.proofs.RestrictLemmas.{restricted_means}
use Rattle.dd_core.proofs.store.Store.restrict.Goals as goal

pub invariant_of-self : goal.invariant_of-self
invariant_of-self c = record {
  store = c.in_err-place.ensures.store;
  ascending = c.self.invariant.ascending;
  within = c.in_err-place.ensures.within _ c.self.invariant.within;
  memory = memory_extends _ _ _ c.in_err-place.ensures.extends c.self.invariant.memory;
}

pub invariant_of-self-2 : goal.invariant_of-self-2
invariant_of-self-2 c = record {
  store = c.in_ok-place.ensures.store;
  ascending = c.self.invariant.ascending;
  within = c.in_ok-place.ensures.within _ c.self.invariant.within;
  memory = memory_extends _ _ _ c.in_ok-place.ensures.extends c.self.invariant.memory;
}

pub returns-clause-restrict : goal.returns-clause-restrict
returns-clause-restrict c =
    let old : Shown = record { universe = c.self.inside.universe; nodes = c.self.inside.table; memory = c.self.inside.cache } in
    let new : Shown = record { universe = c.self.inside.universe; nodes = c.restricted_node.new.table; memory = c.self.inside.cache } in
    let count : length c.self.inside.table ≡ length c.args.self.now.nodes = ap (λ (s : Shown). length s.nodes) c.self.view_is in
    let number = c.place.ensures in
    let below = c.requires.inside in
    rw (c.new.ensures, ← c.self.view_is, ← c.place.ensures) (restricted_means old new c.args.present.now c.args.absent.now c.place.result c.in_ok-place.place
    c.self.invariant (invariant_of-self-2 c) refl c.in_ok-place.ensures.extends
    (omega arith) (λ d there. ap (λ (s : Shown). has s.universe d) c.self.view_is ∙ c.requires.present d there)
    (λ d there. ap (λ (s : Shown). has s.universe d) c.self.view_is ∙ c.requires.absent d there) c.in_ok-place.ensures.restricted)
