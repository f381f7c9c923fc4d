use Rattle.std.proofs.Common.{◌≡◌, ◌+◌, ◌&&◌, ◌++◌, ◌∷◌, [], arith, subst, take, get_or, List, ℕ, refl}
use Rattle.std.proofs.lemmas.List.{take_more, take_all}
use Rattle.base_kit.specs.Sets.{has}
use Rattle.dd_core.specs.Sets.{value_of}
use Rattle.dd_core.proofs.ShownLemmas.{grows_refl, grows_trans, grows_inside}
use Rattle.policy_dd.specs.Tables.{IsTableGrown}
use Rattle.policy_dd.proofs.TableLemmas.{grown_none, all_keys}
use Rattle.policy_dd.proofs.tables.or_all.Goals as goal

pub loop-key-init : goal.loop-key-init
loop-key-init c = record {
  grows = grows_refl c.args.store.now;
  more = grown_none c.args.store.now c.args.cases (λ k set. has [] k && value_of c.args.store.now set c.args.node) c.requires.inside (λ k set. refl);
}

pub loop-key-preserved : goal.loop-key-preserved
loop-key-preserved c =
    let e : take (c.loop-key.key-index + 1) c.args.keys.now ≡ take c.loop-key.key-index c.args.keys.now ++ get_or c.args.keys.now c.loop-key.key-index 0 ∷ [] =
    take_more c.args.keys.now c.loop-key.key-index 0 c.loop-key-test.true in
    record {
      grows = grows_trans _ _ _ c.loop-key.invariant.grows c.in_ok-all.ensures.grows;
      more = rw e (all_keys c.args.store.now c.loop-key.store c.or_into.new.store c.args.cases c.loop-key.all c.in_ok-all.all
          (take c.loop-key.key-index c.args.keys.now) (get_or c.args.keys.now c.loop-key.key-index 0) c.args.node c.loop-key.invariant.grows
          c.requires.node_inside c.loop-key.invariant.more c.in_ok-all.ensures.more);
    }

pub or_into-requires-clause-node_inside : goal.or_into-requires-clause-node_inside
or_into-requires-clause-node_inside c = grows_inside _ _ _ c.loop-key.invariant.grows c.requires.node_inside

pub returns-clause-more : goal.returns-clause-more
returns-clause-more c =
    let e : take c.loop-key.key-index c.args.keys.now ≡ c.args.keys.now = take_all c.loop-key.key-index c.args.keys.now (omega arith) in
    subst (λ (l : List ℕ). IsTableGrown c.args.store.now c.loop-key.store c.args.cases c.loop-key.all l
    (λ k set. has l k && value_of c.args.store.now set c.args.node)) e c.loop-key.invariant.more

pub returns-in_err-all-clause-grows : goal.returns-in_err-all-clause-grows
returns-in_err-all-clause-grows c = grows_trans _ _ _ c.loop-key.invariant.grows c.in_err-all.ensures.grows
