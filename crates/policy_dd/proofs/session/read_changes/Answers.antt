use Rattle.std.proofs.Common.{◌≡◌, ◌+◌, ◌++◌, ◌∷◌, [], ◌∙◌, List, take, ap, sym, arith, subst}
use Rattle.std.proofs.lemmas.List.{take_more, take_all}
use Rattle.std.specs.List.{AllByRecursion}
use Rattle.route_maps.specs.declared.plain.PlainEntry.{PlainEntry}
use Rattle.policy_dd.specs.Import.{HasAscendingChange}
use Rattle.policy_dd.proofs.ImportLemmas.{all_push}
use Rattle.policy_dd.proofs.session.read_changes.Goals as goal

pub loop-entry-preserved : goal.loop-entry-preserved
loop-entry-preserved c =
    let e : take (c.loop-entry.entry-index + 1) c.args.entries.now ≡ take c.loop-entry.entry-index c.args.entries.now ++ c.entry-item.result ∷ [] =
    take_more c.args.entries.now c.loop-entry.entry-index c.entry-item.result c.loop-entry-test.true
    ∙ ap (λ (x : PlainEntry). take c.loop-entry.entry-index c.args.entries.now ++ x ∷ []) (sym c.entry-item.is) in
    rw e (all_push HasAscendingChange (take c.loop-entry.entry-index c.args.entries.now) c.entry-item.result c.loop-entry.invariant c.read_change.ensures)

pub returns : goal.returns
returns c = subst (λ (l : List PlainEntry). AllByRecursion HasAscendingChange l) (take_all c.loop-entry.entry-index c.args.entries.now (omega arith))
    c.loop-entry.invariant
