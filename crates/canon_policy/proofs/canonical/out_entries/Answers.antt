use Rattle.std.proofs.Common.{◌++◌, ◌∷◌, [], ◌∙◌, ap, sym, take, List}
use Rattle.route_maps.specs.declared.plain.PlainEntry.{PlainEntry}
use Rattle.canon_policy.specs.Canonical.{numbered_from}
use Rattle.canon_policy.specs.Made.{out_made}
use Rattle.canon_policy.proofs.Numbered.{numbered_more}
use Rattle.canon_policy.proofs.canonical.out_entries.Goals as goal

pub loop-place-preserved : goal.loop-place-preserved
loop-place-preserved c =
    c.in_ok-push.ensures.ok ∙ ap (λ (l : List PlainEntry). l ++ c.in_ok-entry.entry ∷ []) c.loop-place.invariant
    ∙ ap (λ (e : PlainEntry).
    numbered_from 1 (out_made c.args.store.now c.args.edge.now) (take c.loop-place.place c.args.settled.now) ++ e ∷ []) c.in_ok-entry.ensures
    ∙ sym (numbered_more (out_made c.args.store.now c.args.edge.now) c.args.settled.now c.loop-place.place
    c.index-settled-place.result c.loop-place-test.true c.index-settled-place.is)
