use Rattle.std.proofs.Common.{◌≡◌, ℕ, Bool, List, drop}
use Rattle.dd_core.specs.Sets.{Grows, Means}
use Rattle.canon_policy.specs.declared.fixing.Fixing.{Fixing}
use Rattle.canon_policy.specs.Fixings.{Part, agreeing, unsettled, first_unsettled}
use Rattle.canon_policy.specs.Hanging.{TestHangsOn, PartsHangOn}
use Rattle.canon_policy.specs.Nodes.{ArePartsTold}
use Rattle.canon_policy.proofs.parts.first_unsettled.Given as goal

abbrev pub invariant-loop-part : goal.invariant-loop-part
invariant-loop-part l = record {
  grows : Grows l.fn.store l.store;
  settled : (kept : List ℕ → Bool) (fixing : Fixing) (asked : List Part) → TestHangsOn l.fn.store.universe kept → PartsHangOn l.fn.store.universe asked
      → Means l.fn.store l.rest (λ set. kept (agreeing fixing set)) → ArePartsTold l.fn.store fixing l.parts asked
      → first_unsettled (unsettled l.fn.store.universe kept fixing) (drop l.part-index asked)
      ≡ first_unsettled (unsettled l.fn.store.universe kept fixing) asked;
}
