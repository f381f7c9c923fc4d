use Rattle.std.proofs.Common.{◌≡◌, ℕ, length}
use Rattle.dd_core.specs.Store.{IsStore, Extends, IsWithin}
use Rattle.dd_core.specs.Restrict.{fixed, AreRestricted}
use Rattle.dd_core.proofs.restrict.restricted_below.Given as goal

abbrev pub invariant-loop-place : goal.invariant-loop-place
invariant-loop-place l = record {
  store : IsStore l.table;
  extends : Extends l.fn.table l.table;
  within : (bound : ℕ) → IsWithin l.fn.table bound → IsWithin l.table bound;
  size : length l.made.items ≡ l.place;
  done : AreRestricted l.table (fixed l.universe l.present l.absent) l.marked-items l.made.items;
}
