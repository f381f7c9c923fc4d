use Rattle.std.proofs.Common.{◌≡◌, ℕ, ◌<◌, length, ap, arith, Option, Some, None, ◌≤◌}
use Rattle.std.specs.Prelude.{MatchOption, slice_get}
use Rattle.base_kit.specs.declared.ids.Community.{Community}
use Rattle.dd_core.specs.declared.table.Node.TheVariants.{Choice}
use Rattle.dd_core.specs.Sets.{Shown, IsShown}
use Rattle.dd_core.specs.Reach.{IsFirstOf, DependsOnNone}
use Rattle.dd_core.specs.Restrict.{StandsAs}
use Rattle.dd_core.proofs.FirstLemmas.{constant_needs_none, others_needs_none, first_is}
use Rattle.dd_core.proofs.store.Store.first.Goals as goal

found : (shown : Shown) → IsShown shown → (from v high low : ℕ) → from < length shown.nodes → slice_get shown.nodes from ≡ Some (Choice v high low)
    → (r : Option Community) → MatchOption r (length shown.universe ≤ v) (λ c. StandsAs shown.universe c.0 v)
    → MatchOption r (DependsOnNone shown from) (λ c. IsFirstOf shown from c.0)
found shown is from v high low inside at None past = others_needs_none shown is from inside v high low at past
found shown is from v high low inside at (Some c) stands = first_is shown is from inside v high low c.0 at stands

pub returns-in-Constant : goal.returns-in-Constant
returns-in-Constant c =
    let count : length c.self.inside.table ≡ length c.args.self.now.nodes = ap (λ (s : Shown). length s.nodes) c.self.view_is in
    let below = c.requires in
    let number = c.place.ensures in
    rw (← c.self.view_is, ← c.place.ensures) (constant_needs_none _ c.self.invariant c.place.result (omega arith) _ c.in-Constant.ensures)

pub returns-in-Choice : goal.returns-in-Choice
returns-in-Choice c =
    let count : length c.self.inside.table ≡ length c.args.self.now.nodes = ap (λ (s : Shown). length s.nodes) c.self.view_is in
    let below = c.requires in
    let number = c.place.ensures in
    rw (← c.self.view_is, ← c.place.ensures) (found _ c.self.invariant c.place.result _ _ _ (omega arith) c.in-Choice.ensures _ c.community_at.ensures)
