use Rattle.std.proofs.Common.{◌≡◌, ℕ, ◌<◌, get_or, slice_get, Some}
use Rattle.srp_build.specs.declared.acts.BgpAct.{BgpAct}
use Rattle.srp_build.specs.BgpActs.{AreTwoImports}
use Rattle.srp_build.proofs.acts.like_among.Given as goal

abbrev pub invariant-loop-number : goal.invariant-loop-number
invariant-loop-number l = (k : ℕ) → k < l.number-index → (act : BgpAct) → slice_get l.acts (get_or l.numbers k 0) ≡ Some act →
    AreTwoImports l.store l.function act.function
