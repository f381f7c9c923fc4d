use Rattle.std.proofs.Common.{◌≡◌, ℕ, List, [], ◌∷◌, ◌++◌, sym, ◌∙◌, ap, arith}
use Rattle.std.specs.BTreeMap.{get}
use Rattle.srp_build.specs.BgpActs.{function_order, numbers_under}
use Rattle.srp_build.proofs.ActTables.{list_noted}
use Rattle.srp_build.proofs.acts.note.Goals as goal

pub returns : goal.returns
returns c = λ q.
    let numbers : List ℕ = c.push.new.self in
    let are : numbers ≡ numbers_under c.args.index.now c.args.key ++ c.args.number ∷ [] = grind arith in
    ap (λ (index : _). get function_order index q) (c.index-3-1.given.1 (sym c.in_ok-index.ensures.same_map))
    ∙ (c.in_ok-index.ensures.update.0 numbers).0 q ∙ list_noted c.args.index.now c.args.key q c.args.number numbers are
