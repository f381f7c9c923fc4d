use Rattle.std.proofs.Common.{◌≡◌, ℕ, cond, List, [], ◌∷◌, ◌++◌, Option, Some, Vec, refl, sym, ◌∙◌, ap, subst}
use Rattle.std.specs.Option.{IsSome}
use Rattle.std.specs.HashMap.{get}
use Rattle.std.specs.declared.alloc.Global.{Global}
use Rattle.base_kit.specs.Pairs.{same_pair}
use Rattle.buckets.specs.Buckets.{Index}
use Rattle.buckets.proofs.PushedItems.{put, put_back, where_refused}
use Rattle.buckets.proofs.index.push_at.Goals as goal

pub returns-in_err-push : goal.returns-in_err-push
returns-in_err-push g c =
    let left = c.push.new.self in
    let found = subst (λ (o : Option (Vec g.row.T.Denot Global)). IsSome o) c.in-Some.ensures.value refl in
    where_refused _ c.from_residual.result c.from_residual.ensures.0
    (put_back c.args.index.now (c.get_mut.follows.lender left) c.args.pair c.in-Some.items.now left (sym c.in-Some.ensures.value)
    ((c.get_mut.follows.holds left).3 found).0 c.in_err-push.ensures.items)

pub returns : goal.returns
returns g c =
    let is : c.get_mut.follows.lender-at-none ≡ c.args.index.now = c.get_mut.follows.holds-at-none in
    put c.args.index.now c.insert.new.self c.args.pair c.push-2.new.self c.args.item (sym c.in_default.ensures.value)
    (subst (λ (m : Index g.row.T.Denot). (q : ℕ × ℕ) → get same_pair c.insert.new.self q
    ≡ cond (same_pair c.args.pair q) (Some c.push-2.new.self) (get same_pair m q)) is c.in_ok-insert.ensures.updates.0)
    (c.in_ok-push-2.ensures.items ∙ ap (λ (l : List g.row.T.Denot). l ++ c.args.item ∷ []) c.new-items.ensures.items)
