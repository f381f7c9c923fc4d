use Rattle.std.proofs.Common.{ℕ, ◌&&◌, Option, ap, sym, ◌∙◌, nat_eq}
use Rattle.std.specs.Prelude.{if◌then◌else◌}
use Rattle.std.specs.HashMap as map
use Rattle.srp_quotient.specs.Groups.{or_else}
use Rattle.base_kit.specs.Pairs.{same_pair}
use Rattle.solution_lift.proofs.edges.keep.Goals as goal

pub returns-in_ok-insert : goal.returns-in_ok-insert
returns-in_ok-insert c = λ g h.
    c.in_ok-insert.ensures.updates.0 (g, h)
    ∙ ap (λ (o : Option ℕ). if nat_eq c.args.into g && nat_eq c.args.from h then or_else o (map.get same_pair c.args.lasts.now (g, h))
    else map.get same_pair c.args.lasts.now (g, h)) (sym c.in-Some.is)
