use Rattle.std.proofs.Common.{ap}
use Rattle.dd_cache.specs.Memory.{memory}
use Rattle.dd_cache.proofs.Entries.{promoted_recalled}
use Rattle.dd_cache.proofs.cache.Cache.recall.Goals as goal

pub returns-clause-front : goal.returns-clause-front
returns-clause-front c =
    rw (c.promote.ensures.entries, ← c.self.view_is) (ap (λ es. memory c.self.inside.kept.cap es) (promoted_recalled c.args.key c.self.inside.kept.entries))
