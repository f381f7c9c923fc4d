use Rattle.std.proofs.Common.{ap}
use Rattle.dd_cache.specs.Memory.{memory}
use Rattle.dd_cache.proofs.Entries.{put_kept}
use Rattle.dd_cache.proofs.cache.Cache.keep.Goals as goal

pub returns-clause-ok : goal.returns-clause-ok
returns-clause-ok c =
    let valid = c.len-known.ensures.valid in
    rw (c.in_ok-put.ensures.entries, ← c.self.view_is) (ap (λ es. memory c.self.inside.kept.cap es)
    (put_kept c.args.key c.self.inside.kept.cap c.args.node c.self.inside.kept.entries valid.2 valid.1))
