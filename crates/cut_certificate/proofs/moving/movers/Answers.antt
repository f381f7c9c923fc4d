use Rattle.std.proofs.Common.{rules, nat_eq}
use Rattle.std.proofs.lemmas.Fn.{filter_same}
use Rattle.std.proofs.lemmas.List.Filters.{dedup_is}
use Rattle.cut_certificate.proofs.Movers.{movers_kept}
use Rattle.cut_certificate.proofs.moving.movers.Goals as goal

pub returns : goal.returns
returns c =
    rw (dedup_is nat_eq _ _ c.dedup.ensures.filtered)
    (movers_kept _ _ _ _ _ _ _ _ c.in_ok-movers.ensures (filter_same _ _ _ (λ x b f' k. search rules) _ _ c.retain.ensures.filtered)
    c.in_ok-sort.ensures.permutation)
