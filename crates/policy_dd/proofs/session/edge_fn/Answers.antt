use Rattle.std.proofs.Common.{subst, true, List}
use Rattle.std.specs.List.{AllByRecursion}
use Rattle.base_kit.specs.Sets.{has}
use Rattle.route_maps.specs.declared.plain.PlainEntry.{PlainEntry}
use Rattle.dd_core.specs.Sets.{value_of, Means}
use Rattle.dd_core.proofs.ShownLemmas.{grows_trans}
use Rattle.policy_dd.specs.Built.{IsCrossed}
use Rattle.policy_dd.specs.Import.{AreFit, HasAscendingChange, others_kept}
use Rattle.policy_dd.proofs.ImportLemmas.{all_fit}
use Rattle.policy_dd.proofs.MatchLemmas.{inside_kept}
use Rattle.policy_dd.proofs.RunLemmas.{map_inside_kept}
use Rattle.policy_dd.proofs.EdgeLemmas.{edge_is}
use Rattle.policy_dd.proofs.session.edge_fn.Goals as goal

pub cross-requires-clause-out : goal.cross-requires-clause-out
cross-requires-clause-out c = rw (c.as_slice-outgoing.ensures, c.in_ok-others.ensures.grows.universe) c.requires.out

pub cross-requires-clause-into : goal.cross-requires-clause-into
cross-requires-clause-into c = rw (c.as_slice-incoming.ensures, c.in_ok-others.ensures.grows.universe) c.requires.into

pub kept_beyond-requires-clause-out : goal.kept_beyond-requires-clause-out
kept_beyond-requires-clause-out c = rw (c.as_slice-outgoing.ensures, (grows_trans _ _ _ c.in_ok-others.ensures.grows c.in_ok-seen.ensures.grows).universe)
    c.requires.out

pub kept_beyond-requires-clause-into : goal.kept_beyond-requires-clause-into
kept_beyond-requires-clause-into c = rw (c.as_slice-incoming.ensures, (grows_trans _ _ _ c.in_ok-others.ensures.grows c.in_ok-seen.ensures.grows).universe)
    c.requires.into

pub joined-requires-clause-first : goal.joined-requires-clause-first
joined-requires-clause-first c = map_inside_kept _ _ _ c.in_ok-beyond.ensures.grows c.in_ok-seen.ensures.crossed.first_inside

pub joined-requires-clause-second : goal.joined-requires-clause-second
joined-requires-clause-second c = map_inside_kept _ _ _ c.in_ok-beyond.ensures.grows c.in_ok-seen.ensures.crossed.second_inside

pub joined-requires-clause-end : goal.joined-requires-clause-end
joined-requires-clause-end c = inside_kept _ _ _ c.in_ok-beyond.ensures.grows c.in_ok-seen.ensures.crossed.end_inside

pub joined-requires-clause-lps : goal.joined-requires-clause-lps
joined-requires-clause-lps c = c.in_ok-seen.ensures.crossed.second_lps.ascending

pub joined-requires-clause-adds : goal.joined-requires-clause-adds
joined-requires-clause-adds c = c.in_ok-seen.ensures.crossed.first_adds.ascending

pub returns-clause-edge : goal.returns-clause-edge
returns-clause-edge c =
    let fit : AreFit c.args.store.now.universe c.args.out.now.entries =
    all_fit c.args.store.now.universe c.args.out.now.entries c.requires.out
    (subst (λ (l : List PlainEntry). AllByRecursion HasAscendingChange l) c.as_slice-outgoing.ensures c.read_changes.ensures) in
    let fit' : AreFit c.args.store.now.universe c.args.into.now.entries =
    all_fit c.args.store.now.universe c.args.into.now.entries c.requires.into
    (subst (λ (l : List PlainEntry). AllByRecursion HasAscendingChange l) c.as_slice-incoming.ensures c.read_changes-2.ensures) in
    let seen : IsCrossed c.cross.new.store c.others.new.self.universe (λ set. value_of c.others.new.self set c.in_ok-others.others) c.args.out.now.entries
    c.args.sends c.args.into.now.entries c.in_ok-seen.seen =
    subst (λ (l : List PlainEntry). IsCrossed c.cross.new.store c.others.new.self.universe (λ set. value_of c.others.new.self set c.in_ok-others.others) l
    c.args.sends c.args.into.now.entries c.in_ok-seen.seen) c.as_slice-outgoing.ensures
    (subst (λ (l : List PlainEntry). IsCrossed c.cross.new.store c.others.new.self.universe (λ set. value_of c.others.new.self set c.in_ok-others.others)
    c.as_slice-outgoing.result.now c.args.sends l c.in_ok-seen.seen) c.as_slice-incoming.ensures c.in_ok-seen.ensures.crossed) in
    let beyond : Means c.kept_beyond.new.store c.in_ok-beyond.beyond
    (λ set. others_kept c.cross.new.store.universe c.args.out.now.entries c.args.sends c.args.into.now.entries (has set) true) =
    subst (λ (l : List PlainEntry). Means c.kept_beyond.new.store c.in_ok-beyond.beyond
    (λ set. others_kept c.cross.new.store.universe l c.args.sends c.args.into.now.entries (has set) true)) c.as_slice-outgoing.ensures
    (subst (λ (l : List PlainEntry). Means c.kept_beyond.new.store c.in_ok-beyond.beyond
    (λ set. others_kept c.cross.new.store.universe c.as_slice-outgoing.result.now c.args.sends l (has set) true)) c.as_slice-incoming.ensures
    c.in_ok-beyond.ensures.kept) in
    edge_is c.args.store.now c.others.new.self c.cross.new.store c.kept_beyond.new.store c.joined.new.store c.in_ok-others.others c.in_ok-beyond.beyond
    c.args.out.now c.args.sends c.args.into.now c.in_ok-seen.seen c.in_ok-edge.edge c.in_ok-others.ensures.grows c.in_ok-seen.ensures.grows
    c.in_ok-beyond.ensures.grows c.in_ok-edge.ensures.grows fit fit' c.in_ok-others.ensures.others seen beyond c.in_ok-edge.ensures.joined

pub returns-in_err-seen-clause-grows : goal.returns-in_err-seen-clause-grows
returns-in_err-seen-clause-grows c = grows_trans _ _ _ c.in_ok-others.ensures.grows c.in_err-seen.ensures.grows

pub returns-in_err-beyond-clause-grows : goal.returns-in_err-beyond-clause-grows
returns-in_err-beyond-clause-grows c = grows_trans _ _ _ (grows_trans _ _ _ c.in_ok-others.ensures.grows c.in_ok-seen.ensures.grows)
    c.in_err-beyond.ensures.grows

pub returns-in_err-edge-clause-grows : goal.returns-in_err-edge-clause-grows
returns-in_err-edge-clause-grows c = grows_trans _ _ _ (grows_trans _ _ _
    (grows_trans _ _ _ c.in_ok-others.ensures.grows c.in_ok-seen.ensures.grows) c.in_ok-beyond.ensures.grows) c.in_err-edge.ensures.grows

pub returns-clause-grows : goal.returns-clause-grows
returns-clause-grows c = grows_trans _ _ _ (grows_trans _ _ _
    (grows_trans _ _ _ c.in_ok-others.ensures.grows c.in_ok-seen.ensures.grows) c.in_ok-beyond.ensures.grows) c.in_ok-edge.ensures.grows
