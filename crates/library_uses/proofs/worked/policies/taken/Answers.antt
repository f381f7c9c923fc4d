-- The in map names only communities of the universe of the store.
use Rattle.std.proofs.Common.{ℕ, List, None, Some, true, sym, subst}
use Rattle.cfg_ast.specs.meaning.PolicyFaults.{communities_of}
use Rattle.route_maps.specs.Within.{IsMapWithin}
use Rattle.library_uses.proofs.worked.policies.taken.Goals as goal

pub edge_fn-requires-clause-into : goal.edge_fn-requires-clause-into
edge_fn-requires-clause-into c =
    let n = c.args.net.now.network in
    let within = c.maps_stay_within.ensures n c.args.router.now c.requires.router (Some c.args.map.now) None c.args.p true in
    subst (λ (u : List ℕ). IsMapWithin u c.in_ok-into.into) (sym c.requires.known)
    (subst (IsMapWithin (communities_of n)) (sym c.in_ok-into.ensures.plain) within)
