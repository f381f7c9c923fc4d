use Rattle.shared_routes.proofs.paths.SharedPath.copy.Goals as goal

pub joined-requires : goal.joined-requires
joined-requires c = c.in_ok-rest.ensures.follows _ (rw (c.in_ok-own.ensures.items, c.as_slice.ensures.value) c.self.invariant.follows)
