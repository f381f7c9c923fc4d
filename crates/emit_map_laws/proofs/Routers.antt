-- The routers of the network of the groups are well-formed.
use Rattle.std.proofs.Common.{◌≡◌, ℕ, ◌+◌, ◌<◌, subst, arith}
use Rattle.std.specs.List.{range_with_len}
use Rattle.base_kit.proofs.Elements.{In, in_map, in_range}
use Rattle.cfg_ast.specs.printing.WellFormed.{IsWellFormed, IsWellFormedRouter}
use Rattle.config_emit.specs.Emitted.{emitted, emitted_router}
use Rattle.config_emit.specs.Plan.{Plan}
use Rattle.emit_form_laws.proofs.Origins.{router_forms}

emitted_in : (e : Plan) (g : ℕ) → g < e.count → In (emitted e).routers (emitted_router e g)
unfolding emitted
emitted_in e g below = in_map (emitted_router e) (range_with_len 0 e.count) g
    (let same : 0 + g ≡ g = omega arith in subst (In (range_with_len 0 e.count)) same (in_range 0 e.count g below))

pub well_formed_router : (e : Plan) → IsWellFormed (emitted e) → (g : ℕ) → g < e.count → IsWellFormedRouter (emitted_router e g)
well_formed_router e well g below = router_forms (emitted e) well (emitted_router e g) (emitted_in e g below)
