-- The AS numbers of the routers of a network are numbers of 32 bits, and so are those of groups.
use Rattle.std.proofs.Common.{ℕ, zero, suc, Bool, true, false, cond, ◌&&◌, not, List, [], ◌∷◌, map, arith, Option, Some, None}
use Rattle.std.specs.Prelude.{nat_eq, slice_index, IfSome}
use Rattle.std.specs.List.{AllByRecursion}
use Rattle.std.specs.Option.{option_map_or}
use Rattle.cfg_ast.specs.declared.bgp.BgpProcess.{BgpProcess}
use Rattle.cfg_ast.specs.declared.network.Router.{Router}
use Rattle.cfg_ast.specs.printing.WellFormed.{IsNumber, IsWellFormedBgp, IsWellFormedRouter}
use Rattle.srp_core.specs.ProblemOf.{as_number_of}
use Rattle.srp_core.specs.Quotient.{first_number}

of_process : (bgp : Option BgpProcess) → IfSome bgp IsWellFormedBgp → IsNumber (option_map_or (λ (process : BgpProcess). process.number) bgp 0)
of_process None is = omega arith
of_process (Some process) is = is.number.1

pub each_number : (routers : List Router) → AllByRecursion IsWellFormedRouter routers → AllByRecursion IsNumber (map as_number_of routers)
each_number [] are = tt
each_number (router ∷ routers) are = (of_process router.bgp are.0.bgp, each_number routers are.1)

pub number_at : (numbers : List ℕ) (u : ℕ) → AllByRecursion IsNumber numbers → IsNumber (slice_index numbers u)
number_at [] u each = omega arith
number_at (n ∷ numbers) zero each = each.0
number_at (n ∷ numbers) (suc u) each = number_at numbers u each.1

pub first_is_number : (numbers groups : List ℕ) (g : ℕ) → AllByRecursion IsNumber numbers → IsNumber (first_number numbers groups g)
unfolding first_number
first_is_number [] groups g each = omega arith
first_is_number (n ∷ numbers) [] g each = omega arith
first_is_number (n ∷ numbers) (group ∷ groups) g each = step (nat_eq group g && not (nat_eq n 0)) (first_is_number numbers groups g each.1)
  where
    step : (b : Bool) → IsNumber (first_number numbers groups g) → IsNumber (cond b n (first_number numbers groups g))
    step true more = each.0
    step false more = more
