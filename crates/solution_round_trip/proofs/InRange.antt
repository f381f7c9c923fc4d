-- The labels of every stable solution are in range.
use Rattle.std.proofs.Common.{sym, subst}
use Rattle.std.specs.List.{AllByRecursion}
use Rattle.base_kit.specs.Prefixes.{Prefix}
use Rattle.cfg_ast.specs.declared.network.Network.{Network}
use Rattle.cfg_ast.specs.printing.WellFormed.{IsNumber}
use Rattle.cfg_ast.specs.text.Reading.{IsGiven}
use Rattle.given_laws.proofs.WellFormed.{given_is_well_formed, given_routers_are_well_formed}
use Rattle.srp_core.specs.Problem.{Problem}
use Rattle.srp_core.specs.ProblemOf.{IsProblemOf}
use Rattle.solution_round_trip.specs.Laws.{StableIsInRange, StableOfGroupsIsInRange}
use Rattle.solution_round_trip.proofs.NetworkRange.{network_range, numbers_range}
use Rattle.solution_round_trip.proofs.QuotientRange.{quotient_range}
use Rattle.solution_round_trip.proofs.StableRange.{HasRange, stable_range}

problem_range : (n : Network) → ∥ IsGiven n ∥₁ → (p : Prefix) (P : Problem) → IsProblemOf n p P → HasRange P
problem_range n given p P of = network_range n p P (given_is_well_formed n given).routers (given_routers_are_well_formed n given) of

problem_numbers : (n : Network) → ∥ IsGiven n ∥₁ → (p : Prefix) (P : Problem) → IsProblemOf n p P → AllByRecursion IsNumber P.numbers
problem_numbers n given p P of = subst (AllByRecursion IsNumber) (sym of.numbers) (numbers_range n.routers (given_is_well_formed n given).routers)

pub stable_is_in_range : StableIsInRange
stable_is_in_range n given p P labels of stable = stable_range P of.rules (problem_range n given p P of) labels stable

pub stable_of_groups_is_in_range : StableOfGroupsIsInRange
stable_of_groups_is_in_range n given p P small groups labels of rules quotient stable =
    stable_range small rules (quotient_range P small groups (problem_numbers n given p P of) (problem_range n given p P of) rules quotient) labels stable
