-- The names of the members and of the routers that are read.
use Rattle.std.proofs.Common.{◌≡◌, ℕ, List, sym, ap, ◌∙◌}
use Rattle.std.specs.Prelude.{map, slice_index_or, []}
use Rattle.std.specs.List.{range_with_len}
use Rattle.base_kit.specs.Partition.{members_of}
use Rattle.base_kit.specs.Prefixes.{Prefix}
use Rattle.cfg_ast.specs.declared.network.Router.{Router}
use Rattle.srp_core.specs.ProblemOf.{IsProblemOf}
use Rattle.srp_quotient.specs.Groups.{quotient_problem, first_member}
use Rattle.cfg_ast.specs.declared.network.Network.{Network}
use Rattle.config_emit.specs.Plan.{Plan, small}
use Rattle.config_emit.specs.Emitted.{notes_of}
use Rattle.compress_laws.specs.Compressed.{names_of_groups, names_of_first_members}

pub names_noted : (e : Plan) (p : Prefix) → IsProblemOf e.network p e.problem → (notes_of e).members ≡ names_of_groups e.network e.groups e.count
unfolding notes_of
names_noted e p of = ap (λ (names : List (List ℕ)). map (λ (g : ℕ). map (λ (u : ℕ). slice_index_or names u []) (members_of e.groups g))
    (range_with_len 0 e.count)) of.names

pub names_read : (e : Plan) (p : Prefix) (read : Network) → IsProblemOf e.network p e.problem → IsProblemOf read p (small e)
    → map (λ (r : Router). r.name) read.routers ≡ names_of_first_members e.network e.groups e.count
unfolding quotient_problem
names_read e p read of of_read =
    sym of_read.names ∙ ap (λ (names : List (List ℕ)). map (λ (g : ℕ). slice_index_or names (first_member e.groups g) []) (range_with_len 0 e.count)) of.names
