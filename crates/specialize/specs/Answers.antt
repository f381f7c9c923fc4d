-- The answers of a router's prefix lists to a prefix, by the places of the lists.
use Rattle.std.specs.Prelude.{◌≡◌, ℕ, Bool, false, Some, nat_eq, slice_get}
use Rattle.std.specs.declared.hash.FoldHasher.{FoldHasher}
use Rattle.std.specs.declared.hash.BuildHasherDefault.{BuildHasherDefault}
use Rattle.std.specs.HashMap.{get, HashMap}
use Rattle.std.specs.Option.{option_map_or}
use Rattle.base_kit.specs.Prefixes.{Prefix}
use Rattle.cfg_ast.specs.declared.network.Router.{Router}
use Rattle.cfg_ast.specs.declared.policy.PrefixList.{PrefixList}
use Rattle.cfg_ast.specs.meaning.PrefixLists.{prefix_list_permits}

abbrev pub KnownAnswers : Type 0
KnownAnswers = HashMap ℕ Bool (BuildHasherDefault FoldHasher)

-- the list at the place permits the prefix
abbrev pub list_answer_at : Router → Prefix → ℕ → Bool
list_answer_at router p place = option_map_or (λ (list : PrefixList). prefix_list_permits list p) (slice_get router.prefix_lists place) false

-- each answer is that of the list at its place
pub record AreAnswers (router : Router) (p : Prefix) (known : KnownAnswers) : Type 0 where
  pub each : (place : ℕ) (answer : Bool) → get nat_eq known place ≡ Some answer → answer ≡ list_answer_at router p place
