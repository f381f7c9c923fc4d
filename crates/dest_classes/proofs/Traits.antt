-- Prefixes in groups by their originators and by what prefix lists answer.
use Rattle.std.proofs.Common.{Bool, ◌&&◌, List, [], ◌∷◌, ◌++◌, cond}
use Rattle.std.specs.Bool.{beq}
use Rattle.base_kit.specs.Prefixes.{Prefix}
use Rattle.cfg_ast.specs.declared.classes.DestClass.{DestClass}
use Rattle.cfg_ast.specs.declared.classes.Origin.{Origin}
use Rattle.cfg_ast.specs.declared.network.Network.{Network}
use Rattle.cfg_ast.specs.declared.policy.PrefixList.{PrefixList}
use Rattle.cfg_ast.specs.meaning.Classes.{same_items, same_origin, origins_of}
use Rattle.dest_classes.specs.Lists.{answers_to}

-- the originators of a prefix with their initial routes, and what the prefix lists answer
pub record Traits : Type 0 where
  pub origins : List Origin
  pub answers : List Bool

abbrev pub same_traits : Traits → Traits → Bool
same_traits a b = same_items same_origin a.origins b.origins && same_items beq a.answers b.answers

abbrev pub traits_of : Network → List PrefixList → Prefix → Traits
traits_of network lists p = record { origins = origins_of network p; answers = answers_to lists p }

-- a group: its traits, and its prefixes
pub record Likes : Type 0 where
  pub traits : Traits
  pub prefixes : List Prefix

-- a prefix put with those of its traits, or into a new group at the end
abbrev pub with_like : Traits → Prefix → List Likes → List Likes
with_like traits p [] = record { traits = traits; prefixes = p ∷ [] } ∷ []
with_like traits p (group ∷ groups) = cond (same_traits traits group.traits) (record group { prefixes = group.prefixes ++ p ∷ [] } ∷ groups)
    (group ∷ with_like traits p groups)

-- the same for all prefixes in turn, each with its originators
abbrev pub with_likes : List PrefixList → List (Prefix × List Origin) → List Likes → List Likes
with_likes lists [] groups = groups
with_likes lists ((p, origins) ∷ rest) groups = with_likes lists rest (with_like (record { origins = origins; answers = answers_to lists p }) p groups)

abbrev pub class_of_likes : Likes → DestClass
class_of_likes group = record { prefixes = group.prefixes; origins = group.traits.origins }
