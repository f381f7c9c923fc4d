-- Fixings: what is known about a set of communities. The parts of a function are asked in order, each
-- until it is settled on all sets that agree; a community on which it still depends is fixed next.
use Rattle.std.specs.Prelude.{ℕ, zero, suc, Bool, not, ◌&&◌, List, [], ◌∷◌, ◌++◌, Option, None, map, find, nat_eq, if◌then◌else◌}
use Rattle.std.specs.Bool.{beq}
use Rattle.std.specs.List.{list_any, list_all}
use Rattle.std.specs.Option.{option_or, option_map_or}
use Rattle.base_kit.specs.Sets.{has, with_number, without_number}
use Rattle.dd_core.specs.Restrict.{restricted}
use Rattle.canon_policy.specs.declared.fixing.Fixing.{Fixing}

-- a part of a function: a number for each set, or whether a community is in the result
pub data Part : Type 0 where
  number : (List ℕ → ℕ) → Part
  community : ℕ → (List ℕ → Bool) → Part

-- acceptance, whether communities outside the universe are kept, and the parts that are asked where all
-- sets that agree are accepted
pub record Asked : Type 0 where
  pub accepted : List ℕ → Bool
  pub kept : List ℕ → Bool
  pub parts : List Part

abbrev pub nothing_fixed : Fixing
nothing_fixed = record { present = []; absent = [] }

abbrev pub with_present : ℕ → Fixing → Fixing
with_present c fixing = record fixing { present = with_number c fixing.present }

abbrev pub with_absent : ℕ → Fixing → Fixing
with_absent c fixing = record fixing { absent = with_number c fixing.absent }

-- the set made to agree: what is present put in, and what is absent taken out
abbrev pub agreeing : Fixing → List ℕ → List ℕ
agreeing fixing set = restricted fixing.present fixing.absent set

-- all sets of communities of the universe
unfoldable pub sets_of : List ℕ → List (List ℕ)
sets_of [] = [] ∷ []
sets_of (c ∷ cs) = map (λ (set : List ℕ). c ∷ set) (sets_of cs) ++ sets_of cs

-- on two sets that differ only in the community, the part has different values
abbrev pub differs : (List ℕ → ℕ) → ℕ → List ℕ → Bool
differs part c set = not (nat_eq (part (with_number c set)) (part (without_number c set)))

unfoldable pub depends : List ℕ → (List ℕ → ℕ) → ℕ → Bool
depends universe part c = list_any (differs part c) (sets_of universe)

-- the least community of the universe on which the part depends
unfoldable pub least : List ℕ → (List ℕ → ℕ) → Option ℕ
least universe part = find (depends universe part) universe

abbrev pub yes : Bool → ℕ
yes b = if b then 1 else 0

-- on all sets that agree, the community is in the result exactly if the set has it
unfoldable pub follows : List ℕ → Fixing → ℕ → (List ℕ → Bool) → Bool
follows universe fixing c test = list_all (λ set. beq (test (agreeing fixing set)) (has (agreeing fixing set) c)) (sets_of universe)

-- The least community on which a part depends on the sets that agree, if the part is not settled there.
-- A part is settled if it has one value. If communities outside the universe are kept, a community of
-- the universe is also settled if it is in the result exactly when it is in the set.
abbrev pub unsettled : List ℕ → (List ℕ → Bool) → Fixing → Part → Option ℕ
unsettled universe kept fixing (number part) = least universe (λ set. part (agreeing fixing set))
unsettled universe kept fixing (community c test) =
    if kept (agreeing fixing []) && follows universe fixing c test then None else least universe (λ set. yes (test (agreeing fixing set)))

abbrev pub first_unsettled : (Part → Option ℕ) → List Part → Option ℕ
first_unsettled ask [] = None
first_unsettled ask (part ∷ parts) = option_or (ask part) (first_unsettled ask parts)

-- The community by which a fixing is split: the least on which the first unsettled part depends.
-- Acceptance comes first. If no set that agrees is accepted, nothing else is asked.
unfoldable pub split : List ℕ → Asked → Fixing → Option ℕ
split universe asked fixing =
    option_or (least universe (λ set. yes (asked.accepted (agreeing fixing set))))
    (if asked.accepted (agreeing fixing []) then first_unsettled (unsettled universe asked.kept fixing) asked.parts else None)

-- The settled fixings that a fixing is split into, those with the community present first. Each split
-- fixes one more, so the number of communities of the universe bounds how deep splits go.
unfoldable pub settled : ℕ → (Fixing → Option ℕ) → Fixing → List Fixing
settled zero by fixing = fixing ∷ []
settled (suc depth) by fixing =
    option_map_or (λ c. settled depth by (with_present c fixing) ++ settled depth by (with_absent c fixing)) (by fixing) (fixing ∷ [])
