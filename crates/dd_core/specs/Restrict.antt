-- Sets of which some communities are known (Bryant 1986, section 4.4: restriction of a variable).
use Rattle.std.specs.Prelude.{◌≡◌, ℕ, ◌<◌, Bool, true, false, not, List, Option, Some, None, length, filter, nat_lt, slice_index, slice_get, if◌then◌else◌}
use Rattle.std.specs.List.{slice_index_or}
use Rattle.std.specs.Option.{unwrap_or}
use Rattle.base_kit.specs.Sets.{has, with_numbers}
use Rattle.dd_core.specs.declared.table.Node.{Node}
use Rattle.dd_core.specs.declared.table.Node.TheVariants.{Choice}
use Rattle.dd_core.specs.Value.{value}
use Rattle.dd_core.specs.Store.{IsAbove}
use Rattle.dd_core.specs.Marks.{is_marked}

-- all communities of the one set are in the other
abbrev pub IsPartOf : List ℕ → List ℕ → Type 0
IsPartOf whole part = (c : ℕ) → has part c ≡ true → has whole c ≡ true

-- the set with communities put in, and then others taken out
abbrev pub restricted : List ℕ → List ℕ → List ℕ → List ℕ
restricted present absent set = filter (λ c. not (has absent c)) (with_numbers present set)

-- the community is the variable
pub record StandsAs (universe : List ℕ) (c variable : ℕ) : Type 0 where
  pub inside : variable < length universe
  pub there : slice_index universe variable ≡ c

-- the value that a variable has on all such sets, if it has one
abbrev pub fixed : List ℕ → List ℕ → List ℕ → ℕ → Option Bool
fixed universe present absent variable =
    if nat_lt variable (length universe) then
    (if has absent (slice_index universe variable) then Some false else
    (if has present (slice_index universe variable) then Some true else None))
    else None

-- a test of variables, of which some have fixed values
abbrev pub fixed_test : (ℕ → Option Bool) → (ℕ → Bool) → ℕ → Bool
fixed_test fix test variable = unwrap_or (fix variable) (test variable)

-- the node has the value of the place where some variables are fixed
pub record IsRestricted (nodes : List Node) (fix : ℕ → Option Bool) (place node : ℕ) : Type 0 where
  pub inside : node < length nodes
  pub value : (test : ℕ → Bool) → value nodes test node ≡ value nodes (fixed_test fix test) place
  pub above : (variable : ℕ) → IsAbove nodes variable place → IsAbove nodes variable node

-- the sons of the place have such nodes
pub record AreSonsRestricted (nodes : List Node) (fix : ℕ → Option Bool) (made : List ℕ) (place : ℕ) : Type 0 where
  pub high_inside : (variable high low : ℕ) → slice_get nodes place ≡ Some (Choice variable high low) → high < length made
  pub low_inside : (variable high low : ℕ) → slice_get nodes place ≡ Some (Choice variable high low) → low < length made
  pub high_is : (variable high low : ℕ) → slice_get nodes place ≡ Some (Choice variable high low) → IsRestricted nodes fix high (slice_index_or made high 0)
  pub low_is : (variable high low : ℕ) → slice_get nodes place ≡ Some (Choice variable high low) → IsRestricted nodes fix low (slice_index_or made low 0)

-- the marked places have such nodes
pub record AreRestricted (nodes : List Node) (fix : ℕ → Option Bool) (marks : List Bool) (made : List ℕ) : Type 0 where
  pub each : (place : ℕ) → place < length made → is_marked marks place ≡ true → IsRestricted nodes fix place (slice_index_or made place 0)
