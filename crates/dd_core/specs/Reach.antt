-- Which nodes a diagram reaches, and on which communities its value depends.
use Rattle.std.specs.Prelude.{◌≡◌, ◌≢◌, ℕ, ◌≤◌, true, false, List, Some, length, slice_get}
use Rattle.base_kit.specs.Sets.{has, with_number, IsAscending}
use Rattle.dd_core.specs.declared.table.Node.{Node}
use Rattle.dd_core.specs.declared.table.Node.TheVariants.{Choice}
use Rattle.dd_core.specs.Sets.{Shown, value_of}

-- the places that are reached from one by sons, itself included
pub data IsReached (nodes : List Node) (from : ℕ) : ℕ → Type 0 where
  itself : IsReached nodes from from
  by_high : (place variable high low : ℕ) → IsReached nodes from place → slice_get nodes place ≡ Some (Choice variable high low) → IsReached nodes from high
  by_low : (place variable high low : ℕ) → IsReached nodes from place → slice_get nodes place ≡ Some (Choice variable high low) → IsReached nodes from low

-- a node with sons is reached: no constant
pub record IsChoiceReached (nodes : List Node) (from place : ℕ) : Type 0 where
  pub reached : IsReached nodes from place
  pub variable : ℕ
  pub high : ℕ
  pub low : ℕ
  pub node : slice_get nodes place ≡ Some (Choice variable high low)

-- so many nodes are reached, constants left out: those of the list, each of which is there once
pub record IsSize (nodes : List Node) (from size : ℕ) : Type 0 where
  pub places : List ℕ
  pub ascending : IsAscending places
  pub reached : (place : ℕ) → has places place ≡ true → IsChoiceReached nodes from place
  pub all : (place : ℕ) → IsChoiceReached nodes from place → has places place ≡ true
  pub count : length places ≡ size

-- on some set the value changes where the community is put in
pub record DependsOn (shown : Shown) (place community : ℕ) : Type 0 where
  pub set : List ℕ
  pub ascending : IsAscending set
  pub differ : value_of shown (with_number community set) place ≢ value_of shown set place

-- the communities of the universe on which the value depends
pub record IsSupport (shown : Shown) (place : ℕ) (support : List ℕ) : Type 0 where
  pub known : (c : ℕ) → has support c ≡ true → has shown.universe c ≡ true
  pub needed : (c : ℕ) → has support c ≡ true → DependsOn shown place c
  pub all : (c : ℕ) → has shown.universe c ≡ true → DependsOn shown place c → has support c ≡ true

-- the least community of the universe on which the value depends
pub record IsFirstOf (shown : Shown) (place c : ℕ) : Type 0 where
  pub known : has shown.universe c ≡ true
  pub needed : DependsOn shown place c
  pub least : (other : ℕ) → has shown.universe other ≡ true → DependsOn shown place other → c ≤ other

-- the value depends on no community of the universe
pub record DependsOnNone (shown : Shown) (place : ℕ) : Type 0 where
  pub none : (c : ℕ) → has shown.universe c ≡ true → DependsOn shown place c → ⊥

-- the value depends on some community outside the universe
pub record DependsOnOthers (shown : Shown) (place : ℕ) : Type 0 where
  pub community : ℕ
  pub outside : has shown.universe community ≡ false
  pub depends : DependsOn shown place community
