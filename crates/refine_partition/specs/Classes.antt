-- Routers in classes by the acts of their edges into one block.
use Rattle.std.specs.Prelude.{◌≡◌, ◌≢◌, ℕ, ◌+◌, ◌<◌, ◌≤◌, List, [], ◌∷◌, ◌++◌, length, slice_index, All, Any, Contains, ◌⊎◌, Some, None}
use Rattle.refine_partition.specs.ClassNames.{ClassNames, class_name}
use Rattle.refine_partition.specs.declared.imports.Import.{Import}

-- the class has the name, which is the next one if it had none, and all others keep theirs
pub record IsNamed (old new : ClassNames) (class next name : ℕ) : Type 0 where
  pub named : class_name new class ≡ Some name
  pub others : (other : ℕ) → other ≢ class → class_name new other ≡ class_name old other
  pub was : (class_name old class ≡ Some name) ⊎ ((class_name old class ≡ None) × (name ≡ next))

-- the importers moved to classes from `fresh` on, those of one class to one class
pub record IsSeparated (old new : List ℕ) (movers : List Import) (fresh next : ℕ) : Type 0 where
  pub total : length new ≡ length old
  pub low : fresh ≤ next
  pub few : next ≤ fresh + length movers
  pub below : All (λ class. class < next) new
  pub moved : All (λ m. fresh ≤ slice_index new m.importer) movers
  pub only : (u : ℕ) → u < length old → fresh ≤ slice_index new u → Any (λ m. m.importer ≡ u) movers
  pub stay : (u : ℕ) → u < length old → slice_index new u < fresh → slice_index new u ≡ slice_index old u
  pub together : (u v : ℕ) → u < length old → v < length old → fresh ≤ slice_index new u → fresh ≤ slice_index new v → slice_index old u ≡ slice_index old v →
      slice_index new u ≡ slice_index new v
  pub apart : (u v : ℕ) → u < length old → v < length old → fresh ≤ slice_index new u → slice_index new u ≡ slice_index new v →
      slice_index old u ≡ slice_index old v

-- the same acts are listed for both routers
pub record SameArrivals (arrivals : List Import) (u v : ℕ) : Type 0 where
  pub there : (act : ℕ) → Contains arrivals (record { importer = u; act = act }) → Contains arrivals (record { importer = v; act = act })
  pub back : (act : ℕ) → Contains arrivals (record { importer = v; act = act }) → Contains arrivals (record { importer = u; act = act })

-- Two routers are in one class where their numbers are equal and the same acts are listed for both. The
-- class of a router for which no act is listed is its number, and all other classes are new.
pub record AreClasses (numbers : List ℕ) (arrivals : List Import) (count : ℕ) (classes : List ℕ) (next : ℕ) : Type 0 where
  pub total : length classes ≡ length numbers
  pub low : count ≤ next
  pub few : next ≤ count + length arrivals
  pub below : All (λ class. class < next) classes
  pub stay : (u : ℕ) → u < length numbers → ¬ Any (λ a. a.importer ≡ u) arrivals → slice_index classes u ≡ slice_index numbers u
  pub moved : All (λ a. count ≤ slice_index classes a.importer) arrivals
  pub together : (u v : ℕ) → u < length numbers → v < length numbers → slice_index numbers u ≡ slice_index numbers v → SameArrivals arrivals u v →
      slice_index classes u ≡ slice_index classes v
  pub same : (u v : ℕ) → u < length numbers → v < length numbers → slice_index classes u ≡ slice_index classes v → slice_index numbers u ≡ slice_index numbers v
  pub alike : (u v : ℕ) → u < length numbers → v < length numbers → slice_index classes u ≡ slice_index classes v → SameArrivals arrivals u v

-- the router is added where its class is one of the first
abbrev pub IsNoted : List ℕ → List ℕ → ℕ → ℕ → ℕ → Type 0
IsNoted old new router class count = ((class < count) × (new ≡ old ++ router ∷ [])) ⊎ ((count ≤ class) × (new ≡ old))

-- the routers whose classes are new
pub record AreReached (classes : List ℕ) (count : ℕ) (reached : List ℕ) : Type 0 where
  pub only : All (λ u. (u < length classes) × (count ≤ slice_index classes u)) reached
  pub all : (u : ℕ) → u < length classes → count ≤ slice_index classes u → Contains reached u

-- Routers of one class have one number. The classes of the reached routers are new, and that of each other
-- router is its number.
pub record AreNewClasses (numbers classes : List ℕ) (count : ℕ) (reached : List ℕ) : Type 0 where
  pub total : length classes ≡ length numbers
  pub same : (u v : ℕ) → u < length numbers → v < length numbers → slice_index classes u ≡ slice_index classes v → slice_index numbers u ≡ slice_index numbers v
  pub new : AreReached classes count reached
  pub stay : (u : ℕ) → u < length numbers → ¬ Contains reached u → slice_index classes u ≡ slice_index numbers u
