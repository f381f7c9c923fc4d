-- What the nodes of a store mean on sets of communities.
use Rattle.std.specs.Prelude.{◌≡◌, ◌≢◌, ℕ, ◌<◌, Bool, true, false, not, List, [], ◌∷◌, Option, length, slice_index, nat_lt, if◌then◌else◌}
use Rattle.std.specs.List.{list_any}
use Rattle.base_kit.specs.Sets.{has, IsAscending}
use Rattle.dd_cache.specs.declared.cache.OpKey.{OpKey}
use Rattle.dd_cache.specs.Memory.{Memory, memory, found, recalled}
use Rattle.dd_core.specs.declared.table.Node.{Node}
use Rattle.dd_core.specs.declared.table.Node.TheVariants.{Constant}
use Rattle.dd_core.specs.Value.{value}
use Rattle.dd_core.specs.Store.{IsStore, IsWithin, Extends}
use Rattle.dd_core.specs.Remembering.{IsMemory}

-- whether the set has a community outside the universe
abbrev pub has_others : List ℕ → List ℕ → Bool
has_others universe set = list_any (λ c. not (has universe c)) set

-- the variables are the places of the communities of the universe, and behind them `others`
abbrev pub test_of : List ℕ → List ℕ → ℕ → Bool
test_of universe set variable =
    if nat_lt variable (length universe) then has set (slice_index universe variable) else has_others universe set

-- what a contract sees of a store: its communities, its nodes by their numbers, and what it remembers
pub record Shown : Type 0 where
  pub universe : List ℕ
  pub nodes : List Node
  pub memory : Memory

-- the value of a node on a set of communities
unfoldable pub value_of : Shown → List ℕ → ℕ → Bool
value_of shown set place = value shown.nodes (test_of shown.universe set) place

-- what every store keeps
pub record IsShown (shown : Shown) : Type 0 where
  pub store : IsStore shown.nodes
  pub ascending : IsAscending shown.universe
  pub within : IsWithin shown.nodes (length shown.universe)
  pub memory : IsMemory shown.nodes shown.memory.entries

-- a store with the two constants alone
abbrev pub fresh : List ℕ → ℕ → Shown
fresh universe capacity = record { universe = universe; nodes = Constant false ∷ Constant true ∷ []; memory = memory capacity [] }

-- the number of a constant
abbrev pub constant_at : Bool → ℕ
constant_at v = if v then 1 else 0

-- the three numbers of an operation, as its key
abbrev pub op_key : ℕ → ℕ → ℕ → OpKey
op_key a b c = record { a = a; b = b; c = c }

-- the node remembered for the operation
abbrev pub remembered : Shown → ℕ → ℕ → ℕ → Option ℕ
remembered shown a b c = found (op_key a b c) shown.memory.entries

-- the store whose memory has the operation at its front, and is otherwise as it was
abbrev pub recalling : Shown → ℕ → ℕ → ℕ → Shown
recalling shown a b c = record shown { memory = memory shown.memory.capacity (recalled (op_key a b c) shown.memory.entries) }

-- the store has kept its nodes, and has maybe more
pub record Grows (old new : Shown) : Type 0 where
  pub universe : new.universe ≡ old.universe
  pub nodes : Extends old.nodes new.nodes
  pub capacity : new.memory.capacity ≡ old.memory.capacity

-- the node's values are those of a test of sets
pub record Means (shown : Shown) (place : ℕ) (test : List ℕ → Bool) : Type 0 where
  pub inside : place < length shown.nodes
  pub value : (set : List ℕ) → value_of shown set place ≡ test set

-- the node has the value of `b` where `a` is true, and that of `c` elsewhere
pub record IsIteOfSets (old new : Shown) (a b c place : ℕ) : Type 0 where
  pub inside : place < length new.nodes
  pub value : (set : List ℕ) → value_of new set place ≡ (if value_of old set a then value_of old set b else value_of old set c)

-- an ascending list of communities on which two nodes differ
pub record DifferOnSet (shown : Shown) (i j : ℕ) : Type 0 where
  pub set : List ℕ
  pub ascending : IsAscending set
  pub differ : value_of shown set i ≢ value_of shown set j
