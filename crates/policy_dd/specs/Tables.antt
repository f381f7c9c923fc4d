-- Tables from numbers to nodes, and how they grow.
use Rattle.std.specs.Prelude.{◌≡◌, ℕ, ◌+◌, ◌<◌, Bool, true, false, ◌&&◌, ◌||◌, nat_eq, nat_lt, List, [], ◌∷◌, ◌++◌, length, Option, Some, None, if◌then◌else◌}
use Rattle.std.specs.List.{slice_index_or}
use Rattle.base_kit.specs.Sets.{has, IsAscending}
use Rattle.dd_core.specs.Sets.{Shown, value_of, DifferOnSet}
use Rattle.policy_dd.specs.Edge.{case_or, keys_of, AllCases}

-- the node under a key
abbrev pub node_at : List (ℕ × ℕ) → ℕ → Option ℕ
node_at [] key = None
node_at (case ∷ cases) key = if nat_eq case.0 key then Some case.1 else node_at cases key

abbrev pub AllInside : Shown → List (ℕ × ℕ) → Type 0
AllInside shown [] = Unit {0}
AllInside shown (case ∷ cases) = (case.1 < length shown.nodes) × AllInside shown cases

-- how many keys at the front are below the key
abbrev pub keys_below : ℕ → List (ℕ × ℕ) → ℕ
keys_below key [] = 0
keys_below key (case ∷ cases) = if nat_lt case.0 key then keys_below key cases + 1 else 0

-- the key at a place
abbrev pub key_of_case : List (ℕ × ℕ) → ℕ → ℕ
key_of_case cases place = (slice_index_or cases place (0, 0)).0

-- the node put under the key, in the order of keys
abbrev pub put_case : ℕ → ℕ → List (ℕ × ℕ) → List (ℕ × ℕ)
put_case key node [] = (key, node) ∷ []
put_case key node (case ∷ cases) =
    if nat_lt case.0 key then case ∷ put_case key node cases else (if nat_eq case.0 key then (key, node) ∷ cases else (key, node) ∷ case ∷ cases)

-- the table holds these keys too, and its nodes are true where `add` is, too
pub record IsTableGrown (old new : Shown) (cases more : List (ℕ × ℕ)) (keys : List ℕ) (add : ℕ → List ℕ → Bool) : Type 0 where
  pub inside : AllInside new more
  pub ascending : IsAscending (keys_of cases) → IsAscending (keys_of more)
  pub keys_are : (k : ℕ) → has (keys_of more) k ≡ has (keys_of cases) k || has keys k
  pub value : (set : List ℕ) (k : ℕ) → case_or new set more k false ≡ case_or old set cases k false || add k set

abbrev pub IsMoreBy : Shown → Shown → List (ℕ × ℕ) → List (ℕ × ℕ) → ℕ → ℕ → Type 0
IsMoreBy old new cases more key node = IsTableGrown old new cases more (key ∷ []) (λ k set. nat_eq key k && value_of old set node)

-- each key's node has the value of a test of the key and the set, and no other key passes the test
pub record IsTable (shown : Shown) (cases : List (ℕ × ℕ)) (test : ℕ → List ℕ → Bool) : Type 0 where
  pub ascending : IsAscending (keys_of cases)
  pub value : (set : List ℕ) (k : ℕ) → case_or shown set cases k false ≡ test k set

-- a table with exactly these keys, whose nodes have the values of a test
pub record IsTabled (shown : Shown) (test : ℕ → List ℕ → Bool) (keys : List ℕ) (cases : List (ℕ × ℕ)) : Type 0 where
  pub inside : AllInside shown cases
  pub keys_are : keys_of cases ≡ keys
  pub value : (set : List ℕ) (k : ℕ) (other : Bool) → case_or shown set cases k other ≡ (if has keys k then test k set else other)

-- the case is put last, or its node is everywhere as true as the plain one
pub data IsPushedUnlessPlain (shown : Shown) (cases more : List (ℕ × ℕ)) (key node plain : ℕ) : Type 0 where
  pushed : more ≡ cases ++ (key, node) ∷ [] → DifferOnSet shown node plain → IsPushedUnlessPlain shown cases more key node plain
  left_out : more ≡ cases → ((set : List ℕ) → value_of shown set node ≡ value_of shown set plain) → IsPushedUnlessPlain shown cases more key node plain

-- those of these keys whose test differs on some set from the one for keys without a node
pub record IsSelection (shown : Shown) (other test : ℕ → List ℕ → Bool) (keys : List ℕ) (cases : List (ℕ × ℕ)) : Type 0 where
  pub each : AllCases shown other cases
  pub ascending : IsAscending (keys_of cases)
  pub keys_are : (k : ℕ) → has (keys_of cases) k ≡ true → has keys k ≡ true
  pub value : (set : List ℕ) (k : ℕ) → case_or shown set cases k (other k set) ≡ (if has keys k then test k set else other k set)
