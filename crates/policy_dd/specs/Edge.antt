-- What a session does to the communities of a route (RFC 1997), as decision diagrams over sets of communities:
-- which sets are accepted, with which preference and count, and which communities are carried on.
use Rattle.std.specs.Prelude.{◌≡◌, ◌≢◌, ℕ, ◌<◌, Bool, true, false, ◌&&◌, nat_eq, List, [], ◌∷◌, length, Option, Some, None, if◌then◌else◌}
use Rattle.base_kit.specs.declared.ids.Community.{Community}
use Rattle.base_kit.specs.Sets.{has, with_number, IsAscending}
use Rattle.route_maps.specs.declared.plain.Imported.{Imported}
use Rattle.dd_core.specs.Sets.{Shown, value_of}
use Rattle.policy_dd.specs.declared.edge.EdgeFn.{EdgeFn}

-- A table gives numbers nodes: its keys are numbers, each with a node.

-- the value of the node under a key, or another value where the key has none
abbrev pub case_or : Shown → List ℕ → List (ℕ × ℕ) → ℕ → Bool → Bool
case_or shown set [] key other = other
case_or shown set (case ∷ cases) key other =
    if nat_eq case.0 key then value_of shown set case.1 else case_or shown set cases key other

abbrev pub keys_of : List (ℕ × ℕ) → List ℕ
keys_of [] = []
keys_of (case ∷ cases) = case.0 ∷ keys_of cases

-- the node under a key has, on some set, another value than a key without a node
pub record IsCase (shown : Shown) (other : ℕ → List ℕ → Bool) (case : ℕ × ℕ) : Type 0 where
  pub inside : case.1 < length shown.nodes
  pub set : List ℕ
  pub ascending : IsAscending set
  pub differ : value_of shown set case.1 ≢ other case.0 set

abbrev pub AllCases : Shown → (ℕ → List ℕ → Bool) → List (ℕ × ℕ) → Type 0
AllCases shown other [] = Unit {0}
AllCases shown other (case ∷ cases) = IsCase shown other case × AllCases shown other cases

-- keys ascend, and none could be left out
pub record AreCases (shown : Shown) (other : ℕ → List ℕ → Bool) (cases : List (ℕ × ℕ)) : Type 0 where
  pub ascending : IsAscending (keys_of cases)
  pub each : AllCases shown other cases

-- a key without a node is false on every set
abbrev pub never : ℕ → List ℕ → Bool
never key set = false

-- the table of the communities
abbrev pub by_number : List (Community × ℕ) → List (ℕ × ℕ)
by_number [] = []
by_number (case ∷ cases) = (case.0.0, case.1) ∷ by_number cases

-- a community without a node is carried where the set has it and `rest` is true
abbrev pub carried_by_rest : Shown → ℕ → ℕ → List ℕ → Bool
carried_by_rest shown rest c set = has set c && value_of shown set rest

-- whether the community is carried
abbrev pub is_carried : Shown → EdgeFn → List ℕ → ℕ → Bool
is_carried shown edge set c = case_or shown set (by_number edge.outs) c (carried_by_rest shown edge.rest c set)

-- the set is accepted, with this preference, this count, and the communities that are carried
pub record GivesImport (shown : Shown) (edge : EdgeFn) (set : List ℕ) (import : Imported) : Type 0 where
  pub permit : value_of shown set edge.permit ≡ true
  pub lp : case_or shown set edge.lps import.lp false ≡ true
  pub adds : case_or shown set edge.adds import.adds false ≡ true
  pub ascending : IsAscending import.comms
  pub comms : (c : ℕ) → has import.comms c ≡ is_carried shown edge set c

-- what the diagrams say of the set is this import
abbrev pub ImportIs : Shown → EdgeFn → List ℕ → Option Imported → Type 0
ImportIs shown edge set None = value_of shown set edge.permit ≡ false
ImportIs shown edge set (Some import) = GivesImport shown edge set import

-- on the set at most one key has a true node, and none where `permit` is false
pub record IsOneOf (shown : Shown) (permit : ℕ) (cases : List (ℕ × ℕ)) (set : List ℕ) : Type 0 where
  pub one : (v w : ℕ) → case_or shown set cases v false ≡ true → case_or shown set cases w false ≡ true → v ≡ w
  pub implied : (v : ℕ) → value_of shown set permit ≡ false → case_or shown set cases v false ≡ false

-- The diagrams mean the import on every set of communities, and have the one form of all that mean it:
-- nodes are true only where `permit` is; preferences and counts ascend and each comes on some set; the
-- communities in `outs` are those of the universe that some set does not carry as `rest` says; and
-- `rest` says of a set without a community outside the universe what it says of the set with one more.
pub record IsEdgeFn (shown : Shown) (edge : EdgeFn) (import : List ℕ → Option Imported) : Type 0 where
  pub permit_inside : edge.permit < length shown.nodes
  pub rest_inside : edge.rest < length shown.nodes
  pub means : (set : List ℕ) → IsAscending set → ImportIs shown edge set (import set)
  pub one_lp : (set : List ℕ) → IsAscending set → IsOneOf shown edge.permit edge.lps set
  pub one_adds : (set : List ℕ) → IsAscending set → IsOneOf shown edge.permit edge.adds set
  pub lps : AreCases shown never edge.lps
  pub adds : AreCases shown never edge.adds
  pub outs : AreCases shown (carried_by_rest shown edge.rest) (by_number edge.outs)
  pub outs_known : (c : ℕ) → has (keys_of (by_number edge.outs)) c ≡ true → has shown.universe c ≡ true
  pub outs_implied : (set : List ℕ) (c : ℕ) → IsAscending set → value_of shown set edge.permit ≡ false → is_carried shown edge set c ≡ false
  pub rest : (set : List ℕ) (outside : ℕ) → IsAscending set → has shown.universe outside ≡ false → value_of shown set edge.rest ≡ value_of shown set edge.permit
      && value_of shown (with_number outside set) edge.rest
