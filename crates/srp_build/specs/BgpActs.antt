-- The different imports of sessions, each as an act with its function in diagrams.
use Rattle.std.specs.Prelude.{◌≡◌, ◌⊎◌, ℕ, List, [], ◌∷◌, ◌++◌, length, Option, Some, None, Contains, slice_get, flat_map, unwrap_or, if◌then◌else◌}
use Rattle.std.specs.BTreeMap.{BTreeMap, get}
use Rattle.std.specs.Cmp.Lexicographic.{slice_cmp}
use Rattle.std.specs.Global.{Vec}
use Rattle.std.specs.Ordering.{nat_cmp, is_eq}
use Rattle.std.specs.declared.cmp.Ordering.{Ordering}
use Rattle.base_kit.specs.declared.ids.Community.{Community}
use Rattle.dd_core.specs.Sets.{Shown}
use Rattle.policy_dd.specs.declared.edge.EdgeFn.{EdgeFn}
use Rattle.policy_dd.specs.Edge.{IsEdgeFn}
use Rattle.policy_dd.specs.Imports.{AreOneImport, AcceptsSome, AcceptsNone}
use Rattle.route_maps.specs.declared.plain.Imported.{Imported}
use Rattle.srp_build.specs.declared.acts.BgpAct.{BgpAct}
use Rattle.srp_build.specs.declared.hops.Hop.{Hop}
use Rattle.srp_build.specs.declared.imports.ImportByMaps.{ImportByMaps}

-- a case in numbers: its key, and the place of its node
abbrev pub case_numbers : ℕ × ℕ → List ℕ
case_numbers case = case.0 ∷ case.1 ∷ []

-- the same of the case of a community
abbrev pub community_numbers : Community × ℕ → List ℕ
community_numbers case = case.0.0 ∷ case.1 ∷ []

-- what functions are found by: their numbers
abbrev pub FunctionKey : Type 0
FunctionKey = Vec ℕ

-- all of a function, in numbers
abbrev pub function_key : EdgeFn → List ℕ
function_key function = function.permit ∷ function.rest ∷ length function.lps ∷ length function.adds
    ∷ (flat_map case_numbers function.lps ++ flat_map case_numbers function.adds ++ flat_map community_numbers function.outs)

-- how keys are ordered
abbrev pub function_order : FunctionKey → FunctionKey → Ordering
function_order a b = slice_cmp nat_cmp a.items b.items

-- the numbers under a key
abbrev pub numbers_under : BTreeMap FunctionKey (List ℕ) → FunctionKey → List ℕ
numbers_under index key = unwrap_or (get function_order index key) []

-- what stands under a key after a number was put last under one
abbrev pub with_number_noted : FunctionKey → ℕ → FunctionKey → Option (List ℕ) → Option (List ℕ)
with_number_noted key number q known = if is_eq (function_order key q) then Some (unwrap_or known [] ++ number ∷ []) else known

-- the functions import alike
pub record AreAlike (shown : Shown) (f g : EdgeFn) : Type 0 where
  pub one : (F G : List ℕ → Option Imported) → IsEdgeFn shown f F → IsEdgeFn shown g G → AreOneImport F G

-- the functions do not import alike
pub record AreTwoImports (shown : Shown) (f g : EdgeFn) : Type 0 where
  pub differ : (F G : List ℕ → Option Imported) → IsEdgeFn shown f F → IsEdgeFn shown g G → AreOneImport F G → ⊥

-- the act with the number has a function like this one
pub record IsLike (shown : Shown) (acts : List BgpAct) (function : EdgeFn) (number : ℕ) : Type 0 where
  pub act : BgpAct
  pub at : slice_get acts number ≡ Some act
  pub alike : AreAlike shown function act.function

-- no act with one of the numbers has a function like this one
abbrev pub AreUnlike : Shown → List BgpAct → List ℕ → EdgeFn → Type 0
AreUnlike shown acts numbers function = (number : ℕ) (act : BgpAct) → Contains numbers number → slice_get acts number ≡ Some act →
    AreTwoImports shown function act.function

-- each act is found by its function
pub record AreFoundByFunction (index : BTreeMap FunctionKey (List ℕ)) (acts : List BgpAct) : Type 0 where
  pub each : (number : ℕ) (act : BgpAct) (key : FunctionKey) → slice_get acts number ≡ Some act → key.items ≡ function_key act.function →
      Contains (numbers_under index key) number

-- an act came last, that of this import, which is first in this direction
pub record IsNewAct (old new : List BgpAct) (hop : Hop) (import : ImportByMaps) (number : ℕ) : Type 0 where
  pub act : BgpAct
  pub last : new ≡ old ++ act ∷ []
  pub first : act.first ≡ hop
  pub over : act.import ≡ import
  pub next : number ≡ length old

-- an act with this function came last, which is unlike all others
pub record IsNewLike (shown : Shown) (old new : List BgpAct) (hop : Hop) (import : ImportByMaps) (function : EdgeFn) (number : ℕ) : Type 0 where
  pub is : IsNewAct old new hop import number
  pub function_is : is.act.function ≡ function
  pub apart : (other : ℕ) (act : BgpAct) → slice_get old other ≡ Some act → AreTwoImports shown function act.function

-- the number is that of an act like this function, which was there or came last
abbrev pub IsNumberFor : Shown → List BgpAct → List BgpAct → Hop → ImportByMaps → EdgeFn → ℕ → Type 0
IsNumberFor shown old new hop import function number = ((new ≡ old) × IsLike shown old function number) ⊎ IsNewLike shown old new hop import function number

pub record AcceptsAny (shown : Shown) (function : EdgeFn) : Type 0 where
  pub some : (F : List ℕ → Option Imported) → IsEdgeFn shown function F → AcceptsSome F

pub record DeniesAll (shown : Shown) (function : EdgeFn) : Type 0 where
  pub none : (F : List ℕ → Option Imported) → IsEdgeFn shown function F → AcceptsNone F

-- the number of the act of a function, none where it denies all
abbrev pub IsActOfFunction : Shown → List BgpAct → List BgpAct → Hop → ImportByMaps → EdgeFn → Option ℕ → Type 0
IsActOfFunction shown old new hop import function None = (new ≡ old) × DeniesAll shown function
IsActOfFunction shown old new hop import function (Some number) = AcceptsAny shown function × IsNumberFor shown old new hop import function number
