-- Imports of sets of communities, compared with one another.
use Rattle.std.specs.Prelude.{◌≡◌, ◌≢◌, ℕ, List, Option, Some, None}
use Rattle.base_kit.specs.Sets.{IsAscending}
use Rattle.route_maps.specs.declared.plain.Imported.{Imported}
use Rattle.dd_core.specs.Sets.{Shown, Grows}
use Rattle.policy_dd.specs.declared.edge.EdgeFn.{EdgeFn}
use Rattle.policy_dd.specs.Edge.{IsEdgeFn}

-- the two imports are equal on every set
pub record AreOneImport (f g : List ℕ → Option Imported) : Type 0 where
  pub same : (set : List ℕ) → IsAscending set → f set ≡ g set

-- two accepted imports, one of each, differ in preference
pub record DifferInPreference (f g : List ℕ → Option Imported) : Type 0 where
  pub set : List ℕ
  pub other : List ℕ
  pub ascending : IsAscending set
  pub other_ascending : IsAscending other
  pub first : Imported
  pub second : Imported
  pub first_is : f set ≡ Some first
  pub second_is : g other ≡ Some second
  pub differ : first.lp ≢ second.lp

-- all accepted imports of both have one preference
pub record HaveOnePreference (f g : List ℕ → Option Imported) : Type 0 where
  pub same : (set other : List ℕ) (first second : Imported) → IsAscending set → IsAscending other → f set ≡ Some first → g other ≡ Some second →
      first.lp ≡ second.lp

-- some set is accepted
pub record AcceptsSome (f : List ℕ → Option Imported) : Type 0 where
  pub set : List ℕ
  pub ascending : IsAscending set
  pub import : Imported
  pub is : f set ≡ Some import

-- no set is accepted
pub record AcceptsNone (f : List ℕ → Option Imported) : Type 0 where
  pub none : (set : List ℕ) → IsAscending set → f set ≡ None

-- a function keeps its meaning and its form while the store grows
abbrev pub EdgeKept : Type 0
EdgeKept = (old new : Shown) (edge : EdgeFn) (import : List ℕ → Option Imported) → Grows old new → IsEdgeFn old edge import → IsEdgeFn new edge import
