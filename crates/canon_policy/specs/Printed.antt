-- Canonical lists as lines of a configuration.
use Rattle.std.specs.Prelude.{◌≡◌, ℕ, ◌≤◌, List, Option, Some}
use Rattle.base_kit.specs.Sets.{IsAscending}
use Rattle.cfg_ast.specs.printing.WellFormed.{IsNumber}
use Rattle.route_maps.specs.declared.plain.Imported.{Imported}
use Rattle.route_maps.specs.Printable.{IsPrintable}
use Rattle.route_maps.specs.Within.{IsMapWithin}
use Rattle.canon_policy.specs.declared.lists.CanonEdge.{CanonEdge}

-- Preferences and counts of AS numbers are such as one line can say.
pub record HasSmallNumbers (f : List ℕ → Option Imported) : Type 0 where
  pub lp : (set : List ℕ) (import : Imported) → IsAscending set → f set ≡ Some import → IsNumber import.lp
  pub adds : (set : List ℕ) (import : Imported) → IsAscending set → f set ≡ Some import → import.adds ≤ 10

-- Both lists can be printed, and name only communities of the universe.
pub record ArePrintable (universe : List ℕ) (lists : CanonEdge) : Type 0 where
  pub out : IsPrintable lists.out
  pub into : IsPrintable lists.into
  pub out_within : IsMapWithin universe lists.out
  pub into_within : IsMapWithin universe lists.into
