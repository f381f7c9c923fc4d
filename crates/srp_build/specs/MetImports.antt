-- The acts of imports over numbered maps.
use Rattle.std.specs.Prelude.{◌≡◌, ◌⊎◌, ℕ, List, Option, Some, None, slice_get}
use Rattle.dd_core.specs.Sets.{Shown}
use Rattle.policy_dd.specs.Edge.{IsEdgeFn}
use Rattle.policy_dd.specs.Imports.{AreOneImport, AcceptsSome, AcceptsNone}
use Rattle.route_maps.specs.declared.plain.Plain.{Plain}
use Rattle.route_maps.specs.Within.{IsMapWithin}
use Rattle.srp_build.specs.declared.acts.Acts.{Acts}
use Rattle.srp_build.specs.declared.acts.BgpAct.{BgpAct}
use Rattle.srp_build.specs.declared.hops.Hop.{Hop}
use Rattle.srp_build.specs.declared.imports.ImportByMaps.{ImportByMaps}
use Rattle.srp_build.specs.declared.met_imports.Met.{Met}
use Rattle.srp_build.specs.declared.met_imports.MetImports.{MetImports}
use Rattle.srp_build.specs.BgpActs.{AreFoundByFunction, IsNewAct}
use Rattle.srp_build.specs.Plains.{import_over}

-- acts have the functions of their imports, each accepts something, and no two import alike
pub record AreActs (shown : Shown) (maps : List Plain) (acts : List BgpAct) : Type 0 where
  pub functions : (number : ℕ) (act : BgpAct) → slice_get acts number ≡ Some act → IsEdgeFn shown act.function (import_over maps act.import)
  pub accept : (number : ℕ) (act : BgpAct) → slice_get acts number ≡ Some act → AcceptsSome (import_over maps act.import)
  pub differ : (i j : ℕ) (a b : BgpAct) → slice_get acts i ≡ Some a → slice_get acts j ≡ Some b →
      AreOneImport (import_over maps a.import) (import_over maps b.import) → i ≡ j

-- the act with the number imports the same
pub record IsActOver (maps : List Plain) (acts : List BgpAct) (import : ImportByMaps) (number : ℕ) : Type 0 where
  pub act : BgpAct
  pub at : slice_get acts number ≡ Some act
  pub one : AreOneImport (import_over maps import) (import_over maps act.import)

-- the act of an import, none where it accepts nothing
abbrev pub IsActOfImport : List Plain → List BgpAct → ImportByMaps → Option ℕ → Type 0
IsActOfImport maps acts import None = AcceptsNone (import_over maps import)
IsActOfImport maps acts import (Some number) = IsActOver maps acts import number

abbrev pub AreMet : List Plain → List BgpAct → List Met → Type 0
AreMet maps acts met = (place : ℕ) (m : Met) → slice_get met place ≡ Some m → IsActOfImport maps acts m.import m.act

-- what the acts of sessions keep
pub record AreRight (shown : Shown) (maps : List Plain) (table : Acts) (imports : MetImports) : Type 0 where
  pub acts : AreActs shown maps table.acts.items
  pub listed : AreFoundByFunction table.by_function table.acts.items
  pub met : AreMet maps table.acts.items imports.met.items

-- no act came, or that with the number
abbrev pub IsMaybeNew : List BgpAct → List BgpAct → Hop → ImportByMaps → Option ℕ → Type 0
IsMaybeNew old new hop import None = new ≡ old
IsMaybeNew old new hop import (Some number) = (new ≡ old) ⊎ IsNewAct old new hop import number

-- maps that name only communities of a set
abbrev pub AreMapsWithin : List ℕ → List Plain → Type 0
AreMapsWithin set maps = (number : ℕ) (map : Plain) → slice_get maps number ≡ Some map → IsMapWithin set map
