-- What is compared of two functions.
use Rattle.std.specs.Prelude.{◌≡◌, ℕ, Bool, not, nat_eq, List, Option}
use Rattle.std.specs.List.{list_any}
use Rattle.dd_core.specs.Sets.{Shown, IsShown}
use Rattle.route_maps.specs.declared.plain.Imported.{Imported}
use Rattle.policy_dd.specs.declared.edge.EdgeFn.{EdgeFn}
use Rattle.policy_dd.specs.Edge.{IsEdgeFn}
use Rattle.policy_dd.specs.Imports.{AreOneImport}

-- the same nodes under the same keys
pub record HaveEqualParts (a b : EdgeFn) : Type 0 where
  pub permit : a.permit ≡ b.permit
  pub rest : a.rest ≡ b.rest
  pub lps : a.lps ≡ b.lps
  pub adds : a.adds ≡ b.adds
  pub outs : a.outs ≡ b.outs

-- some key of the table is another one
abbrev pub key_differs : ℕ → List (ℕ × ℕ) → Bool
key_differs key cases = list_any (λ case. not (nat_eq case.0 key)) cases

-- some key of the one table is another than some key of the other
abbrev pub keys_differ : List (ℕ × ℕ) → List (ℕ × ℕ) → Bool
keys_differ xs ys = list_any (λ x. key_differs x.0 ys) xs

-- functions in one store that import every set alike have the same nodes
abbrev pub OneForm : Type 0
OneForm = (shown : Shown) (a b : EdgeFn) (f g : List ℕ → Option Imported) → IsShown shown → IsEdgeFn shown a f → IsEdgeFn shown b g → AreOneImport f g →
    HaveEqualParts a b
