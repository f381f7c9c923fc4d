-- The import of the last direction.
use Rattle.std.proofs.Common.{◌≡◌, List, Option, Some, None, subst}
use Rattle.std.specs.Prelude.{IfSome}
use Rattle.srp_build.specs.declared.acts.BgpAct.{BgpAct}
use Rattle.srp_build.specs.declared.bgp_edges.LastImport.{LastImport}
use Rattle.srp_build.specs.declared.imports.ImportByPolicies.{ImportByPolicies}
use Rattle.srp_build.specs.declared.policy_maps.PolicyMaps.{PolicyMaps}
use Rattle.srp_build.specs.BgpEdges.{IsLastImport}
use Rattle.srp_build.specs.LineMaps.{with_maps}
use Rattle.srp_build.specs.MetImports.{IsActOfImport}

pub no_last : (maps : PolicyMaps) (acts : List BgpAct) (last : Option LastImport) → last ≡ None → IfSome last (IsLastImport maps acts)
no_last maps acts None none = tt
no_last maps acts (Some known) none = absurd cc

-- the act of the last import, where it is this one
pub act_of_last : (maps : PolicyMaps) (acts : List BgpAct) (last found : Option LastImport) (known : LastImport) (import : ImportByPolicies) →
    IfSome last (IsLastImport maps acts) → found ≡ Some known → IfSome found (λ k. last ≡ Some k) → IfSome found (λ k. k.import ≡ import) →
    IsActOfImport maps.maps.items acts (with_maps maps.numbers.items import) known.act
act_of_last maps acts last found known import is found_is from same =
    let at : last ≡ Some known = subst (λ (o : Option LastImport). IfSome o (λ k. last ≡ Some k)) found_is from in
    let one : known.import ≡ import = subst (λ (o : Option LastImport). IfSome o (λ k. k.import ≡ import)) found_is same in
    subst (λ (s : ImportByPolicies). IsActOfImport maps.maps.items acts (with_maps maps.numbers.items s) known.act) one
    (subst (λ (o : Option LastImport). IfSome o (IsLastImport maps acts)) at is)
